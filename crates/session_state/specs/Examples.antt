-- The cards and claims of the worked examples.
use Rattle.std.specs.Prelude.{List, [], ◌∷◌}
use Rattle.manifest.specs.declared.recorded.Recorded.{Recorded}
use Rattle.manifest.specs.declared.recorded.Recorded.TheVariants.{Ranked}
use Rattle.assorters.specs.declared.seen.Seen.{Seen}
use Rattle.assorters.specs.declared.seen.Seen.TheVariants.{Found}
use Rattle.assorters.specs.Examples.{lead}
use Rattle.session_state.specs.Draws.{Audited}

abbrev pub one_record : List Recorded
one_record = Ranked (0 ∷ []) ∷ []

abbrev pub claim_of_one : Audited
claim_of_one = record { value = lead; margin = 1 }

abbrev pub lead_of_one : List Audited
lead_of_one = claim_of_one ∷ []

-- three cards for 0, 0 and neither, which is a lead of two
abbrev pub three_lead : List Recorded
three_lead = Ranked (0 ∷ []) ∷ Ranked (0 ∷ []) ∷ Ranked [] ∷ []

-- the third card is seen to be for 1
abbrev pub one_worse : List Seen
one_worse = Found (0 ∷ []) ∷ Found (0 ∷ []) ∷ Found (1 ∷ []) ∷ []

abbrev pub claim_of_two : Audited
claim_of_two = record { value = lead; margin = 2 }

abbrev pub lead_of_three : List Audited
lead_of_three = claim_of_two ∷ []

-- the same values with a margin of 1, which is a smaller claim about the same cards
abbrev pub two_leads : List Audited
two_leads = claim_of_two ∷ claim_of_one ∷ []
