-- The worked example of one card that is recorded, and found, to be for candidate 0.
use Rattle.std.specs.Prelude.{ℕ, List, [], ◌∷◌}
use Rattle.irv_base.specs.Names.{Id}
use Rattle.manifest.specs.declared.recorded.Recorded.{Recorded}
use Rattle.manifest.specs.declared.recorded.Recorded.TheVariants.{Ranked}
use Rattle.assorters.specs.declared.seen.Seen.TheVariants.{Found}
use Rattle.assorters.specs.Examples.{lead}
use Rattle.session_state.specs.Content.{Content, begun_with}
use Rattle.session_state.specs.declared.digests.Digests.{Digests}
use Rattle.seen_file.specs.Seen.{Entry}

-- one claim, which says that 0 leads
abbrev pub one_lead : List (List ℕ → ℕ)
one_lead = lead ∷ []

abbrev pub one_record : List Recorded
one_record = Ranked (0 ∷ []) ∷ []

abbrev pub one_actual : List (List ℕ)
one_actual = (0 ∷ []) ∷ []

abbrev pub one_entry : List Entry
one_entry = (1, Found (0 ∷ [])) ∷ []

-- its session, with no rounds yet and a limit of 0.05
abbrev pub one_begun : Id → List ℕ → Digests → Content
one_begun contest seed digests = begun_with contest 1 (1 ∷ []) seed 50000 100 digests
