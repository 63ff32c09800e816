-- The cards of the worked examples.
use Rattle.std.specs.Prelude.{ℕ, if◌then◌else◌, List, [], ◌∷◌}
use Rattle.irv_base.specs.Records.{is_first}
use Rattle.manifest.specs.declared.recorded.Recorded.{Recorded}
use Rattle.manifest.specs.declared.recorded.Recorded.TheVariants.{Ranked, Without}
use Rattle.assorters.specs.declared.seen.Seen.{Seen}
use Rattle.assorters.specs.declared.seen.Seen.TheVariants.{Found, Missing}

-- 2 if the first candidate is 0, and 0 if it is 1
abbrev pub lead : List ℕ → ℕ
lead ranking = if is_first ranking 0 then 2 else (if is_first ranking 1 then 0 else 1)

-- three cards, the last of which has no record
abbrev pub three_records : List Recorded
three_records = Ranked (0 ∷ []) ∷ Ranked (0 ∷ []) ∷ Without ∷ []

abbrev pub one_other : List Seen
one_other = Found (0 ∷ []) ∷ Found (1 ∷ []) ∷ Missing ∷ []

abbrev pub both_alike : List Seen
both_alike = Found (0 ∷ []) ∷ Found (0 ∷ []) ∷ Missing ∷ []
