-- How one more candidate in front of a suffix compares with each other candidate.
use Rattle.std.specs.Prelude.{ℕ, if◌then◌else◌, List, map}
use Rattle.irv_base.specs.Candidates.{all_but, has}
use Rattle.assertions.specs.declared.assertion.Assertion.{Assertion}
use Rattle.assertions.specs.declared.assertion.Assertion.TheVariants.{Neb, Nen}
use Rattle.assertions.specs.Scores.{Score}
use Rattle.assertions.specs.Steps.{more, step, step_refuter}

-- its NEN over a candidate in the set, with only the set and itself remaining, or the NEB over it of a candidate outside
abbrev pub offer_of : ℕ → ℕ → ℕ → Assertion
offer_of set c d = if has set d then Nen c d (more set c) else Neb d c

abbrev pub offers : ℕ → ℕ → ℕ → List Assertion
offers n set c = map (offer_of set c) (all_but n c)

-- the step of the set with c, and its refuter
abbrev pub step_score : ℕ → List (List ℕ) → ℕ → ℕ → Score
step_score n records set c =
    record { low = step n records set c; by = step_refuter n records set c }
