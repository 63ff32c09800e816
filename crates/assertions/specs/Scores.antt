-- What a suffix has against it, and how a search computes that from what its parent has against it.
use Rattle.std.specs.Prelude.{ℕ, Bool, false, not, ◌&&◌, ◌||◌, ◌==◌, nat_lt, if◌then◌else◌, List, ◌∷◌, ◌++◌, map, filter, fold, Option, Some, None}
use Rattle.irv_base.specs.Candidates.{candidates, is_in, set_of}
use Rattle.assertions.specs.declared.assertion.Assertion.{Assertion}
use Rattle.assertions.specs.declared.assertion.Assertion.TheVariants.{Neb, Nen}
use Rattle.assertions.specs.FixedOrder.{is_before}
use Rattle.assertions.specs.Assertions.{true_margin}
use Rattle.assertions.specs.Hardness.{greatest, low, refuter}

-- a low, and the assertion that gives it
pub record Score : Type 0 where
  pub low : ℕ
  pub by : Option Assertion

abbrev pub score_of : ℕ → List (List ℕ) → List ℕ → Score
score_of n records suffix = record { low = low n records suffix; by = refuter n records suffix }

abbrev pub no_score : Score
no_score = record { low = 0; by = None }

abbrev pub is_before_that : Assertion → Option Assertion → Bool
is_before_that a None = false
is_before_that a (Some b) = is_before a b

-- the score after one more assertion with its margin: the greater margin, and at the same margin the first assertion
abbrev pub offered : Score → ℕ → Assertion → Score
offered score margin a =
    if nat_lt score.low margin || ((score.low == margin) && is_before_that a score.by)
    then record { low = margin; by = Some a } else score

abbrev pub all_offered : List (List ℕ) → Score → List Assertion → Score
all_offered records score claims = fold (λ s a. offered s (true_margin records a) a) score claims

-- the assertions that one more candidate in front adds: the NEBs that it loses to those outside, and the NENs that it wins against
-- those after it
abbrev pub nebs_against : ℕ → ℕ → List ℕ → List Assertion
nebs_against n c suffix = map (λ w. Neb w c) (filter (λ w. not (is_in suffix w)) (candidates n))

abbrev pub nens_for : ℕ → ℕ → List ℕ → List Assertion
nens_for c set behind = map (λ l. Nen c l set) behind

abbrev pub added_refuters : ℕ → ℕ → List ℕ → List Assertion
added_refuters n c suffix = nebs_against n c (c ∷ suffix) ++ nens_for c (set_of (c ∷ suffix)) suffix

-- the greatest margin of a true assertion among those that one more candidate in front adds, or 0
abbrev pub added : ℕ → List (List ℕ) → ℕ → List ℕ → ℕ
added n records c suffix = greatest (map (true_margin records) (added_refuters n c suffix))
