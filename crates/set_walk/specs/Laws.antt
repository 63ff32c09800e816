-- The laws of walks by sets: these walks give what the definitions over suffixes give.
use Rattle.std.specs.Prelude.{◌≡◌, ◌≢◌, ◌↔◌, ℕ, ◌-◌, ◌<◌, ◌≤◌, ◌^◌, max, Bool, not, List, ◌∷◌, length, find, None, Contains, IsTrue, nat_lt, nat_le, Ok}
use Rattle.std.specs.List.{list_any}
use Rattle.irv_base.specs.Candidates.{all_but, set_of}
use Rattle.irv_base.specs.Orders.{Elects}
use Rattle.assertions.specs.declared.assertion.Assertion.{Assertion}
use Rattle.assertions.specs.Suffixes.{is_suffix, alternative_orders}
use Rattle.assertions.specs.Refutation.{refutes, covers}
use Rattle.assertions.specs.Hardness.{low, refuter, best_margin}
use Rattle.assertions.specs.Certificate.{certificate_order, certificate_assertions}
use Rattle.assertions.specs.Steps.{outside, step, step_refuter}
use Rattle.set_walk.specs.Walks.{standing, counted, first_by_sets, passes}
use Rattle.set_walk.specs.Dives.{dives, walked}
use Rattle.set_walk.specs.Answers.{first_within}
use Rattle.set_walk.specs.Bests.{best_by_sets, order_by_sets, assertions_by_sets}

-- one more candidate raises the low to its step, if the step is more
abbrev pub LowBySteps : Type 0
LowBySteps =
    (n : ℕ) (records : List (List ℕ)) (c : ℕ) (suffix : List ℕ) → IsTrue (is_suffix n (c ∷ suffix)) →
    low n records (c ∷ suffix) ≡ max (low n records suffix) (step n records (set_of suffix) c)

-- and then the refuter is the step's
abbrev pub RefuterBySteps : Type 0
RefuterBySteps =
    (n : ℕ) (records : List (List ℕ)) (c : ℕ) (suffix : List ℕ) → IsTrue (is_suffix n (c ∷ suffix)) →
    low n records suffix < step n records (set_of suffix) c →
    refuter n records (c ∷ suffix) ≡ step_refuter n records (set_of suffix) c

abbrev pub BestBySets : Type 0
BestBySets =
    (n winner : ℕ) (records : List (List ℕ)) → winner < n → 1 < n →
    best_margin n winner (low n records) ≡ best_by_sets n winner (step n records)

abbrev pub OrderBySets : Type 0
OrderBySets =
    (n winner : ℕ) (records : List (List ℕ)) → winner < n → 1 < n →
    certificate_order n winner (low n records) (best_margin n winner (low n records))
    ≡ order_by_sets n winner (step n records) (best_by_sets n winner (step n records))

abbrev pub CertificateBySets : Type 0
CertificateBySets =
    (n winner : ℕ) (records : List (List ℕ)) → winner < n → 1 < n →
    certificate_assertions n records winner ≡ assertions_by_sets n records winner

-- the least order that no assertion of a list refutes
abbrev pub StandingBySets : Type 0
StandingBySets =
    (n winner : ℕ) (list : List Assertion) →
    find (λ order. not (list_any (λ a. refutes a order) list)) (alternative_orders n winner)
    ≡ first_by_sets n winner (passes list)

-- a list of assertions covers exactly if no walk gets past it
abbrev pub CoversBySets : Type 0
CoversBySets =
    (n winner : ℕ) (list : List Assertion) →
    (IsTrue (covers n winner list) ↔ (first_by_sets n winner (passes list) ≡ None))

-- the sets that are reached are those of the suffixes that aren't whole, elect another candidate and aren't refuted
abbrev pub StandingIs : Type 0
StandingIs =
    (n winner : ℕ) (list : List Assertion) (set : ℕ) →
    (Contains (standing n winner (passes list)) set
    ↔ ((suffix : List ℕ) × IsTrue (is_suffix n suffix) × (length suffix < n)
    × ((c : ℕ) × (c ≢ winner) × Elects suffix c)
    × IsTrue (not (list_any (λ a. refutes a suffix) list)) × (set_of suffix ≡ set)))

-- the certificate's sets are those below its margin: `check` needs no more sets than the search
abbrev pub CertificateStands : Type 0
CertificateStands =
    (n winner : ℕ) (records : List (List ℕ)) → 0 < best_margin n winner (low n records) →
    standing n winner (passes (certificate_assertions n records winner))
    ≡ standing n winner
    (λ set c. nat_lt (step n records set c) (best_margin n winner (low n records)))

-- the empty set, the set of only the winner and the set of all candidates are never reached
abbrev pub StandingAreFew : Type 0
StandingAreFew =
    (n winner : ℕ) (goes : ℕ → ℕ → Bool) → winner < n → 1 < n →
    length (standing n winner goes) ≤ 2 ^ n - 3

-- the walk into each set once answers by the sets that count: `Spent` exactly if there are more than the budget allows
abbrev pub WalkIs : Type 0
WalkIs =
    (n winner sets : ℕ) (goes : ℕ → ℕ → Bool) → 0 < n →
    walked (dives n winner sets goes) ≡ first_within n winner sets goes

-- a set that counts is reached; if no order walks, a set that is reached counts
abbrev pub CountedStand : Type 0
CountedStand =
    (n winner : ℕ) (goes : ℕ → ℕ → Bool) →
    (length (counted n winner goes) ≤ length (standing n winner goes))
    × (first_by_sets n winner goes ≡ None → counted n winner goes ≡ standing n winner goes)

-- a budget of this many sets never runs out
abbrev pub NeverSpent : Type 0
NeverSpent =
    (n winner sets : ℕ) (goes : ℕ → ℕ → Bool) → winner < n → 1 < n → 2 ^ n - 3 ≤ sets →
    first_within n winner sets goes ≡ Ok (first_by_sets n winner goes)

-- a certificate is covered within the sets that are reached below its margin
abbrev pub CertificateCovered : Type 0
CertificateCovered =
    (n winner sets : ℕ) (records : List (List ℕ)) →
    0 < best_margin n winner (low n records) →
    length
    (standing n winner
    (λ set c. nat_lt (step n records set c) (best_margin n winner (low n records))))
    ≤ sets →
    first_within n winner sets (passes (certificate_assertions n records winner)) ≡ Ok None

-- the best margin is the smallest by whose steps an order walks
abbrev pub LeastIsBest : Type 0
LeastIsBest =
    (n winner margin : ℕ) (records : List (List ℕ)) → winner < n → 1 < n →
    ((order_by_sets n winner (step n records) margin ≡ None)
    ↔ (margin < best_by_sets n winner (step n records)))

-- as the margin rises to the best, a walk within a smaller margin counts at most the sets that are reached below the best
abbrev pub SearchCounts : Type 0
SearchCounts =
    (n winner margin : ℕ) (records : List (List ℕ)) →
    margin < best_margin n winner (low n records) →
    length (counted n winner (λ set c. nat_le (step n records set c) margin))
    ≤ length
    (standing n winner
    (λ set c. nat_lt (step n records set c) (best_margin n winner (low n records))))

-- and if no step from these sets, or to a last candidate, lies between the two margins, the walk counts them all
abbrev pub SearchCountsAll : Type 0
SearchCountsAll =
    (n winner margin : ℕ) (records : List (List ℕ)) → winner < n → 1 < n →
    margin < best_margin n winner (low n records) →
    ((c : ℕ) → Contains (all_but n winner) c → margin < step n records 0 c →
    best_margin n winner (low n records) ≤ step n records 0 c) →
    ((set c : ℕ) →
    Contains (standing n winner (λ set c. nat_le (step n records set c) margin)) set →
    Contains (outside n set) c → margin < step n records set c →
    best_margin n winner (low n records) ≤ step n records set c) →
    counted n winner (λ set c. nat_le (step n records set c) margin)
    ≡ standing n winner
    (λ set c. nat_lt (step n records set c) (best_margin n winner (low n records)))
