-- The canonical certificate: the assertions that the search prints, their margin, and the order that no true assertion with a
-- larger margin refutes.
use Rattle.std.specs.Prelude.{◌≡◌, ◌≢◌, ◌↔◌, ◌⊎◌, ℕ, ◌≤◌, Bool, false, ◌&&◌, ◌==◌, nat_le, nat_lt, List, [], ◌∷◌, map, filter, find, count_by, Option, Some, None, Contains, AllPairs, IsTrue}
use Rattle.std.specs.List.{list_any}
use Rattle.irv_base.specs.Orders.{Elects}
use Rattle.assertions.specs.declared.assertion.Assertion.{Assertion}
use Rattle.assertions.specs.declared.assertion.Assertion.TheVariants.{Neb, Nen}
use Rattle.assertions.specs.declared.assertion.Claim.{Claim}
use Rattle.assertions.specs.FixedOrder.{is_before}
use Rattle.assertions.specs.Assertions.{assertions, true_margin}
use Rattle.assertions.specs.Suffixes.{is_suffix, IsAlternative, alternative_orders, alternative_suffixes, parts_ending, comes_before}
use Rattle.assertions.specs.Hardness as hardness

-- ---- over any function `low` of suffixes, and a margin that is meant to be the best

-- a suffix that reaches the margin, though its parent, the suffix without its first candidate, doesn't
abbrev pub is_end : (List ℕ → ℕ) → ℕ → List ℕ → Bool
is_end low margin [] = false
is_end low margin (c ∷ []) = nat_le margin (low (c ∷ []))
is_end low margin (c ∷ d ∷ parent) =
    nat_le margin (low (c ∷ d ∷ parent)) && nat_lt (low (d ∷ parent)) margin

abbrev pub certificate_ends : ℕ → ℕ → (List ℕ → ℕ) → ℕ → List (List ℕ)
certificate_ends n winner low margin = filter (is_end low margin) (alternative_suffixes n winner)

-- the alternative order of that hardness that is the smallest when read backwards
abbrev pub certificate_order : ℕ → ℕ → (List ℕ → ℕ) → ℕ → Option (List ℕ)
certificate_order n winner low margin =
    find (λ order. low order == margin) (alternative_orders n winner)

-- the number of suffixes that end in c, aren't whole, and are below the margin
abbrev pub cover_count : ℕ → (List ℕ → ℕ) → ℕ → ℕ → ℕ
cover_count n low margin c = count_by (λ suffix. nat_lt (low suffix) margin) (parts_ending n c)

-- the number of suffixes that end in c, aren't whole, are at or below the margin, and come before the order
abbrev pub order_count : ℕ → (List ℕ → ℕ) → ℕ → List ℕ → ℕ → ℕ
order_count n low margin order c =
    count_by (λ suffix. nat_le (low suffix) margin && comes_before suffix order) (parts_ending n c)

-- ---- the certificate of some records

abbrev pub is_same : Assertion → Assertion → Bool
is_same (Neb w l) (Neb v k) = (w == v) && (l == k)
is_same (Nen w l s) (Nen v k u) = (w == v) && (l == k) && (s == u)
is_same (Neb w l) (Nen v k u) = false
is_same (Nen w l s) (Neb v k) = false

abbrev pub is_some_same : Option Assertion → Assertion → Bool
is_some_same None a = false
is_some_same (Some b) a = is_same b a

-- the refuters of the ends, each once, in the fixed order
abbrev pub certificate_assertions : ℕ → List (List ℕ) → ℕ → List Assertion
certificate_assertions n records winner =
    let best = hardness.best_margin n winner (hardness.low n records) in
    let ends = certificate_ends n winner (hardness.low n records) best in
    filter (λ a. list_any (λ suffix. is_some_same (hardness.refuter n records suffix) a) ends)
    (assertions n)

abbrev pub claim_of : List (List ℕ) → Assertion → Claim
claim_of records a = record { assertion = a; margin = true_margin records a }

-- the certificate's assertions with their margins
abbrev pub certificate_claims : ℕ → List (List ℕ) → ℕ → List Claim
certificate_claims n records winner =
    map (claim_of records) (certificate_assertions n records winner)

-- ---- the rules, as a reader applies them

-- the ends: suffixes that elect another candidate and reach the margin, though their parents don't
pub record IsEnd (n : ℕ) (records : List (List ℕ)) (winner margin : ℕ) (suffix : List ℕ)
    : Type 0 where
  pub proper : IsTrue (is_suffix n suffix)
  pub alternative : (c : ℕ) × (c ≢ winner) × Elects suffix c
  pub shortest : IsTrue (is_end (hardness.low n records) margin suffix)

-- the margin is the smallest hardness of an alternative order; the order has that hardness, and is the smallest of those that do
-- when read backwards; the assertions are the refuters of the ends, each once, in the fixed order
pub record IsCertificate (n : ℕ) (records : List (List ℕ)) (winner margin : ℕ) (order : List ℕ)
    (claims : List Assertion) : Type 0 where
  pub least : (other : List ℕ) → IsAlternative n winner other →
      margin ≤ hardness.low n records other
  pub alternative : IsAlternative n winner order
  pub reached : hardness.low n records order ≡ margin
  pub first : (other : List ℕ) → IsAlternative n winner other →
      hardness.low n records other ≡ margin → (other ≡ order) ⊎ IsTrue (comes_before order other)
  pub listed : (a : Assertion) →
      (Contains claims a
      ↔ ((suffix : List ℕ) × IsEnd n records winner margin suffix
      × hardness.IsRefuter n records suffix a))
  pub rising : AllPairs (λ a b. IsTrue (is_before a b)) claims
