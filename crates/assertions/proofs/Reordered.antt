-- The records may be in any order.
use Rattle.std.proofs.Common.{List, Option, cond, filter, find, map, nat_lt, sym, ℕ, ◌&&◌, ◌-◌, ◌==◌, ◌≡◌}
use Rattle.std.proofs.lemmas.List.Sorted.{sum_by-IsPermutation}
use Rattle.std.specs.List.{list_any}
use Rattle.std.specs.List.Sorted.{IsPermutation}
use Rattle.irv_base.specs.Records.{is_ahead, is_first, is_some_of, top}
use Rattle.assertions.specs.Assertions.{assertions, votes_against, votes_for}
use Rattle.assertions.specs.Certificate.{certificate_claims, certificate_ends, is_some_same}
use Rattle.assertions.specs.Hardness.{best_margin, greatest, low, refuter}
use Rattle.assertions.specs.Refutation.{refutes}
use Rattle.assertions.specs.declared.assertion.Assertion.{Assertion}
use Rattle.assertions.specs.declared.assertion.Assertion.TheVariants.{Neb, Nen}
use Rattle.assertions.specs.declared.assertion.Claim.{Claim}

votes_for-reordered : (records others : List (List ℕ)) → IsPermutation records others → (a : Assertion) → votes_for records a ≡ votes_for others a
votes_for-reordered records others h (Neb w l) = sym (sum_by-IsPermutation (λ r. cond (is_first r w) 1 0) records others h)
votes_for-reordered records others h (Nen w l rest) = sym (sum_by-IsPermutation (λ r. cond (is_some_of (top r rest) w) 1 0) records others h)

votes_against-reordered : (records others : List (List ℕ)) → IsPermutation records others → (a : Assertion) → votes_against records a ≡ votes_against others a
votes_against-reordered records others h (Neb w l) = sym (sum_by-IsPermutation (λ r. cond (is_ahead r l w) 1 0) records others h)
votes_against-reordered records others h (Nen w l rest) = sym (sum_by-IsPermutation (λ r. cond (is_some_of (top r rest) l) 1 0) records others h)

-- the definitions see the records only through these two numbers
abbrev refuters_by : (Assertion → ℕ) → (Assertion → ℕ) → ℕ → List ℕ → List Assertion
refuters_by f g n suffix = filter (λ a. refutes a suffix && nat_lt (g a) (f a)) (assertions n)

abbrev low_by : (Assertion → ℕ) → (Assertion → ℕ) → ℕ → List ℕ → ℕ
low_by f g n suffix = greatest (map (λ a. f a - g a) (refuters_by f g n suffix))

abbrev refuter_by : (Assertion → ℕ) → (Assertion → ℕ) → ℕ → List ℕ → Option Assertion
refuter_by f g n suffix = find (λ a. (f a - g a) == low_by f g n suffix) (refuters_by f g n suffix)

abbrev claims_by : (Assertion → ℕ) → (Assertion → ℕ) → ℕ → ℕ → List Claim
claims_by f g n winner =
    map (λ a. let c : Claim = record { assertion = a; margin = f a - g a } in c)
    (filter (λ a. list_any (λ suffix. is_some_same (refuter_by f g n suffix) a)
    (certificate_ends n winner (low_by f g n) (best_margin n winner (low_by f g n)))) (assertions n))

pub records_in_any_order : (n winner : ℕ) (records others : List (List ℕ)) → IsPermutation records others →
    (low n records ≡ low n others) × (refuter n records ≡ refuter n others) × (certificate_claims n records winner ≡ certificate_claims n others winner)
records_in_any_order n winner records others h = (
  (λ i. low_by (f i) (g i) n),
  (λ i. refuter_by (f i) (g i) n),
  (λ i. claims_by (f i) (g i) n winner),
)
  where
    f : votes_for records ≡ votes_for others
    f i a = votes_for-reordered records others h a i

    g : votes_against records ≡ votes_against others
    g i a = votes_against-reordered records others h a i
