-- There is an alternative order, and one of the alternative orders has the best margin.
use Rattle.std.proofs.Common.{Bool, Contains, List, Some, [], arith, eq-eqb, eqb-true, false, if◌then◌else◌, inl, inr, length, map, ne_eqb, not, suc, true, zero, ℕ, ◌+◌, ◌-◌, ◌<◌, ◌==◌, ◌∷◌, ◌≡◌, ◌≢◌, ◌≤◌}
use Rattle.std.proofs.lemmas.Bool.{and_cases, cases_eq, false_from_ne_true, not_from_false}
use Rattle.std.specs.List.{list_all}
use Rattle.irv_base.specs.Candidates.{candidates, is_in}
use Rattle.irv_base.proofs.Distinct.{distinct-le, distinct-range, length-range}
use Rattle.irv_base.proofs.Members.{Member, candidate-member, contains-from_member, find-member, from_find, from_list_all, from_map, here, member-filter, member-flat_map, member-from_in, member-map, there}
use Rattle.assertions.specs.Certificate.{certificate_order}
use Rattle.assertions.specs.Hardness.{best_margin}
use Rattle.assertions.specs.Suffixes.{alternative_orders, orders_ending}
use Rattle.irv_base.proofs.Least.{least-member, least_is}

from_not_all : (p : ℕ → Bool) (xs : List ℕ) → list_all p xs ≡ false → (x : ℕ) × Member x xs × (p x ≡ false)
from_not_all p [] h = cc
from_not_all p (x ∷ xs) h =
    elim (and_cases (p x) (list_all p xs) h) [
      | inl f ↦ (x, here, f)
      | inr r ↦ let (y, m, f) = from_not_all p xs r in (y, there m, f)
    ]

-- each suffix is the suffix of some order
pub some_ending : (n k : ℕ) (t : List ℕ) → k + length t ≡ n → (order : List ℕ) × Member order (orders_ending n k t)
some_ending n zero t long = (t, here)
some_ending n (suc k) t long =
    let (c, m, f) = from_not_all (is_in t) (candidates n) (false_from_ne_true (list_all (is_in t) (candidates n)) full) in
    let (order, q) = some_ending n k (c ∷ t) (omega arith) in
    (order, member-flat_map (λ c. if is_in t c then [] else orders_ending n k (c ∷ t)) m (rw f q))
  where
    full : list_all (is_in t) (candidates n) ≡ true → ⊥
    full h =
        let le : length (candidates n) ≤ length t = distinct-le (candidates n) t (distinct-range 0 n)
        (λ z m. member-from_in z t (from_list_all (is_in t) m h)) in
        omega (arith, length-range 0 n)

pub some_alternative : (n winner : ℕ) → winner < n → 1 < n → (order : List ℕ) × Member order (alternative_orders n winner)
some_alternative n winner below two =
    elim (cases_eq 0 winner) [
      | inl e ↦ ending 1 two (λ s. absurd (omega arith))
      | inr ne ↦ ending 0 (omega arith) ne
    ]
  where
    ending : (c : ℕ) → c < n → c ≢ winner → (order : List ℕ) × Member order (alternative_orders n winner)
    ending c l ne =
        let (order, m) = some_ending n (n - 1) (c ∷ []) (omega arith) in (
          order,
          member-flat_map (λ c. orders_ending n (n - 1) (c ∷ []))
              (member-filter (λ c. not (c == winner)) (candidates n) (candidate-member c n l) (not_from_false (c == winner) (ne_eqb c winner ne))) m,
        )

-- ---- the best margin, over any hardness
module _ (n winner : ℕ) (hardness : List ℕ → ℕ) where
  pub best-le : (order : List ℕ) → Member order (alternative_orders n winner) → best_margin n winner hardness ≤ hardness order
  best-le order m = least-member (hardness order) (map hardness (alternative_orders n winner)) (member-map hardness m)

  pub best_is : winner < n → 1 < n → (order : List ℕ) × Member order (alternative_orders n winner) × (hardness order ≡ best_margin n winner hardness)
  best_is below two =
      let (order, m) = some_alternative n winner below two in
      from_best (least_is (member-map hardness m))
    where
      from_best : Member (best_margin n winner hardness) (map hardness (alternative_orders n winner)) →
          (order : List ℕ) × Member order (alternative_orders n winner) × (hardness order ≡ best_margin n winner hardness)
      from_best k = from_map hardness (best_margin n winner hardness) (alternative_orders n winner) k

  pub order_is : winner < n → 1 < n →
      (order : List ℕ) × (certificate_order n winner hardness (best_margin n winner hardness) ≡ Some order) × Contains (alternative_orders n winner) order ×
      (hardness order ≡ best_margin n winner hardness)
  order_is below two =
      let (order, m, e) = best_is below two in
      let best = best_margin n winner hardness in
      let (found, f) = find-member (λ order. hardness order == best) order (alternative_orders n winner) m (eq-eqb (hardness order) best e) in
      let (k, t) = from_find (λ order. hardness order == best) found (alternative_orders n winner) f in
      (found, f, contains-from_member k, eqb-true (hardness found) best t)
