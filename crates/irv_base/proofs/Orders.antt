-- Orders: a list of n candidates that has each of n candidates has each of them once, and no others.
use Rattle.std.proofs.Common.{◌≡◌, ℕ, ◌<◌, ◌≤◌, true, ◌==◌, inl, inr, List, [], ◌∷◌, ◌++◌, length, refl, ap, subst, arith, eq-eqb, eqb-true}
use Rattle.std.specs.List.{list_all}
use Rattle.std.proofs.lemmas.Bool.{and_parts, and_from, cases_Bool, cases_lt}
use Rattle.irv_base.specs.Candidates.{candidates, is_in}
use Rattle.irv_base.specs.Orders.{is_order}
use Rattle.irv_base.proofs.Members.{Member, member_cases, member-from_in, none-from_out, from_list_all, list_all-each, from_candidates, candidate-member}
use Rattle.irv_base.proofs.Distinct.{Distinct, more, distinct-le, distinct_or_shorter, distinct-range, length-range}

pub record Order (n : ℕ) (order : List ℕ) : Type 0 where
  pub long : length order ≡ n
  pub apart : Distinct order
  pub below : (c : ℕ) → Member c order → c < n
  pub whole : (c : ℕ) → c < n → Member c order

pub order_facts : (n : ℕ) (order : List ℕ) → is_order n order ≡ true → Order n order
order_facts n order h = record {
  long = long;
  apart = elim (distinct_or_shorter order) [
    | inl d ↦ d
    | inr s ↦ let le : length (candidates n) ≤ length s.0 = distinct-le (candidates n) s.0 (distinct-range 0 n) (λ z m. s.2 z (whole z (from_candidates m))) in
        let lt : length s.0 < length order = s.1 in
        absurd (omega (arith, long, length-range 0 n))
  ];
  below = λ c m. elim (cases_lt c n) [
    | inl l ↦ l
    | inr g ↦
        let d : Distinct (c ∷ candidates n) = more (λ k. let l : c < n = from_candidates k in absurd (omega arith)) (distinct-range 0 n) in
        let le : length (c ∷ candidates n) ≤ length order = distinct-le (c ∷ candidates n) order d
        (λ z k. elim (member_cases k) [ inl e ↦ subst (λ x. Member x order) e m | inr r ↦ whole z (from_candidates r) ]) in
        absurd (omega (arith, long, length-range 0 n))
  ];
  whole = whole;
}
  where
    long : length order ≡ n
    long = eqb-true (length order) n (and_parts (length order == n) (list_all (λ c. is_in order c) (candidates n)) h).0

    whole : (c : ℕ) → c < n → Member c order
    whole c l = member-from_in c order (from_list_all (λ c. is_in order c) (candidate-member c n l)
        (and_parts (length order == n) (list_all (λ c. is_in order c) (candidates n)) h).1)

pub order_test : (n : ℕ) (order : List ℕ) → length order ≡ n → Distinct order → ((c : ℕ) → Member c order → c < n) → is_order n order ≡ true
order_test n order long d below =
    and_from (length order == n) (list_all (λ c. is_in order c) (candidates n)) (eq-eqb (length order) n long)
    (list_all-each (λ c. is_in order c) (candidates n) (λ c m. elim (cases_Bool (is_in order c)) [
      | inl t ↦ t
      | inr f ↦
          let le : length (c ∷ order) ≤ length (candidates n) =
          distinct-le (c ∷ order) (candidates n) (more (none-from_out f) d)
          (λ z k. elim (member_cases k) [ inl e ↦ subst (λ x. Member x (candidates n)) e m | inr r ↦ candidate-member z n (below z r) ]) in
          absurd (omega (arith, length-range 0 n))
    ]))

pub last_split : (x : ℕ) (xs : List ℕ) → (ys : List ℕ) × (y : ℕ) × (x ∷ xs ≡ ys ++ y ∷ [])
last_split x [] = ([], x, refl)
last_split x (y ∷ xs) = let (ys, z, e) = last_split y xs in (x ∷ ys, z, ap (λ s. x ∷ s) e)
