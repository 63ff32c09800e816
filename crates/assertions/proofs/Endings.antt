-- The orders that end in a suffix, and those that elect another candidate.
use Rattle.std.proofs.Common.{Contains, List, [], ap, append_assoc, arith, false, if◌then◌else◌, inl, inr, length, length-append, nat_lt, ne_eqb, not, subst, suc, sym, true, zero, ℕ, ◌++◌, ◌+◌, ◌-◌, ◌<◌, ◌==◌, ◌↔◌, ◌∙◌, ◌∷◌, ◌≡◌, ◌≢◌}
use Rattle.std.proofs.lemmas.Bool.{and_parts, cases_Bool, eqb-false, not-true, not_from_false}
use Rattle.std.specs.List.{list_all}
use Rattle.irv_base.specs.Candidates.{all_but, candidates, is_distinct, is_in}
use Rattle.irv_base.specs.Orders.{Elects, EndsIn, is_order}
use Rattle.irv_base.proofs.Distinct.{Distinct, below-from_test, distinct-from_test, distinct-head, distinct-rest, more, none}
use Rattle.irv_base.proofs.Members.{Member, candidate-member, contains-from_member, from_candidates, from_filter, from_flat_map, here, member-append_right, member-filter, member-flat_map, member-from_contains, member_cases, member_nil, none-from_out, out-from_none}
use Rattle.irv_base.proofs.Orders.{Order, last_split, order_facts, order_test}
use Rattle.assertions.specs.Suffixes.{alternative_orders, is_suffix, orders_ending}

-- a suffix: distinct candidates below n
pub record Suffix (n : ℕ) (t : List ℕ) : Type 0 where
  pub apart : Distinct t
  pub below : (c : ℕ) → Member c t → c < n

pub suffix_facts : (n : ℕ) (t : List ℕ) → is_suffix n t ≡ true → Suffix n t
suffix_facts n t h =
    let (d, below) = and_parts (is_distinct t) (list_all (λ c. nat_lt c n) t) h in
    record { apart = distinct-from_test t d; below = below-from_test n t below }

pub one_alone : (n c : ℕ) → c < n → Suffix n (c ∷ [])
one_alone n c l = record {
  apart = more member_nil none;
  below = λ z m.
      elim (member_cases m) [ inl s ↦ subst (λ x. x < n) s l | inr r ↦ absurd (member_nil r) ];
}

pub record Ending (n : ℕ) (t order : List ℕ) : Type 0 where
  pub long : length order ≡ n
  pub apart : Distinct order
  pub below : (c : ℕ) → Member c order → c < n
  pub before : List ℕ
  pub split : order ≡ before ++ t

pub from_orders_ending : (n k : ℕ) (t order : List ℕ) → k + length t ≡ n → Distinct t → ((c : ℕ) → Member c t → c < n) → Member order (orders_ending n k t) →
    Ending n t order
from_orders_ending n zero t order long d below m =
    elim (member_cases m) [
      | inl e ↦ record {
        long = ap length (sym e) ∙ omega arith;
        apart = subst Distinct e d;
        below = λ c k. below c (subst (Member c) (sym e) k);
        before = [];
        split = sym e;
      }
      | inr r ↦ absurd (member_nil r)
    ]
from_orders_ending n (suc k) t order long d below m =
    let (c, inn, k') = from_flat_map (λ c. if is_in t c then [] else orders_ending n k (c ∷ t)) order (candidates n) m in
    elim (cases_Bool (is_in t c)) [
      | inl yes' ↦ absurd (member_nil (rw yes' at k'))
      | inr f ↦
          let m' : Member order (orders_ending n k (c ∷ t)) = rw f at k' in
          let r = from_orders_ending n k (c ∷ t) order (omega arith) (more (none-from_out f) d)
          (λ x q. elim (member_cases q) [ inl e ↦ subst (λ z. z < n) e (from_candidates inn) | inr r ↦ below x r ]) m' in
          record {
            long = r.long;
            apart = r.apart;
            below = r.below;
            before = r.before ++ c ∷ [];
            split = r.split ∙ sym (append_assoc r.before (c ∷ []) t);
          }
    ]

pub orders_ending-member : (n k : ℕ) (before t : List ℕ) → length before ≡ k → Distinct (before ++ t) → ((c : ℕ) → Member c (before ++ t) → c < n) →
    Member (before ++ t) (orders_ending n k t)
orders_ending-member n zero [] t long d below = here
orders_ending-member n zero (x ∷ before) t long d below = cc
orders_ending-member n (suc k) [] t long d below = cc
orders_ending-member n (suc k) (x ∷ xs) t long d below =
    let (before, c, e) = last_split x xs in
    let same : (x ∷ xs) ++ t ≡ before ++ c ∷ t = ap (λ s. s ++ t) e ∙ append_assoc before (c ∷ []) t in
    let d' : Distinct (before ++ c ∷ t) = subst Distinct same d in
    let below' : (z : ℕ) → Member z (before ++ c ∷ t) → z < n = λ z m. below z (subst (Member z) (sym same) m) in
    let short : length before ≡ k = omega (arith, ap length e, length-append before (c ∷ [])) in
    let m : Member (before ++ c ∷ t) (orders_ending n k (c ∷ t)) = orders_ending-member n k before (c ∷ t) short d' below' in
    let f : is_in t c ≡ false = out-from_none c t (distinct-head (distinct-rest before (c ∷ t) d')) in
    subst (λ o. Member o (orders_ending n (suc k) t)) (sym same)
    (member-flat_map (λ c. if is_in t c then [] else orders_ending n k (c ∷ t)) (candidate-member c n (below' c (member-append_right before here))) (rw f m))

order-from_ending : {n : ℕ} {t order : List ℕ} → Ending n t order → is_order n order ≡ true
order-from_ending {n} {order = order} e = order_test n order e.long e.apart e.below

pub orders_ending_are : (n k : ℕ) (t order : List ℕ) → k + length t ≡ n → is_suffix n t ≡ true →
    (Contains (orders_ending n k t) order ↔ ((is_order n order ≡ true) × EndsIn order t))
orders_ending_are n k t order long proper = (forth, back) where
  forth : Contains (orders_ending n k t) order → (is_order n order ≡ true) × EndsIn order t
  forth h =
      let e = from_orders_ending n k t order long (suffix_facts n t proper).apart (suffix_facts n t proper).below
      (member-from_contains order (orders_ending n k t) h) in
      (order-from_ending e, (e.before, e.split))

  back : (is_order n order ≡ true) × EndsIn order t → Contains (orders_ending n k t) order
  back h =
      let o : Order n order = order_facts n order h.0 in
      let before = h.1.0 in
      let same : order ≡ before ++ t = h.1.1 in
      let short : length before ≡ k = omega (arith, o.long, ap length same, length-append before t) in
      contains-from_member (subst (λ x. Member x (orders_ending n k t)) (sym same)
      (orders_ending-member n k before t short (subst Distinct same o.apart) (λ c m. o.below c (subst (Member c) (sym same) m))))

pub from_alternative : (n winner : ℕ) (order : List ℕ) → Member order (alternative_orders n winner) →
    (is_order n order ≡ true) × ((c : ℕ) × (c ≢ winner) × Elects order c)
from_alternative n winner order m =
    let (c, k, m') = from_flat_map (λ c. orders_ending n (n - 1) (c ∷ [])) order (all_but n winner) m in
    let (k', ne) = from_filter (λ c. not (c == winner)) (candidates n) k in
    let below : c < n = from_candidates k' in
    let e = from_orders_ending n (n - 1) (c ∷ []) order (omega arith) (one_alone n c below).apart (one_alone n c below).below m' in
    (order-from_ending e, (c, eqb-false c winner (not-true (c == winner) ne), (e.before, e.split)))

pub alternative-member : (n winner c : ℕ) (order : List ℕ) → is_order n order ≡ true → c ≢ winner → Elects order c → Member order (alternative_orders n winner)
alternative-member n winner c order h ne ends =
    let o : Order n order = order_facts n order h in
    let before = ends.0 in
    let same : order ≡ before ++ c ∷ [] = ends.1 in
    let short : length before ≡ n - 1 = omega (arith, o.long, ap length same, length-append before (c ∷ [])) in
    let below : (z : ℕ) → Member z (before ++ c ∷ []) → z < n = λ z m. o.below z (subst (Member z) (sym same) m) in
    let mine : c < n = below c (member-append_right before here) in
    member-flat_map (λ c. orders_ending n (n - 1) (c ∷ [])) (member-filter (λ c. not (c == winner)) (candidates n) (candidate-member c n mine)
    (not_from_false (c == winner) (ne_eqb c winner ne)))
    (subst (λ x. Member x (orders_ending n (n - 1) (c ∷ []))) (sym same)
    (orders_ending-member n (n - 1) before (c ∷ []) short (subst Distinct same o.apart) below))

pub alternative_orders_are : (n winner : ℕ) (order : List ℕ) →
    (Contains (alternative_orders n winner) order ↔ ((is_order n order ≡ true) × ((c : ℕ) × (c ≢ winner) × Elects order c)))
alternative_orders_are n winner order = (
  λ h. from_alternative n winner order (member-from_contains order (alternative_orders n winner) h),
  λ h. contains-from_member (alternative-member n winner h.1.0 order h.0 h.1.1 h.1.2),
)
