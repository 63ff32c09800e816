-- The orders and the suffixes that elect other candidates are listed, each once, in order; and where the search starts.
use Rattle.std.proofs.Common.{AllPairs, Bool, Contains, List, [], ap, append_assoc, arith, cond, eq-eqb, false, if◌then◌else◌, inl, inr, length, length-append, lt-ltb, ltb-true, nat_lt, not, reverse, subst, suc, sym, true, zero, ℕ, ◌++◌, ◌-◌, ◌<◌, ◌==◌, ◌↔◌, ◌∙◌, ◌∷◌, ◌≡◌}
use Rattle.std.proofs.lemmas.Bool.{and_from}
use Rattle.std.proofs.lemmas.List.{reverse-append, reverse-reverse}
use Rattle.std.specs.List.{list_all}
use Rattle.irv_base.specs.Candidates.{candidates, is_in}
use Rattle.irv_base.specs.Orders.{Elects, is_order}
use Rattle.irv_base.proofs.Distinct.{Distinct, distinct-head, distinct-rest}
use Rattle.irv_base.proofs.Members.{Member, contains-from_member, from_candidates, from_filter, in-from_member, list_all-each, member-append_cases, member-append_left, member-append_right, member-filter, member-from_contains, member_at, member_cases, member_nil, there}
use Rattle.irv_base.proofs.Orders.{last_split, order_facts}
use Rattle.assertions.specs.Hardness.{start_order, with_first_two_exchanged}
use Rattle.assertions.specs.Suffixes.{IsAlternative, alternative_orders, is_suffix, orders_ending, parts_ending, suffixes_ending}
use Rattle.assertions.proofs.Endings.{Suffix, one_alone, suffix_facts}
use Rattle.assertions.proofs.Enumerated.{from_suffixes_ending, suffix_test, suffixes_ending-member, suffixes_ending-sorted}
use Rattle.assertions.proofs.Firsts.{IsBefore, across-endings, ending, one_more-across}
use Rattle.assertions.proofs.Sorted.{Sorted, sorted-filter, sorted-flat_map, sorted-get, sorted-range}

-- ---- orders
orders_ending-sorted : (n k : ℕ) (t : List ℕ) → Sorted IsBefore (orders_ending n k t)
orders_ending-sorted n zero t = Rattle.assertions.proofs.Sorted.more (λ y m. absurd (member_nil m)) Rattle.assertions.proofs.Sorted.none
orders_ending-sorted n (suc k) t =
    sorted-flat_map ◌<◌ IsBefore (λ c. if is_in t c then [] else orders_ending n k (c ∷ t)) (λ c. within c (is_in t c) (orders_ending-sorted n k (c ∷ t)))
    (one_more-across n k t) (sorted-range 0 n)
  where
    within : (c : ℕ) (b : Bool) → Sorted IsBefore (orders_ending n k (c ∷ t)) → Sorted IsBefore (cond b [] (orders_ending n k (c ∷ t)))
    within c true s = Rattle.assertions.proofs.Sorted.none
    within c false s = s

pub alternative_orders-sorted : (n winner : ℕ) → Sorted IsBefore (alternative_orders n winner)
alternative_orders-sorted n winner =
    sorted-flat_map ◌<◌ IsBefore (λ c. orders_ending n (n - 1) (c ∷ [])) (λ c. orders_ending-sorted n (n - 1) (c ∷ []))
    (λ c d x y lt a b. across-endings x y [] c d lt (ending n (n - 1) (c ∷ []) x a) (ending n (n - 1) (d ∷ []) y b))
    (sorted-filter ◌<◌ (λ c. not (c == winner)) (sorted-range 0 n))

pub alternative_orders_rise : (n winner : ℕ) → AllPairs IsBefore (alternative_orders n winner)
alternative_orders_rise n winner = sorted-get IsBefore (alternative_orders n winner) (alternative_orders-sorted n winner)

-- ---- parts
pub parts_rise : (n c : ℕ) → AllPairs IsBefore (parts_ending n c)
parts_rise n c = sorted-get IsBefore (parts_ending n c) (sorted-filter IsBefore (λ suffix. nat_lt (length suffix) n)
    (suffixes_ending-sorted n (n - 1) (c ∷ [])))

pub parts_ending_are : (n c : ℕ) (s : List ℕ) → c < n → (Contains (parts_ending n c) s ↔ ((is_suffix n s ≡ true) × Elects s c × (length s < n)))
parts_ending_are n c s below = (forth, back) where
  forth : Contains (parts_ending n c) s → (is_suffix n s ≡ true) × Elects s c × (length s < n)
  forth h =
      let (m, short) = from_filter (λ suffix. nat_lt (length suffix) n) (suffixes_ending n (n - 1) (c ∷ [])) (member-from_contains s (parts_ending n c) h) in
      let l = from_suffixes_ending n (n - 1) (c ∷ []) s (one_alone n c below) m in
      (suffix_test l.suffix, (l.before, l.split), ltb-true (length s) n short)

  back : (is_suffix n s ≡ true) × Elects s c × (length s < n) → Contains (parts_ending n c) s
  back h =
      let before = h.1.0 in
      let same : s ≡ before ++ c ∷ [] = h.1.1 in
      let lt : length s < n = h.2 in
      let m : Member s (suffixes_ending n (n - 1) (c ∷ [])) =
      subst (λ x. Member x (suffixes_ending n (n - 1) (c ∷ []))) (sym same)
      (suffixes_ending-member n (n - 1) before (c ∷ []) (subst (Suffix n) same (suffix_facts n s h.0))
      (omega (arith, ap length same, length-append before (c ∷ [])))) in
      contains-from_member (member-filter (λ suffix. nat_lt (length suffix) n) (suffixes_ending n (n - 1) (c ∷ [])) m (lt-ltb (length s) n lt))

-- ---- the order from which the search starts
exchanged-last : (before : List ℕ) (a b : ℕ) → start_order (before ++ a ∷ b ∷ []) ≡ before ++ b ∷ a ∷ []
exchanged-last before a b =
    ap (λ r. reverse (with_first_two_exchanged r)) (reverse-append before (a ∷ b ∷ []))
    ∙ reverse-append (a ∷ b ∷ []) (reverse before)
    ∙ ap (λ s. s ++ b ∷ a ∷ []) (reverse-reverse before)

pub start_is_alternative : (n winner : ℕ) (order : List ℕ) → 1 < n → is_order n order ≡ true → Elects order winner → IsAlternative n winner (start_order order)
start_is_alternative n winner order two h (front, ends) = go front ends where
  moved : (z a b : ℕ) (before : List ℕ) → Member z (before ++ a ∷ b ∷ []) → Member z (before ++ b ∷ a ∷ [])
  moved z a b before m =
      elim (member-append_cases before (a ∷ b ∷ []) m) [
        | inl x ↦ member-append_left (b ∷ a ∷ []) x
        | inr y ↦ member-append_right before (elim (member_cases y) [
          | inl e ↦ there (member_at e)
          | inr k ↦ elim (member_cases k) [ inl e ↦ member_at e | inr none ↦ absurd (member_nil none) ]
        ])
      ]

  go : (front : List ℕ) → order ≡ front ++ winner ∷ [] → IsAlternative n winner (start_order order)
  go [] same = absurd (omega (arith, (order_facts n order h).long, ap length same))
  go (x ∷ xs) same =
      let (before, a, e) = last_split x xs in
      let whole : order ≡ before ++ a ∷ winner ∷ [] = same ∙ ap (λ s. s ++ winner ∷ []) e ∙ append_assoc before (a ∷ []) (winner ∷ []) in
      let start : start_order order ≡ before ++ winner ∷ a ∷ [] = ap start_order whole ∙ exchanged-last before a winner in
      let long : length (before ++ winner ∷ a ∷ []) ≡ n = omega (
        arith,
        (order_facts n order h).long,
        ap length whole,
        length-append before (a ∷ winner ∷ []),
        length-append before (winner ∷ a ∷ []),
      ) in
      let test : is_order n (before ++ winner ∷ a ∷ []) ≡ true =
      and_from (length (before ++ winner ∷ a ∷ []) == n) (list_all (λ c. is_in (before ++ winner ∷ a ∷ []) c) (candidates n))
      (eq-eqb (length (before ++ winner ∷ a ∷ [])) n long)
      (list_all-each (λ c. is_in (before ++ winner ∷ a ∷ []) c) (candidates n)
      (λ c m. in-from_member (moved c a winner before (subst (Member c) whole ((order_facts n order h).whole c (from_candidates m)))))) in
      let apart : Distinct (a ∷ winner ∷ []) = distinct-rest before (a ∷ winner ∷ []) (subst Distinct whole (order_facts n order h).apart) in (
        ap (is_order n) start ∙ test,
        (
          a,
          λ s. distinct-head apart (member_at (sym s)),
          (
            before ++ winner ∷ [],
            start
                ∙ sym (append_assoc before (winner ∷ []) (a ∷ [])),
          ),
        ),
      )
