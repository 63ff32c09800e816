-- The order from which the search starts, as a suffix that grows from its end.
use Rattle.std.proofs.Common.{◌≡◌, inl, inr, ℕ, zero, suc, ◌+◌, ◌-◌, ◌<◌, ◌≤◌, Bool, true, false, cond, ◌==◌, List, [], ◌∷◌, ◌++◌, length, drop, get_or, reverse, Some, None, refl, sym, ap, subst, arith, append_assoc, ◌∙◌}
use Rattle.std.proofs.lemmas.List.{drop_more, get_or_append_left, get_or-append-add, reverse-append, reverse-reverse}
use Rattle.std.proofs.Math.Seq.{drop-append_seam}
use Rattle.irv_base.specs.Candidates.{is_in}
use Rattle.irv_base.specs.Orders.{is_order, Elects}
use Rattle.irv_base.proofs.Distinct.{Distinct, distinct-head, distinct-rest}
use Rattle.irv_base.proofs.Members.{Member, here, there, member_at, member_cases, member_nil, member-append_right, member-from_contains, out-from_none}
use Rattle.irv_base.proofs.Orders.{order_facts}
use Rattle.assertions.specs.Suffixes.{is_suffix, IsAlternative}
use Rattle.assertions.specs.Hardness.{low, start_order, with_first_two_exchanged}
use Rattle.assertions.proofs.Endings.{suffix_facts}
use Rattle.assertions.proofs.Listings.{start_is_alternative}
use Rattle.set_tallies.specs.Bags.{Kept}
use Rattle.suffix_tree.specs.Suffixes.{Suffix, whole}
use Rattle.suffix_tree.specs.Scores.{IsScoredOver}
use Rattle.suffix_tree.specs.declared.scored.Scored.{Scored}
use Rattle.suffix_tree.proofs.Tails.{before-out}
use Rattle.bound_search.specs.Reached.{IsReached}
use Rattle.bound_search.proofs.Endings.{order_is_suffix}

record Ends (order : List ℕ) (m : ℕ) : Type 0 where
  before : List ℕ
  next : ℕ
  last : ℕ
  split : order ≡ before ++ next ∷ last ∷ []
  long : length before ≡ m

ends_of : (order : List ℕ) (m : ℕ) → length order ≡ m + 2 → Ends order m
ends_of [] m e = absurd (omega (arith, e))
ends_of (x ∷ []) m e = absurd (omega (arith, e))
ends_of (x ∷ y ∷ []) m e = record { before = []; next = x; last = y; split = refl; long = omega (arith, e) }
ends_of (x ∷ y ∷ z ∷ rest) zero e = absurd (omega (arith, e))
ends_of (x ∷ y ∷ z ∷ rest) (suc m) e =
    let r = ends_of (y ∷ z ∷ rest) m (omega (arith, e)) in
    record { before = x ∷ r.before; next = r.next; last = r.last; split = ap (λ s. x ∷ s) r.split; long = omega (arith, r.long) }

at_any : (xs : List ℕ) (i d d' : ℕ) → i < length xs → get_or xs i d ≡ get_or xs i d'
at_any [] i d d' l = absurd (omega arith)
at_any (x ∷ xs) zero d d' l = refl
at_any (x ∷ xs) (suc i) d d' l = at_any xs i d d' (omega arith)

exchanged : (before : List ℕ) (a b : ℕ) → start_order (before ++ a ∷ b ∷ []) ≡ before ++ b ∷ a ∷ []
exchanged before a b =
    ap (λ r. reverse (with_first_two_exchanged r)) (reverse-append before (a ∷ b ∷ []))
    ∙ reverse-append (a ∷ b ∷ []) (reverse before)
    ∙ ap (λ s. s ++ b ∷ a ∷ []) (reverse-reverse before)

module _ (n : ℕ) (order : List ℕ) (two : 1 < n) (h : is_order n order ≡ true) where
  ends : Ends order (n - 2)
  ends = ends_of order (n - 2) (omega (arith, two, (order_facts n order h).long))

  started : start_order order ≡ ends.before ++ ends.last ∷ ends.next ∷ []
  started = ap start_order ends.split ∙ exchanged ends.before ends.next ends.last

  start_whole : is_order n (start_order order) ≡ true
  start_whole = (start_is_alternative n ends.last order two h (
    ends.before ++ ends.next ∷ [],
    ends.split
        ∙ sym (append_assoc ends.before (ends.next ∷ []) (ends.last ∷ [])),
  )).0

  -- the last two candidates
  pub first_two : (list : List ℕ) (a b : ℕ) → list ≡ order → a ≡ get_or list (n - 2) a → b ≡ get_or list (n - 2 + 1) b →
      (a < n) × (b < n) × (is_in (a ∷ []) b ≡ false) × (b ∷ a ∷ [] ≡ drop (n - 2) (start_order order))
  first_two list a b same at at' =
      let tail : List ℕ = ends.next ∷ ends.last ∷ [] in
      let split : list ≡ ends.before ++ tail = same ∙ ends.split in
      let place : n - 2 ≡ length ends.before + 0 = omega (arith, ends.long) in
      let place' : n - 2 + 1 ≡ length ends.before + 1 = omega (arith, ends.long) in
      let a_is : a ≡ ends.next = at ∙ ap (λ xs. get_or xs (n - 2) a) split ∙ ap (λ i. get_or (ends.before ++ tail) i a) place
      ∙ get_or-append-add ends.before tail 0 a in
      let b_is : b ≡ ends.last = at' ∙ ap (λ xs. get_or xs (n - 2 + 1) b) split ∙ ap (λ i. get_or (ends.before ++ tail) i b) place'
      ∙ get_or-append-add ends.before tail 1 b in
      let facts = order_facts n order h in
      let inside : (z : ℕ) → Member z tail → z < n = λ z m. facts.below z (subst (Member z) (sym ends.split) (member-append_right ends.before m)) in
      let apart : Distinct tail = distinct-rest ends.before tail (subst Distinct ends.split facts.apart) in
      let out : is_in (ends.next ∷ []) ends.last ≡ false =
      out-from_none ends.last (ends.next ∷ []) (λ m. elim (member_cases m) [ inl e ↦ distinct-head apart (member_at (sym e)) | inr r ↦ member_nil r ]) in (
        subst (λ x. x < n) (sym a_is) (inside ends.next here),
        subst (λ x. x < n) (sym b_is) (inside ends.last (there here)),
        ap (λ x. is_in (x ∷ []) b) a_is ∙ ap (is_in (ends.next ∷ [])) b_is ∙ out,
        ap (λ x. b ∷ x ∷ []) a_is ∙ ap (λ x. x ∷ ends.next ∷ []) b_is
            ∙ sym (ap (λ k. drop k (start_order order)) (sym ends.long) ∙ ap (drop (length ends.before)) started
            ∙ drop-append_seam ends.before (ends.last ∷ ends.next ∷ [])),
      )

  pub first_below : (list : List ℕ) (a : ℕ) → list ≡ order → a ≡ get_or list (n - 2) a → a < n
  first_below list a same at = (first_two list a (get_or list (n - 2 + 1) 0)
      same at (at_any list (n - 2 + 1) 0 (get_or list (n - 2 + 1) 0) (omega (arith, two, ap length same, (order_facts n order h).long)))).0

  -- the candidate before a place
  pub next_one : (list : List ℕ) (at c : ℕ) → list ≡ order → 0 < at → at + 2 ≤ n → c ≡ get_or list (at - 1) c →
      (c < n) × (is_in (drop at (start_order order)) c ≡ false) × (c ∷ drop at (start_order order) ≡ drop (at - 1) (start_order order))
  next_one list at c same some within here' =
      let start : List ℕ = start_order order in
      let long : length start ≡ n = (order_facts n start start_whole).long in
      let lt : at - 1 < length ends.before = omega (arith, ends.long, some, within) in
      let lt' : at - 1 < length start = omega (arith, long, some, within) in
      let next : at - 1 + 1 ≡ at = omega (arith, some) in
      let is : c ≡ get_or start (at - 1) c =
      here'
      ∙ ap (λ xs. get_or xs (at - 1) c) (same ∙ ends.split)
      ∙ get_or_append_left ends.before (ends.next ∷ ends.last ∷ []) c (at - 1) lt
      ∙ sym (ap (λ xs. get_or xs (at - 1) c) started ∙ get_or_append_left ends.before (ends.last ∷ ends.next ∷ []) c (at - 1) lt) in
      let proper : is_suffix n start ≡ true = order_is_suffix n start start_whole in (
        (suffix_facts n start proper).below c (member-from_contains c start (at - 1, lt', sym is)),
        before-out n at c start proper some (omega (arith, long, within)) is,
        sym (drop_more start (at - 1) c lt' ∙ ap (λ x. x ∷ drop (at - 1 + 1) start) (sym is) ∙ ap (λ k. c ∷ drop k start) next),
      )

from_whole : (t : Suffix) (order : List ℕ) → whole t ≡ Some order → order ≡ t.list
from_whole t order e = go (length t.list == t.n) e where
  go : (b : Bool) → cond b (Some t.list) None ≡ Some order → order ≡ t.list
  go true e = cc
  go false e = cc

pub start_reached : (bag : Kept) (order : List ℕ) (winner : ℕ) (tail : Suffix) (s : Scored) (first : List ℕ) → 1 < bag.n → is_order bag.n order ≡ true →
    tail.n ≡ bag.n → tail.list ≡ start_order order →
    s.tail ≡ tail → IsScoredOver bag s → whole s.tail ≡ Some first → Elects order winner → IsReached bag winner (record { order = first; margin = s.low })
start_reached bag order winner tail s first two h number list same scored is elects =
    let first_is : first ≡ s.tail.list = from_whole s.tail first is in
    let started : first ≡ start_order order = first_is ∙ ap (λ (t : Suffix). t.list) same ∙ list in
    record {
      alternative = subst (λ o. IsAlternative bag.n winner o) (sym started) (start_is_alternative bag.n winner order two h elects);
      hardness = λ records of. ap (low bag.n records) first_is
          ∙ sym ((scored records of).low_is ∙ ap (λ n. low n records s.tail.list) (ap (λ (t : Suffix). t.n) same ∙ number));
    }
