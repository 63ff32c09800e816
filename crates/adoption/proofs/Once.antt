-- The assertions of a list, each once, in the fixed order.
use Rattle.std.proofs.Common.{◌≡◌, ◌∙◌, ◌↔◌, ℕ, ◌&&◌, ◌==◌, List, true, All, AllPairs, Contains, get_or, refl, subst, sym, ap, eq-eqb, eqb-true}
use Rattle.std.specs.Prelude.{IsTrue}
use Rattle.std.proofs.Math.Path.{fun_ext}
use Rattle.std.proofs.lemmas.Cmp.{eq_by_cmp_equiv}
use Rattle.std.specs.Cmp.{IsEquivalence}
use Rattle.std.specs.Ordering.{is_eq}
use Rattle.std.specs.declared.cmp.Ordering.{Ordering}
use Rattle.std.specs.declared.cmp.Ordering.TheVariants.{Equal, Greater, Less}
use Rattle.std.specs.List.Sorted.{IsStrictlySortedBy}
use Rattle.std.proofs.lemmas.Bool.{and_from, and_parts}
use Rattle.std.proofs.lemmas.List.Elements.{All-contains}
use Rattle.std.proofs.lemmas.Map.Keys.{Less-from_sorted}
use Rattle.irv_base.proofs.Members.{Member, contains-from_member, from_filter, from_list_any, list_any-member, member-filter, member-from_contains}
use Rattle.assertions.specs.declared.assertion.Assertion.{Assertion}
use Rattle.assertions.specs.declared.assertion.Assertion.TheVariants.{Neb, Nen}
use Rattle.assertions.specs.Compared.{fixed_total, matches_fixed}
use Rattle.assertions.specs.FixedOrder.{fixed_order}
use Rattle.assertions.specs.contracts.assertion.AssertionOrd.TheImpl.{ghosts}
use Rattle.assertions.specs.contracts.assertion.AssertionPartialEq.TheImpl.{ghosts as equal}
use Rattle.assertions.specs.Assertions.{assertions, is_proper}
use Rattle.assertions.specs.Certificate.{is_same}
use Rattle.assertions.specs.FixedOrder.{is_before}
use Rattle.assertions.proofs.FixedOrders.{Before, before-not_both, sorted-assertions}
use Rattle.assertions.proofs.Listed.{assertion-member, assertion-proper}
use Rattle.assertions.proofs.Ords.{cmp-Equal, cmp-Less}
use Rattle.assertions.proofs.Sorted.{Sorted, sorted-filter, sorted-from_pairs, sorted-get, sorted-same}
use Rattle.adoption.specs.Adopted.{each_once, is_listed}

same-self : (a : Assertion) → is_same a a ≡ true
same-self (Neb w l) = and_from (w == w) (l == l) (eq-eqb w w refl) (eq-eqb l l refl)
same-self (Nen w l s) = and_from ((w == w) && (l == l)) (s == s) (and_from (w == w) (l == l) (eq-eqb w w refl) (eq-eqb l l refl)) (eq-eqb s s refl)

is_the_same : (a b : Assertion) → is_same a b ≡ true → a ≡ b
is_the_same (Neb w l) (Neb v k) h =
    let (p, q) = and_parts (w == v) (l == k) h in
    let p' : w ≡ v = eqb-true w v p in
    let q' : l ≡ k = eqb-true l k q in
    cc
is_the_same (Nen w l s) (Nen v k u) h =
    let (pq, r) = and_parts ((w == v) && (l == k)) (s == u) h in
    let (p, q) = and_parts (w == v) (l == k) pq in
    let p' : w ≡ v = eqb-true w v p in
    let q' : l ≡ k = eqb-true l k q in
    let r' : s ≡ u = eqb-true s u r in
    cc
is_the_same (Neb w l) (Nen v k u) h = cc
is_the_same (Nen w l s) (Neb v k) h = cc

module _ (n : ℕ) (list : List Assertion) where
  pub once-sorted : Sorted Before (each_once n list)
  once-sorted = sorted-filter Before (is_listed list) (sorted-assertions n)

  pub once-rises : AllPairs (λ a b. IsTrue (is_before a b)) (each_once n list)
  once-rises = sorted-get Before (each_once n list) once-sorted

  pub once-member : (a : Assertion) → Member a list → is_proper n a ≡ true → Member a (each_once n list)
  once-member a m proper = member-filter (is_listed list) (assertions n) (assertion-member n a proper) (list_any-member (is_same a) m (same-self a))

  pub once-from : (a : Assertion) → Member a (each_once n list) → Member a list × (is_proper n a ≡ true)
  once-from a m =
      let (among, listed) = from_filter (is_listed list) (assertions n) m in
      let (b, k, same) = from_list_any (is_same a) list listed in
      (subst (λ c. Member c list) (sym (is_the_same a b same)) k, assertion-proper n a among)

  -- a list in the fixed order with the same assertions is this one
  pub once-is : (kept : List Assertion) → All (λ a. IsTrue (is_proper n a)) list → IsStrictlySortedBy ghosts.cmp kept →
      ((a : Assertion) → Contains kept a → Contains list a) → ((a : Assertion) → Contains list a → Contains kept a) → kept ≡ each_once n list
  once-is kept proper sorted from to =
      sorted-same Before before-not_both kept (each_once n list)
      (sorted-from_pairs Before kept (λ i j d below within. (cmp-Less (get_or kept i d) (get_or kept j d)).0 (Less-from_sorted ghosts.cmp kept i j d sorted below within))) once-sorted
      (λ a m. let listed = from a (contains-from_member m) in
      once-member a (member-from_contains a list listed) (All-contains (λ a. IsTrue (is_proper n a)) list a proper listed))
      (λ a m. let (listed, ok) = once-from a m in member-from_contains a kept (to a (contains-from_member listed)))

-- ---- equality of assertions, as in the code

is_eq-Equal : (o : Ordering) → is_eq o ≡ true → o ≡ Equal
is_eq-Equal Less h = cc
is_eq-Equal Equal h = refl
is_eq-Equal Greater h = cc

pub same-from_test : (a b : Assertion) → equal.eq a b ≡ true → a ≡ b
same-from_test a b h = (cmp-Equal a b).0 (is_eq-Equal (fixed_order a b) (sym (matches_fixed a b) ∙ h))

pub equality : IsEquivalence equal.eq
equality = subst IsEquivalence (sym (fun_ext (λ a. fun_ext (λ b. matches_fixed a b)))) (eq_by_cmp_equiv fixed_total)
