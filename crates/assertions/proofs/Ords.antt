-- The fixed order is total, and is the order that `Ord` gives.
use Rattle.std.proofs.Common.{List, ap, arith, inl, inr, refl, subst, sym, true, ℕ, ◌↔◌, ◌∙◌, ◌≡◌}
use Rattle.std.proofs.Math.Path.{fun_ext}
use Rattle.std.proofs.lemmas.Bool.{cases_Bool}
use Rattle.std.proofs.lemmas.Bool.Decides.{nat_tests}
use Rattle.std.proofs.lemmas.Cmp.{nat_cmp_total, nat_list_cmp_total, ranked, same_from_slice_cmp, tied_itself}
use Rattle.std.specs.Cmp.{IsTotalOrder, on_total}
use Rattle.std.specs.Cmp.Lexicographic.{slice_cmp}
use Rattle.std.specs.Ordering.{is_lt, nat_cmp, ordering_then}
use Rattle.std.specs.declared.cmp.Ordering.{Ordering}
use Rattle.std.specs.declared.cmp.Ordering.TheVariants.{Equal, Greater, Less}
use Rattle.assertions.specs.FixedOrder.{is_before, key}
use Rattle.assertions.specs.Laws.{IsStrictTotal}
use Rattle.assertions.specs.Lists.{stands_before}
use Rattle.assertions.specs.contracts.assertion.AssertionOrd.TheImpl.{ghosts}
use Rattle.assertions.specs.declared.assertion.Assertion.{Assertion}
use Rattle.assertions.specs.declared.assertion.Assertion.TheVariants.{Neb, Nen}
use Rattle.assertions.proofs.Backwards.{stands_before-chain}
use Rattle.assertions.proofs.FixedOrders.{before-either, before-not_both}

cmp-key : (a b : Assertion) → ghosts.cmp a b ≡ slice_cmp nat_cmp (key a) (key b)
cmp-key a b = refl

pub is_lt-keys : (x y : List ℕ) → is_lt (slice_cmp nat_cmp x y) ≡ stands_before x y
is_lt-keys x y = same_from_slice_cmp nat_cmp is_lt stands_before refl (λ _ _. refl) (λ _ _. refl) (λ x y xs ys o h. grind (arith, nat_tests)) x y
    (slice_cmp nat_cmp x y) refl

is_lt-Less : (o : Ordering) → is_lt o ≡ true → o ≡ Less
is_lt-Less Less h = refl
is_lt-Less Equal h = cc
is_lt-Less Greater h = cc

-- it is a total order
pub cmp_total : IsTotalOrder ghosts.cmp
cmp_total = subst IsTotalOrder (sym (fun_ext (λ a. fun_ext (λ b. cmp-key a b)))) (on_total key nat_list_cmp_total)

then-Equal : (o p : Ordering) → ordering_then o p ≡ Equal → (o ≡ Equal) × (p ≡ Equal)
then-Equal Less p h = cc
then-Equal Equal p h = (refl, h)
then-Equal Greater p h = cc

nat_cmp-Equal : (x y : ℕ) → nat_cmp x y ≡ Equal → x ≡ y
nat_cmp-Equal x y h = ranked x y Equal (sym h)

pub cmp-Less : (a b : Assertion) → ((ghosts.cmp a b ≡ Less) ↔ (is_before a b ≡ true))
cmp-Less a b = (
  λ h. sym (is_lt-keys (key a) (key b)) ∙ ap is_lt (sym (cmp-key a b) ∙ h),
  λ h. cmp-key a b ∙ is_lt-Less (slice_cmp nat_cmp (key a) (key b)) (is_lt-keys (key a) (key b) ∙ h),
)

pub cmp-Equal : (a b : Assertion) → ((ghosts.cmp a b ≡ Equal) ↔ (a ≡ b))
cmp-Equal a b = (same a b, λ e. ap (ghosts.cmp a) (sym e) ∙ itself a) where
  same : (a b : Assertion) → ghosts.cmp a b ≡ Equal → a ≡ b
  same (Neb w l) (Neb v k) h =
      let (p, ql) = then-Equal (nat_cmp w v) (ordering_then (nat_cmp l k) Equal) h in
      let (q, last) = then-Equal (nat_cmp l k) Equal ql in
      let p' : w ≡ v = nat_cmp-Equal w v p in
      let q' : l ≡ k = nat_cmp-Equal l k q in
      cc
  same (Neb w l) (Nen v k u) h = cc
  same (Nen w l s) (Neb v k) h = cc
  same (Nen w l s) (Nen v k u) h =
      let (p, qr) = then-Equal (nat_cmp w v) (ordering_then (nat_cmp l k) (ordering_then (nat_cmp s u) Equal)) h in
      let (q, rl) = then-Equal (nat_cmp l k) (ordering_then (nat_cmp s u) Equal) qr in
      let (r, last) = then-Equal (nat_cmp s u) Equal rl in
      let p' : w ≡ v = nat_cmp-Equal w v p in
      let q' : l ≡ k = nat_cmp-Equal l k q in
      let r' : s ≡ u = nat_cmp-Equal s u r in
      cc

  one : (x : ℕ) → nat_cmp x x ≡ Equal
  one x = tied_itself nat_cmp_total x

  itself : (a : Assertion) → ghosts.cmp a a ≡ Equal
  itself (Neb w l) = ap (λ o. ordering_then o (ordering_then (nat_cmp l l) Equal)) (one w) ∙ ap (λ o. ordering_then o Equal) (one l)
  itself (Nen w l s) =
      ap (λ o. ordering_then o (ordering_then (nat_cmp l l) (ordering_then (nat_cmp s s) Equal))) (one w)
      ∙ ap (λ o. ordering_then o (ordering_then (nat_cmp s s) Equal)) (one l) ∙ ap (λ o. ordering_then o Equal) (one s)

-- ---- a strict total order
pub fixed_order_is_total : IsStrictTotal (λ a b. is_before a b ≡ true)
fixed_order_is_total = record {
  never_itself = λ a h. before-not_both a a h h;
  goes_on = λ a b c h k. stands_before-chain (key a) (key b) (key c) h k;
  one_of_both = λ a b ne. elim (cases_Bool (is_before a b)) [
    | inl t ↦ inl t
    | inr f ↦ elim (before-either a b f) [ inl e ↦ absurd (ne e) | inr r ↦ inr r ]
  ];
}
