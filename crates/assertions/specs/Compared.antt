-- The fixed order is total, and only an assertion itself is at its place.
use Rattle.std.proofs.Common.{ap, refl, sym, ◌∙◌, ◌==◌, ◌&&◌, ◌∷◌, [], ◌≡◌, ℕ}
use Rattle.std.specs.Cmp.{IsTotalOrder, both_tied, on_total, unsigned_ties}
use Rattle.std.specs.Cmp.Lexicographic.{nat_list_cmp_total, slice_cmp}
use Rattle.std.specs.Ordering.{is_eq, nat_cmp, ordering_then}
use Rattle.std.specs.declared.cmp.Ordering.{Ordering}
use Rattle.std.specs.declared.cmp.Ordering.TheVariants.{Equal, Greater, Less}
use Rattle.assertions.specs.FixedOrder.{fixed_order, key}
use Rattle.assertions.specs.contracts.assertion.AssertionPartialEq.TheImpl.{ghosts}
use Rattle.assertions.specs.declared.assertion.Assertion.{Assertion}
use Rattle.assertions.specs.declared.assertion.Assertion.TheVariants.{Neb, Nen}

pub fixed_total : IsTotalOrder fixed_order
fixed_total = on_total key nat_list_cmp_total

pub then_equal : (o : Ordering) → ordering_then o Equal ≡ o
then_equal Less = refl
then_equal Equal = refl
then_equal Greater = refl

last_tied : (x y : ℕ) → (x == y) ≡ is_eq (slice_cmp nat_cmp (x ∷ []) (y ∷ []))
last_tied x y = unsigned_ties x y ∙ ap is_eq (sym (then_equal (nat_cmp x y)))

pub matches_fixed : (a b : Assertion) → ghosts.eq a b ≡ is_eq (fixed_order a b)
matches_fixed (Neb w l) (Neb v k) =
    both_tied (w == v) (l == k) (nat_cmp w v) (slice_cmp nat_cmp (l ∷ []) (k ∷ [])) (unsigned_ties w v) (last_tied l k)
matches_fixed (Neb w l) (Nen v k t) = refl
matches_fixed (Nen w l s) (Neb v k) = refl
matches_fixed (Nen w l s) (Nen v k t) =
    both_tied (w == v) ((l == k) && (s == t)) (nat_cmp w v) (slice_cmp nat_cmp (l ∷ s ∷ []) (k ∷ t ∷ [])) (unsigned_ties w v)
    (both_tied (l == k) (s == t) (nat_cmp l k) (slice_cmp nat_cmp (s ∷ []) (t ∷ [])) (unsigned_ties l k) (last_tied s t))
