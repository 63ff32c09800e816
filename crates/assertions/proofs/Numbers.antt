-- The numbers of assertions are in the fixed order.
use Rattle.std.proofs.Common.{ap, arith, refl, sym, ℕ, ◌∙◌, ◌+◌, ◌*◌, ◌<◌, ◌≡◌}
use Rattle.std.proofs.lemmas.Bool.Decides.{nat_tests}
use Rattle.std.specs.Cmp.{nat_cmp_is}
use Rattle.std.specs.Ordering.{nat_cmp, ordering_then}
use Rattle.std.specs.declared.cmp.Ordering.{Ordering}
use Rattle.std.specs.declared.cmp.Ordering.TheVariants.{Equal, Greater, Less}
use Rattle.assertions.specs.Compared.{then_equal}
use Rattle.assertions.specs.FixedOrder.{HasDigits, fixed_order, number_of}
use Rattle.assertions.specs.declared.assertion.Assertion.{Assertion}
use Rattle.assertions.specs.declared.assertion.Assertion.TheVariants.{Neb, Nen}

-- numbers of two digits
bytes : (a b c d : ℕ) → b < 256 → d < 256 → nat_cmp (a * 256 + b) (c * 256 + d) ≡ ordering_then (nat_cmp a c) (nat_cmp b d)
bytes a b c d h k = grind (arith, nat_tests)

words : (a b c d : ℕ) → b < 4294967296 → d < 4294967296 →
    nat_cmp (a * 4294967296 + b) (c * 4294967296 + d) ≡ ordering_then (nat_cmp a c) (nat_cmp b d)
words a b c d h k = grind (arith, nat_tests)

scaled : (a b : ℕ) → nat_cmp (a * 4294967296) (b * 4294967296) ≡ nat_cmp a b
scaled a b = grind (arith, nat_tests)

shifted : (a b : ℕ) → nat_cmp (256 + a) (256 + b) ≡ nat_cmp a b
shifted a b = grind (arith, nat_tests)

then_then : (o p q : Ordering) → ordering_then (ordering_then o p) q ≡ ordering_then o (ordering_then p q)
then_then Less p q = refl
then_then Equal p q = refl
then_then Greater p q = refl

pub numbers-rise : (a b : Assertion) → HasDigits a → HasDigits b → nat_cmp (number_of a) (number_of b) ≡ fixed_order a b
numbers-rise (Neb w l) (Neb v k) h g =
    scaled (w * 256 + l) (v * 256 + k) ∙ bytes w l v k h.1 g.1 ∙ ap (ordering_then (nat_cmp w v)) (sym (then_equal (nat_cmp l k)))
numbers-rise (Neb w l) (Nen v k t) h g = sym (nat_cmp_is ((w * 256 + l) * 4294967296) (((256 + v) * 256 + k) * 4294967296 + t) Less (omega (arith, h.0, h.1)))
numbers-rise (Nen w l s) (Neb v k) h g = sym (nat_cmp_is (((256 + w) * 256 + l) * 4294967296 + s) ((v * 256 + k) * 4294967296) Greater (omega (arith, g.0, g.1)))
numbers-rise (Nen w l s) (Nen v k t) h g =
    words ((256 + w) * 256 + l) s ((256 + v) * 256 + k) t h.2 g.2
    ∙ ap (λ o. ordering_then o (nat_cmp s t)) (bytes (256 + w) l (256 + v) k h.1 g.1 ∙ ap (λ o. ordering_then o (nat_cmp l k)) (shifted w v))
    ∙ then_then (nat_cmp w v) (nat_cmp l k) (nat_cmp s t)
    ∙ ap (λ o. ordering_then (nat_cmp w v) (ordering_then (nat_cmp l k) o)) (sym (then_equal (nat_cmp s t)))
