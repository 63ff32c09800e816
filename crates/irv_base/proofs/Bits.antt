-- One more candidate, or one less, in the number of a set.
use Rattle.std.proofs.Common.{◌≡◌, ℕ, ◌+◌, ◌*◌, ◌%◌, ◌^◌, ◌<◌, Bool, true, false, not, ◌==◌, ◌&&◌, ◌||◌, inl, inr, bit_or, bit_xor, refl, sym, ap, arith, eq-eqb, ne_eqb, eqb-true, mod-eq_of_lt, ◌∙◌}
use Rattle.std.specs.Int.{bit_at}
use Rattle.std.proofs.lemmas.Bool.{cases_eq, or_right, eqb-false}
use Rattle.std.proofs.lemmas.Nat.{pow_below, or_disjoint}
use Rattle.std.proofs.lemmas.Nat.Bits.{and_pow, bit_at_or, bit_at_xor, bit_at-pow_same, bit_at-pow_other, bit_at-lt}
use Rattle.irv_base.specs.Candidates.{has}

-- `1 << c` in the 32 bits of a number
pub one_bit : (c : ℕ) → c < 32 → 1 * 2 ^ c % 4294967296 ≡ 2 ^ c
one_bit c l = let small : 1 * 2 ^ c < 4294967296 = omega (arith, pow_below c 32 l) in mod-eq_of_lt small ∙ omega arith

pub or-false : (b : Bool) → (b || false) ≡ b
or-false true = refl
or-false false = refl

and-true : (b : Bool) → (b && true) ≡ b
and-true true = refl
and-true false = refl

and-false : (b : Bool) → (b && false) ≡ false
and-false true = refl
and-false false = refl

bit_at-absent : (s c : ℕ) → has s c ≡ false → bit_at s c ≡ 0
bit_at-absent s c h = let ne = eqb-false (bit_at s c) 1 h in omega (arith, bit_at-lt s c)

-- `s | 1 << c`
pub has-with : (s c d : ℕ) → has (bit_or s (2 ^ c)) d ≡ (has s d || (d == c))
has-with s c d =
    elim (cases_eq d c) [
      | inl e ↦
          let one : bit_at (2 ^ c) d ≡ 1 = ap (bit_at (2 ^ c)) e ∙ bit_at-pow_same c in
          let bit : bit_at (bit_or s (2 ^ c)) d ≡ 1 = omega (arith, bit_at_or s (2 ^ c) d, bit_at-lt s d) in
          eq-eqb (bit_at (bit_or s (2 ^ c)) d) 1 bit ∙ sym (or_right (has s d) (d == c) (eq-eqb d c e))
      | inr ne ↦
          let none : bit_at (2 ^ c) d ≡ 0 = bit_at-pow_other c d ne in
          let bit : bit_at (bit_or s (2 ^ c)) d ≡ bit_at s d = omega (arith, bit_at_or s (2 ^ c) d) in
          ap (λ x. x == 1) bit ∙ sym (ap (λ b. has s d || b) (ne_eqb d c ne) ∙ or-false (has s d))
    ]

pub with-number : (s c : ℕ) → has s c ≡ false → bit_or s (2 ^ c) ≡ s + 2 ^ c
with-number s c h = or_disjoint s (2 ^ c) (and_pow s c ∙ ap (λ x. x * 2 ^ c) (bit_at-absent s c h) ∙ omega arith)

-- `s ^ 1 << c` for a member
pub has-without : (s c d : ℕ) → has s c ≡ true → has (bit_xor s (2 ^ c)) d ≡ (has s d && not (d == c))
has-without s c d h =
    elim (cases_eq d c) [
      | inl e ↦
          let one : bit_at (2 ^ c) d ≡ 1 = ap (bit_at (2 ^ c)) e ∙ bit_at-pow_same c in
          let there : bit_at s d ≡ 1 = ap (bit_at s) e ∙ eqb-true (bit_at s c) 1 h in
          let bit : bit_at (bit_xor s (2 ^ c)) d ≡ 0 = bit_at_xor s (2 ^ c) d ∙ ap (λ x. (x + bit_at (2 ^ c) d) % 2) there ∙ ap (λ x. (1 + x) % 2) one in
          ap (λ x. x == 1) bit ∙ sym (ap (λ b. has s d && not b) (eq-eqb d c e) ∙ and-false (has s d))
      | inr ne ↦
          let none : bit_at (2 ^ c) d ≡ 0 = bit_at-pow_other c d ne in
          let small : bit_at s d + 0 < 2 = omega (arith, bit_at-lt s d) in
          let bit : bit_at (bit_xor s (2 ^ c)) d ≡ bit_at s d = bit_at_xor s (2 ^ c) d ∙ ap (λ x. (bit_at s d + x) % 2) none ∙ mod-eq_of_lt small
          ∙ omega arith in
          ap (λ x. x == 1) bit ∙ sym (ap (λ b. has s d && not b) (ne_eqb d c ne) ∙ and-true (has s d))
    ]
