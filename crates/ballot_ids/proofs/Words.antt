-- The bits of a page, in four words of 64.
use Rattle.std.proofs.Common.{rules, ◌≡◌, ◌<◌, ◌/◌, ◌%◌, ◌^◌, ◌∙◌, ◌∷◌, ◌==◌, ◌||◌, [], ℕ, zero, suc, Bool, true, false, List, max, length, set, bit_and, bit_or, refl, sym, ap, ap₂, arith, eqb-true, eq-eqb, ne_eqb, inl, inr}
use Rattle.std.specs.Prelude.{slice_index}
use Rattle.std.specs.Cmp.{both_ways}
use Rattle.std.specs.Int.{bit_at}
use Rattle.std.specs.List.{list_all}
use Rattle.std.proofs.lemmas.Bool.{and_parts, cases_eq, or_left}
use Rattle.std.proofs.lemmas.List.{get_or-set_same, get_or-set_other}
use Rattle.std.proofs.lemmas.Nat.Bits.{bit_at_and, bit_at_or, bit_at-lt, bit_at-zero}
use Rattle.irv_base.proofs.Bits.{has-with, or-false}
use Rattle.ballot_ids.specs.Ids.{bit_of, has_bit, no_bits}
use Rattle.ballot_ids.specs.Joined.{of_each, share_none}

-- a bit of a word
abbrev set_in : ℕ → ℕ → Bool
set_in word bit = (word / 2 ^ bit) % 2 == 1

-- ---- none

no-word : (i : ℕ) → slice_index no_bits i ≡ 0
no-word zero = refl
no-word (suc zero) = refl
no-word (suc (suc zero)) = refl
no-word (suc (suc (suc zero))) = refl
no-word (suc (suc (suc (suc i)))) = refl

nothing-in : (bit : ℕ) → set_in 0 bit ≡ false
nothing-in bit = search rules

pub nothing-set : (bit : ℕ) → has_bit no_bits bit ≡ false
nothing-set bit = ap (λ word. set_in word (bit % 64)) (no-word (bit / 64)) ∙ nothing-in (bit % 64)

-- ---- one more

-- two bits of one word are the same exactly if they have the same place there
same-place : (bit other : ℕ) → other / 64 ≡ bit / 64 → (other % 64 == bit % 64) ≡ (other == bit)
same-place bit other e =
    both_ways (other % 64 == bit % 64) (other == bit)
    (λ h. let places = eqb-true (other % 64) (bit % 64) h in eq-eqb other bit (omega (arith, e, places)))
    (λ h. eq-eqb (other % 64) (bit % 64) (ap (λ n. n % 64) (eqb-true other bit h)))

pub one-more-set : (words : List ℕ) (bit other : ℕ) → bit / 64 < length words →
    has_bit (set words (bit / 64) (bit_or (slice_index words (bit / 64)) (2 ^ (bit % 64)))) other ≡ (has_bit words other || (other == bit))
one-more-set words bit other within =
    let word = slice_index words (bit / 64) in
    let more = bit_or word (2 ^ (bit % 64)) in
    elim (cases_eq (other / 64) (bit / 64)) [
      | inl e ↦
          ap (λ i. set_in (slice_index (set words (bit / 64) more) i) (other % 64)) e
          ∙ ap (λ w. set_in w (other % 64)) (get_or-set_same words (bit / 64) more 0 within)
          ∙ has-with word (bit % 64) (other % 64)
          ∙ ap₂ (λ i b. set_in (slice_index words i) (other % 64) || b) (sym e) (same-place bit other e)
      | inr away ↦
          ap (λ w. set_in w (other % 64)) (get_or-set_other words (bit / 64) (other / 64) more 0 away)
          ∙ sym (ap (λ b. has_bit words other || b) (ne_eqb other bit (λ e. away (ap (λ n. n / 64) e))) ∙ or-false (has_bit words other))
    ]

-- ---- those of two pages

each-word : (of : ℕ → ℕ → ℕ) (own its : List ℕ) (i : ℕ) → i < 4 → slice_index (of_each of own its) i ≡ of (slice_index own i) (slice_index its i)
each-word of own its zero h = refl
each-word of own its (suc zero) h = refl
each-word of own its (suc (suc zero)) h = refl
each-word of own its (suc (suc (suc zero))) h = refl
each-word of own its (suc (suc (suc (suc i)))) h = absurd (omega (arith, h))

within-four : (bit : ℕ) → bit < 256 → bit / 64 < 4
within-four bit h = omega (arith, h)

-- a bit of the greater of two
either : (x y z : ℕ) → x < 2 → y < 2 → z ≡ max x y → (z == 1) ≡ ((x == 1) || (y == 1))
either x y z less few e = elim (cases_eq x 1) [
  | inl one ↦
      let both : z ≡ 1 = omega (arith, e, one, few) in
      eq-eqb z 1 both ∙ sym (or_left (x == 1) (y == 1) (eq-eqb x 1 one))
  | inr none ↦
      let same : z ≡ y = omega (arith, e, none, less) in
      ap (λ n. n == 1) same ∙ sym (ap (λ b. b || (y == 1)) (ne_eqb x 1 none))
]

either-in : (a b bit : ℕ) → set_in (bit_or a b) bit ≡ (set_in a bit || set_in b bit)
either-in a b bit =
    either (bit_at a bit) (bit_at b bit) (bit_at (bit_or a b) bit) (bit_at-lt a bit) (bit_at-lt b bit) (bit_at_or a b bit)

pub either-set : (own its : List ℕ) (bit : ℕ) → bit < 256 → has_bit (of_each bit_or own its) bit ≡ (has_bit own bit || has_bit its bit)
either-set own its bit h =
    ap (λ w. set_in w (bit % 64)) (each-word bit_or own its (bit / 64) (within-four bit h))
    ∙ either-in (slice_index own (bit / 64)) (slice_index its (bit / 64)) (bit % 64)

-- a bit that is set in the first isn't in the second
other-in : (a b bit : ℕ) → bit_and a b ≡ 0 → set_in a bit ≡ true → set_in b bit ≡ false
other-in a b bit apart own =
    let none : bit_at (bit_and a b) bit ≡ 0 = ap (λ n. bit_at n bit) apart ∙ bit_at-zero bit in
    let one : bit_at a bit ≡ 1 = eqb-true (bit_at a bit) 1 own in
    let least = bit_at_and a b bit in
    ne_eqb (bit_at b bit) 1 (λ its. omega (arith, none, one, least, its))

each-none : (words : List ℕ) (i : ℕ) → list_all (λ word. word == 0) words ≡ true → slice_index words i ≡ 0
each-none [] i h = refl
each-none (word ∷ words) zero h = eqb-true word 0 (and_parts (word == 0) (list_all (λ w. w == 0) words) h).0
each-none (word ∷ words) (suc i) h = each-none words i (and_parts (word == 0) (list_all (λ w. w == 0) words) h).1

pub other-unset : (own its : List ℕ) (bit : ℕ) → bit < 256 → share_none own its ≡ true → has_bit own bit ≡ true → has_bit its bit ≡ false
other-unset own its bit h apart =
    let none = sym (each-word bit_and own its (bit / 64) (within-four bit h)) ∙ each-none (of_each bit_and own its) (bit / 64) apart in
    other-in (slice_index own (bit / 64)) (slice_index its (bit / 64)) (bit % 64) none

-- ---- the bit of an id

pub bit-within : (count : ℕ) → bit_of count < 256
bit-within count = omega arith
