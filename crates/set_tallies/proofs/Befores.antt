-- On a ballot, a candidate is the first of a set exactly if it is in the set and nobody of the set comes before it.
use Rattle.std.proofs.Common.{◌==◌, ◌≡◌, ℕ, ◌*◌, ◌<◌, ◌^◌, Bool, true, false, cond, bit_and, bit_or, inl, inr, List, [], ◌∷◌, Some, All, refl, sym, ap, arith, eq-eqb, eqb-true, ◌∙◌}
use Rattle.std.specs.Int.{bit_at}
use Rattle.std.specs.Int.Bits.{and_zero_l}
use Rattle.std.proofs.lemmas.Bool.{cases_Bool, both_ways, eqb-false}
use Rattle.std.proofs.lemmas.Nat.{and_comm, and_or_apart}
use Rattle.std.proofs.lemmas.Nat.Bits.{and_pow, bit_at_and, bit_at_or, bit_at-pow_same, bit_at-pow_other, bit_at-zero, bit_at-lt, bit_at_ones}
use Rattle.irv_base.specs.Candidates.{has}
use Rattle.irv_base.specs.Records.{top, is_some_of, is_first, is_ahead}
use Rattle.set_tallies.specs.Bags.{misses, everyone}
use Rattle.set_tallies.specs.Befores.{before_after, before, is_missed}

-- ---- one more candidate before
pub misses-other : (set b d : ℕ) → has set d ≡ false → misses set (bit_or b (2 ^ d)) ≡ misses set b
misses-other set b d out =
    let ne = eqb-false (bit_at set d) 1 out in
    let absent : bit_at set d ≡ 0 = omega (arith, bit_at-lt set d) in
    let apart : bit_and (2 ^ d) set ≡ 0 = and_comm (2 ^ d) set ∙ and_pow set d ∙ ap (λ x. x * 2 ^ d) absent ∙ omega arith in
    ap (λ x. x == 0) (and_or_apart set b (2 ^ d) apart)

pub misses-member : (set b d : ℕ) → has set d ≡ true → misses set (bit_or b (2 ^ d)) ≡ false
misses-member set b d h =
    elim (cases_Bool (misses set (bit_or b (2 ^ d)))) [
      | inl t ↦
          let none : bit_and (bit_or b (2 ^ d)) set ≡ 0 = eqb-true (bit_and (bit_or b (2 ^ d)) set) 0 t in
          let gone : bit_at (bit_and (bit_or b (2 ^ d)) set) d ≡ 0 = ap (λ x. bit_at x d) none ∙ bit_at-zero d in
          let there : bit_at set d ≡ 1 = eqb-true (bit_at set d) 1 h in
          let here : bit_at (2 ^ d) d ≡ 1 = bit_at-pow_same d in
          absurd (omega (arith, gone, there, here, bit_at_and (bit_or b (2 ^ d)) set d, bit_at_or b (2 ^ d) d, bit_at-lt b d))
      | inr f ↦ f
    ]

still : (set b d : ℕ) → misses set b ≡ false → misses set (bit_or b (2 ^ d)) ≡ false
still set b d h = elim (cases_Bool (has set d)) [ inl t ↦ misses-member set b d t | inr f ↦ misses-other set b d f ∙ h ]

-- ---- along a ranking
pub missed-not : (set seen : ℕ) (ranking : List ℕ) (c : ℕ) → misses set seen ≡ false → is_missed set (before_after seen ranking c) ≡ false
missed-not set seen [] c h = refl
missed-not set seen (d ∷ rest) c h = go (d == c) (missed-not set (bit_or seen (2 ^ d)) rest c (still set seen d h)) where
  go : (b : Bool) → is_missed set (before_after (bit_or seen (2 ^ d)) rest c) ≡ false →
      is_missed set (cond b (Some seen) (before_after (bit_or seen (2 ^ d)) rest c)) ≡ false
  go true ih = h
  go false ih = ih

pub missed_top : (set seen : ℕ) (ranking : List ℕ) (c : ℕ) → misses set seen ≡ true → has set c ≡ true →
    is_missed set (before_after seen ranking c) ≡ is_some_of (top ranking set) c
missed_top set seen [] c m h = refl
missed_top set seen (d ∷ rest) c m h = go (d == c) refl (has set d) refl (λ n. missed_top set (bit_or seen (2 ^ d)) rest c n h) where
  go : (b : Bool) → (d == c) ≡ b → (t : Bool) → has set d ≡ t →
      (misses set (bit_or seen (2 ^ d)) ≡ true → is_missed set (before_after (bit_or seen (2 ^ d)) rest c) ≡ is_some_of (top rest set) c) →
      is_missed set (cond b (Some seen) (before_after (bit_or seen (2 ^ d)) rest c)) ≡ is_some_of (cond t (Some d) (top rest set)) c
  go true e true f ih = m ∙ sym e
  go true e false f ih = absurd (both_ways (has set d) f (ap (has set) (eqb-true d c e) ∙ h))
  go false e true f ih = missed-not set (bit_or seen (2 ^ d)) rest c (misses-member set seen d f) ∙ sym e
  go false e false f ih = ih (misses-other set seen d f ∙ m)

pub missed_ahead : (w seen : ℕ) (ranking : List ℕ) (l : ℕ) → misses (2 ^ w) seen ≡ true → is_missed (2 ^ w) (before_after seen ranking l) ≡ is_ahead ranking l w
missed_ahead w seen [] l m = refl
missed_ahead w seen (d ∷ rest) l m = go (d == l) (d == w) refl (λ n. missed_ahead w (bit_or seen (2 ^ d)) rest l n) where
  go : (b t : Bool) → (d == w) ≡ t →
      (misses (2 ^ w) (bit_or seen (2 ^ d)) ≡ true → is_missed (2 ^ w) (before_after (bit_or seen (2 ^ d)) rest l) ≡ is_ahead rest l w) →
      is_missed (2 ^ w) (cond b (Some seen) (before_after (bit_or seen (2 ^ d)) rest l)) ≡ cond b true (cond t false (is_ahead rest l w))
  go true t f ih = m
  go false true f ih =
      let there : has (2 ^ w) d ≡ true = ap (has (2 ^ w)) (eqb-true d w f) ∙ eq-eqb (bit_at (2 ^ w) w) 1 (bit_at-pow_same w) in
      missed-not (2 ^ w) (bit_or seen (2 ^ d)) rest l (misses-member (2 ^ w) seen d there)
  go false false f ih =
      let out : has (2 ^ w) d ≡ false = ap (λ x. x == 1) (bit_at-pow_other w d (eqb-false d w f)) in
      ih (misses-other (2 ^ w) seen d out ∙ m)

pub misses-none : (set : ℕ) → misses set 0 ≡ true
misses-none set = ap (λ x. x == 0) (and_zero_l set)

pub missed_first : (n : ℕ) (ranking : List ℕ) (w : ℕ) → All (λ c. c < n) ranking → is_missed (everyone n) (before ranking w) ≡ is_first ranking w
missed_first n [] w h = refl
missed_first n (d ∷ rest) w h = go (d == w) where
  below : d < n
  below = h 0 d (omega arith)

  go : (b : Bool) → is_missed (everyone n) (cond b (Some 0) (before_after (bit_or 0 (2 ^ d)) rest w)) ≡ b
  go true = misses-none (everyone n)
  go false = missed-not (everyone n) (bit_or 0 (2 ^ d)) rest w (misses-member (everyone n) 0 d (eq-eqb (bit_at (everyone n) d) 1 (bit_at_ones n d below)))

-- ---- those outside
pub outside : (set : ℕ) (ranking : List ℕ) (c : ℕ) → has set c ≡ false → is_some_of (top ranking set) c ≡ false
outside set [] c h = refl
outside set (d ∷ rest) c h = go (has set d) refl (d == c) refl (outside set rest c h) where
  go : (t : Bool) → has set d ≡ t → (b : Bool) → (d == c) ≡ b → is_some_of (top rest set) c ≡ false → is_some_of (cond t (Some d) (top rest set)) c ≡ false
  go true f true e ih = absurd (both_ways (has set d) (ap (has set) (eqb-true d c e) ∙ h) f)
  go true f false e ih = e
  go false f b e ih = ih
