-- Sums over sets, by halves: the sets without the last candidate, and those with it.
use Rattle.std.proofs.Common.{◌≡◌, ◌==◌, ℕ, zero, suc, ◌+◌, ◌-◌, ◌*◌, ◌/◌, ◌%◌, ◌^◌, ◌<◌, ◌≤◌, Bool, true, false, cond, not, ◌&&◌, bit_or, List, [], ◌∷◌, ◌++◌, length, map, get_or, set, sum_by, refl, sym, ap, ap₂, arith, mod-eq_of_lt, pow_pos, div-lt_iff_lt-mul, length-append, ◌∙◌}
use Rattle.std.specs.List.{range_with_len}
use Rattle.std.specs.Int.Bits.{and_zero_r}
use Rattle.std.proofs.lemmas.List.{map-append, get_or_append_left, get_or-append_right}
use Rattle.std.proofs.lemmas.List.FromFn.{get_or-map-range_with_len}
use Rattle.std.proofs.lemmas.List.Sums.{sum_by-cons}
use Rattle.std.proofs.lemmas.Nat.{and_comm, pow_below}
use Rattle.irv_base.specs.Candidates.{candidates, has}
use Rattle.irv_base.proofs.Bits.{with-number}
use Rattle.set_tallies.specs.Bags.{misses}
use Rattle.set_tallies.specs.Sums.{apart, sums_of}
use Rattle.set_tallies.proofs.Befores.{misses-other, misses-member}
use Rattle.set_tallies.proofs.Filled.{map-same}
use Rattle.set_tallies.proofs.Totals.{range-split, total-same, total-le, total-split, total-none, total-has}

-- ---- a set with one more candidate
pub misses-turned : (a b : ℕ) → misses a b ≡ misses b a
misses-turned a b = ap (λ x. x == 0) (and_comm b a)

low-has : (set c : ℕ) → set < 2 ^ c → has set c ≡ false
low-has set c l =
    let small : set / 2 ^ c < 1 = (div-lt_iff_lt-mul (pow_pos c)).1 (omega (arith, l)) in
    let none : set / 2 ^ c ≡ 0 = omega arith in
    ap (λ x. x % 2 == 1) none

misses-first : (set b c : ℕ) → set < 2 ^ c → misses (set + 2 ^ c) b ≡ (not (has b c) && misses set b)
misses-first set b c l =
    ap (λ s. misses s b) (sym (with-number set c (low-has set c l))) ∙ misses-turned (bit_or set (2 ^ c)) b ∙ go (has b c) refl
  where
    go : (t : Bool) → has b c ≡ t → misses b (bit_or set (2 ^ c)) ≡ (not t && misses set b)
    go true e = misses-member b set c e
    go false e = misses-other b set c e ∙ misses-turned b set

module _ (n set : ℕ) (small : set < 2 ^ n) (other : ℕ) (low : other < 2 ^ n) where
  -- one of the two has the candidate n
  misses-with : misses (set + 2 ^ n) other ≡ misses set other
  misses-with = misses-first set other n small ∙ ap (λ t. not t && misses set other) (low-has other n low)

  misses-moved : misses set (other + 2 ^ n) ≡ misses set other
  misses-moved =
      misses-turned set (other + 2 ^ n) ∙ misses-first other set n low ∙ ap (λ t. not t && misses other set) (low-has set n small) ∙ misses-turned other set

  -- both have it
  misses-both : misses (set + 2 ^ n) (other + 2 ^ n) ≡ false
  misses-both = misses-first set (other + 2 ^ n) n small ∙ ap (λ t. not t && misses set (other + 2 ^ n)) there
    where
      there : has (other + 2 ^ n) n ≡ true
      there =
          let below : other / 2 ^ n < 1 = (div-lt_iff_lt-mul (pow_pos n)).1 (omega (arith, low)) in
          let one : (other + 2 ^ n) / 2 ^ n ≡ 1 = Rattle.std.proofs.Math.Nat.add-div_right other (pow_pos n) ∙ omega (arith, below) in
          ap (λ x. x % 2 == 1) one

pub twice : (n : ℕ) → (n ≡ 0 → ⊥) → 2 ^ n ≡ 2 ^ (n - 1) + 2 ^ (n - 1)
twice zero some = absurd (some refl)
twice (suc n) some =
    let e : suc n - 1 ≡ n = omega arith in
    let double : 2 ^ suc n ≡ 2 ^ n + 2 ^ n = omega arith in
    double ∙ ap (λ k. 2 ^ k + 2 ^ k) (sym e)

-- ---- the halves of a table
abbrev pub at : ℕ → List ℕ → ℕ → ℕ
at set table other = cond (misses set other) (get_or table other 0) 0

module _ (n : ℕ) (without having : List ℕ) (w : length without ≡ 2 ^ n) (h : length having ≡ 2 ^ n) (set : ℕ) (small : set < 2 ^ n) where
  halves : (s : ℕ) → apart s (without ++ having) ≡ sum_by (at s (without ++ having)) (candidates (2 ^ n))
      + sum_by (λ i. at s (without ++ having) (i + 2 ^ n)) (candidates (2 ^ n))
  halves s = ap (λ k. sum_by (at s (without ++ having)) (candidates k)) (length-append without having ∙ ap₂ (λ a b. a + b) w h)
      ∙ total-split (at s (without ++ having)) (2 ^ n) (2 ^ n)

  left : (i : ℕ) → i < 2 ^ n → get_or (without ++ having) i 0 ≡ get_or without i 0
  left i l = get_or_append_left without having 0 i (omega (arith, w, l))

  right : (i : ℕ) → get_or (without ++ having) (i + 2 ^ n) 0 ≡ get_or having i 0
  right i = get_or-append_right without having (2 ^ n) (i + 2 ^ n) 0 w (omega arith) ∙ ap (λ k. get_or having k 0) (omega arith)

  pub apart-both : apart set (without ++ having) ≡ apart set without + apart set having
  apart-both =
      halves set
      ∙ ap₂ (λ a b. a + b)
      (total-same (at set (without ++ having)) (at set without) 0 (2 ^ n) (λ i a l. ap (λ v. cond (misses set i) v 0) (left i (omega (arith, l))))
      ∙ ap (λ k. sum_by (at set without) (candidates k)) (sym w))
      (total-same (λ i. at set (without ++ having) (i + 2 ^ n)) (at set having) 0 (2 ^ n)
      (λ i a l. ap₂ (λ b v. cond b v 0) (misses-moved n set small i (omega (arith, l))) (right i)) ∙ ap (λ k. sum_by (at set having) (candidates k)) (sym h))

  pub apart-first : apart (set + 2 ^ n) (without ++ having) ≡ apart set without
  apart-first =
      halves (set + 2 ^ n)
      ∙ ap₂ (λ a b. a + b)
      (total-same (at (set + 2 ^ n) (without ++ having)) (at set without) 0 (2 ^ n)
      (λ i a l. ap₂ (λ b v. cond b v 0) (misses-with n set small i (omega (arith, l))) (left i (omega (arith, l))))
      ∙ ap (λ k. sum_by (at set without) (candidates k)) (sym w))
      (total-none (λ i. at (set + 2 ^ n) (without ++ having) (i + 2 ^ n)) 0 (2 ^ n)
      (λ i a l. ap (λ b. cond b (get_or (without ++ having) (i + 2 ^ n) 0) 0) (misses-both n set small i (omega (arith, l)))))
      ∙ omega arith

-- ---- bounds
pub misses-empty : (other : ℕ) → misses 0 other ≡ true
misses-empty other = ap (λ x. x == 0) (and_zero_r other)

at-empty : (table : List ℕ) (i : ℕ) → at 0 table i ≡ get_or table i 0
at-empty table i = ap (λ b. cond b (get_or table i 0) 0) (misses-empty i)

part : (b : Bool) (v : ℕ) → cond b v 0 ≤ v
part true v = omega arith
part false v = omega arith

pub apart-le : (s : ℕ) (table : List ℕ) → apart s table ≤ apart 0 table
apart-le s table = total-le (at s table) (at 0 table) 0 (length table) (λ i. omega (arith, at-empty table i, part (misses s i) (get_or table i 0)))

pub place-le : (table : List ℕ) (i : ℕ) → i < length table → get_or table i 0 ≤ apart 0 table
place-le table i l = omega (arith, at-empty table i, total-has (at 0 table) i 0 (length table) (omega arith) (omega (arith, l)))

-- ---- the sums of the halves together
pub single : (table : List ℕ) → length table ≡ 1 → table ≡ sums_of table
single [] h = absurd (omega arith)
single (x ∷ []) h =
    let one : apart 0 (x ∷ []) ≡ x = sum_by-cons (at 0 (x ∷ [])) 0 [] ∙ omega (arith, at-empty (x ∷ []) 0) in
    ap (λ v. v ∷ []) (sym one)
single (x ∷ y ∷ rest) h = absurd (omega arith)

pub sum-at : (table : List ℕ) (i : ℕ) → i < length table → get_or (sums_of table) i 0 ≡ apart i table
sum-at table i l = get_or-map-range_with_len (λ s. apart s table) 0 (length table) i i 0 (omega (arith, l)) (omega arith)

pub map-shift : (f : ℕ → ℕ) (a m k : ℕ) → map f (range_with_len (a + m) k) ≡ map (λ s. f (s + m)) (range_with_len a k)
map-shift f a m zero = refl
map-shift f a m (suc k) = ap (λ xs. f (a + m) ∷ xs) (ap (λ x. map f (range_with_len x k)) (omega arith) ∙ map-shift f (a + 1) m k)

module _ (n : ℕ) (without having : List ℕ) (w : length without ≡ 2 ^ n) (h : length having ≡ 2 ^ n) where
  both-at : (i : ℕ) → i < 2 ^ n → get_or (sums_of without) i 0 + get_or (sums_of having) i 0 ≡ apart i (without ++ having)
  both-at i l = ap₂ (λ x y. x + y) (sum-at without i (omega (arith, w, l))) (sum-at having i (omega (arith, h, l))) ∙ sym (apart-both n without having w h i l)

  -- each sum is at most that of the whole table
  pub sums-fit : (m i : ℕ) → apart 0 (without ++ having) ≤ m → i < 2 ^ n → get_or (sums_of without) i 0 + get_or (sums_of having) i 0 ≤ m
  sums-fit m i few l = omega (arith, both-at i l, apart-le i (without ++ having), few)

  pub half-fits : (m : ℕ) → apart 0 (without ++ having) ≤ m → (apart 0 without ≤ m) × (apart 0 having ≤ m)
  half-fits m few = (omega (arith, whole, few), omega (arith, whole, few))
    where
      whole : apart 0 (without ++ having) ≡ apart 0 without + apart 0 having
      whole = apart-both n without having w h 0 (pow_pos n)

  pub joined-is : map (λ i. get_or (sums_of without) i 0 + get_or (sums_of having) i 0) (candidates (2 ^ n)) ++ sums_of without ≡ sums_of (without ++ having)
  joined-is =
      let f : ℕ → ℕ = λ s. apart s (without ++ having) in
      let wide : length (without ++ having) ≡ 2 ^ n + 2 ^ n = length-append without having ∙ ap₂ (λ a b. a + b) w h in
      ap₂ (λ xs ys. xs ++ ys)
      (map-same (λ i. get_or (sums_of without) i 0 + get_or (sums_of having) i 0) f 0 (2 ^ n) (λ i l. both-at i (omega arith)))
      (ap (λ k. map (λ s. apart s without) (candidates k)) w
      ∙ sym (map-same (λ s. f (s + 2 ^ n)) (λ s. apart s without) 0 (2 ^ n) (λ i l. apart-first n without having w h i (omega arith)))
      ∙ sym (map-shift f 0 (2 ^ n) (2 ^ n)))
      ∙ sym (map-append f (range_with_len 0 (2 ^ n)) (range_with_len (0 + 2 ^ n) (2 ^ n)))
      ∙ ap (map f) (sym (range-split 0 (2 ^ n) (2 ^ n)))
      ∙ ap (λ k. map f (candidates k)) (sym wide)

pub size : (k : ℕ) → k < 64 → 1 * 2 ^ k % 2 ^ 64 ≡ 2 ^ k
size k l = let small : 1 * 2 ^ k < 2 ^ 64 = omega (arith, pow_below k 64 l) in mod-eq_of_lt small ∙ omega arith
