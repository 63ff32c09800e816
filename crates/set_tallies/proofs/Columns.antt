-- The columns of a table: read, changed at one place, split in halves.
use Rattle.std.proofs.Common.{◌≡◌, ◌==◌, ℕ, ◌+◌, ◌-◌, ◌*◌, ◌/◌, ◌%◌, ◌^◌, ◌<◌, ◌≤◌, Bool, true, false, cond, ◌&&◌, ◌⊎◌, inl, inr, List, ◌++◌, length, map, get_or, set, replicate, sum_by, refl, sym, ap, ap₂, subst, arith, eqb-true, ◌∙◌}
use Rattle.std.specs.List.{range_with_len}
use Rattle.std.proofs.Math.Nat.{mul-le-mul, pow-le-pow_right, mod-eq_of_lt, div-lt_iff_lt-mul, mod-lt, div-add-mod', add-mul, mul-add}
use Rattle.std.proofs.lemmas.Bool.{cases_Bool, eqb-false}
use Rattle.std.proofs.lemmas.List.{ext_get_or, map-append, get_or_append_left, get_or-append_right, get_or-set_same, get_or-set_other, length-set, get_or-replicate}
use Rattle.std.proofs.lemmas.List.FromFn.{get_or-map-range_with_len, length-map-range_with_len}
use Rattle.std.proofs.lemmas.Nat.{mul-add-lt, div-mul-add, mod-mul-add}
use Rattle.irv_base.specs.Candidates.{candidates}
use Rattle.set_tallies.specs.Bags.{misses}
use Rattle.set_tallies.specs.Sums.{column, apart, sums_of}
use Rattle.set_tallies.specs.declared.sums.TheConstants.{MOST_SUMMED}
use Rattle.set_tallies.proofs.Apart.{at, twice, map-shift, place-le, half-fits, sums-fit, joined-is}
use Rattle.set_tallies.proofs.Filled.{map-same}
use Rattle.set_tallies.proofs.Totals.{range-split, total-more, total-none}

-- ---- places
pub place-below : (n k s c : ℕ) → s < 2 ^ k → c < n → s * n + c < n * 2 ^ k
place-below n k s c l m = mul-add-lt s n c (2 ^ k) l m

module _ (n k : ℕ) (table : List ℕ) (c : ℕ) where
  pub column-long : length (column n k table c) ≡ 2 ^ k
  column-long = length-map-range_with_len (λ s. get_or table (s * n + c) 0) 0 (2 ^ k)

  pub column-at : (s : ℕ) → s < 2 ^ k → get_or (column n k table c) s 0 ≡ get_or table (s * n + c) 0
  column-at s l = get_or-map-range_with_len (λ s. get_or table (s * n + c) 0) 0 (2 ^ k) s s 0 l (omega arith)

-- every number in a table is in one of its columns
pub place-at : (n k : ℕ) (table : List ℕ) (i : ℕ) → 1 ≤ n → i < n * 2 ^ k → (i % n < n) × (i / n < 2 ^ k) ×
    (get_or (column n k table (i % n)) (i / n) 0 ≡ get_or table i 0)
place-at n k table i some l =
    let row : i / n < 2 ^ k = (div-lt_iff_lt-mul some).1 (omega (arith, l)) in
    (mod-lt i some, row, column-at n k table (i % n) (i / n) row ∙ ap (λ j. get_or table j 0) (div-add-mod' i n))

-- a table with this many numbers has room
pub cells : (n k : ℕ) → n ≤ MOST_SUMMED → k ≤ MOST_SUMMED → n * 2 ^ k % 2 ^ 64 ≡ n * 2 ^ k
cells n k few small =
    let two : 0 < 2 = omega arith in
    let below : 2 ^ k ≤ 2 ^ MOST_SUMMED = pow-le-pow_right two small in
    let product : n * 2 ^ k ≤ MOST_SUMMED * 2 ^ MOST_SUMMED = mul-le-mul few below in
    mod-eq_of_lt (omega (arith, product))

-- ---- one more number
pub apart-more : (s : ℕ) (numbers : List ℕ) (k v : ℕ) → k < length numbers → apart s (set numbers k (get_or numbers k 0 + v))
    ≡ apart s numbers + cond (misses s k) v 0
apart-more s numbers k v l =
    let new : List ℕ = set numbers k (get_or numbers k 0 + v) in
    let long : length new ≡ length numbers = length-set numbers k (get_or numbers k 0 + v) in
    ap (λ n. sum_by (at s new) (candidates n)) long
    ∙ total-more (at s numbers) (at s new) k (cond (misses s k) v 0) 0 (length numbers) (omega arith) (omega (arith, l))
    (ap (λ x. cond (misses s k) x 0) (get_or-set_same numbers k (get_or numbers k 0 + v) 0 l) ∙ apiece (misses s k) (get_or numbers k 0))
    (λ i n. let ne = eqb-false i k n in ap (λ x. cond (misses s i) x 0) (get_or-set_other numbers k i (get_or numbers k 0 + v) 0 ne))
  where
    apiece : (b : Bool) (x : ℕ) → cond b (x + v) 0 ≡ cond b x 0 + cond b v 0
    apiece true x = refl
    apiece false x = refl

module _ (n k : ℕ) (table : List ℕ) (long : length table ≡ n * 2 ^ k) (s c : ℕ) (row : s < 2 ^ k) (own : c < n) (v : ℕ) where
  there : ℕ
  there = s * n + c

  within : there < length table
  unfolding there
  within = omega (arith, long, place-below n k s c row own)

  more : List ℕ
  more = set table there (get_or table there 0 + v)

  other-place : (t d : ℕ) → d < n → (t ≡ s → d ≡ c → ⊥) → t * n + d ≡ there → ⊥
  unfolding there
  other-place t d l ne e =
      ne (sym (div-mul-add t n d l) ∙ ap (λ i. i / n) e ∙ div-mul-add s n c own) (sym (mod-mul-add t n d l) ∙ ap (λ i. i % n) e ∙ mod-mul-add s n c own)

  column-own : column n k more c ≡ set (column n k table c) s (get_or (column n k table c) s 0 + v)
  unfolding there more
  column-own =
      let old : List ℕ = column n k table c in
      let new : List ℕ = set old s (get_or old s 0 + v) in
      ext_get_or 0 (column n k more c) new (column-long n k more c ∙ sym (length-set old s (get_or old s 0 + v) ∙ column-long n k table c))
      (λ i l. let m : i < 2 ^ k = omega (arith, l, column-long n k more c) in column-at n k more c i m ∙ go i m (cases_Bool (i == s)))
    where
      go : (i : ℕ) → i < 2 ^ k → ((i == s) ≡ true) ⊎ ((i == s) ≡ false) → get_or more (i * n + c) 0
          ≡ get_or (set (column n k table c) s (get_or (column n k table c) s 0 + v)) i 0
      go i m (inl t) =
          let at : i ≡ s = eqb-true i s t in
          ap (λ j. get_or more (j * n + c) 0) at
          ∙ get_or-set_same table there (get_or table there 0 + v) 0 within
          ∙ ap (λ x. x + v) (sym (column-at n k table c s row))
          ∙ sym (get_or-set_same (column n k table c) s (get_or (column n k table c) s 0 + v) 0 (omega (arith, row, column-long n k table c)))
          ∙ ap (λ j. get_or (set (column n k table c) s (get_or (column n k table c) s 0 + v)) j 0) (sym at)
      go i m (inr f) =
          let ne = eqb-false i s f in
          get_or-set_other table there (i * n + c) (get_or table there 0 + v) 0 (other-place i c own (λ e d. ne e))
          ∙ sym (column-at n k table c i m)
          ∙ sym (get_or-set_other (column n k table c) s i (get_or (column n k table c) s 0 + v) 0 ne)

  column-other : (d : ℕ) → d < n → (d ≡ c → ⊥) → column n k more d ≡ column n k table d
  unfolding there more
  column-other d l ne = map-same (λ t. get_or more (t * n + d) 0) (λ t. get_or table (t * n + d) 0) 0 (2 ^ k)
      (λ t m. get_or-set_other table there (t * n + d) (get_or table there 0 + v) 0 (other-place t d l (λ e f. ne f)))

  pub table-more : (w d : ℕ) → d < n → apart w (column n k (set table (s * n + c) (get_or table (s * n + c) 0 + v)) d)
      ≡ apart w (column n k table d) + cond (d == c && misses w s) v 0
  unfolding there more
  table-more w d l = go (d == c) refl where
    go : (b : Bool) → (d == c) ≡ b → apart w (column n k more d) ≡ apart w (column n k table d) + cond (b && misses w s) v 0
    go true e =
        let at : d ≡ c = eqb-true d c e in
        ap (λ x. apart w (column n k more x)) at ∙ ap (apart w) column-own
        ∙ apart-more w (column n k table c) s v (omega (arith, row, column-long n k table c))
        ∙ ap (λ x. apart w (column n k table x) + cond (misses w s) v 0) (sym at)
    go false e = let ne = eqb-false d c e in ap (apart w) (column-other d l ne) ∙ omega arith

  -- it fits if the total of the column does
  pub place-fits : (m : ℕ) → apart 0 (column n k table c) + v ≤ m → get_or table (s * n + c) 0 + v ≤ m
  place-fits m fit = omega (arith, fit, column-at n k table c s row, place-le (column n k table c) s (omega (arith, row, column-long n k table c)))

-- ---- a table of zeros
pub zeros-apart : (n k w c m : ℕ) → m ≡ n * 2 ^ k → c < n → apart w (column n k (replicate m 0) c) ≡ 0
zeros-apart n k w c m long l =
    total-none (at w zeros) 0 (length zeros) (λ i a j. nothing (misses w i) (get_or zeros i 0) (nought i (omega (arith, j, column-long n k (replicate m 0) c))))
  where
    zeros : List ℕ
    zeros = column n k (replicate m 0) c

    none : ℕ
    none = 0

    nought : (i : ℕ) → i < 2 ^ k → get_or zeros i 0 ≡ 0
    nought i j = column-at n k (replicate m 0) c i j ∙ get_or-replicate m (i * n + c) none none (omega (arith, long, place-below n k i c j l))

    nothing : (b : Bool) (v : ℕ) → v ≡ 0 → cond b v 0 ≡ 0
    nothing true v e = e
    nothing false v e = refl

-- ---- halves
module _ (n m : ℕ) (without having : List ℕ) (w : length without ≡ n * 2 ^ m) (h : length having ≡ n * 2 ^ m) (c : ℕ) (l : c < n) where
  pub column-halves : map (λ s. get_or (without ++ having) (s * n + c) 0) (candidates (2 ^ m + 2 ^ m)) ≡ column n m without c ++ column n m having c
  column-halves =
      let f : ℕ → ℕ = λ s. get_or (without ++ having) (s * n + c) 0 in
      ap (map f) (range-split 0 (2 ^ m) (2 ^ m))
      ∙ map-append f (range_with_len 0 (2 ^ m)) (range_with_len (0 + 2 ^ m) (2 ^ m))
      ∙ ap₂ (λ xs ys. xs ++ ys)
      (map-same f (λ s. get_or without (s * n + c) 0) 0 (2 ^ m)
      (λ s j. get_or_append_left without having 0 (s * n + c) (omega (arith, w, place-below n m s c (omega (arith, j)) l))))
      (map-shift f 0 (2 ^ m) (2 ^ m) ∙ map-same (λ s. f (s + 2 ^ m)) (λ s. get_or having (s * n + c) 0) 0 (2 ^ m) (λ s j. second s))
    where
      moved : (s : ℕ) → (s + 2 ^ m) * n + c ≡ n * 2 ^ m + (s * n + c)
      moved s = omega (arith, add-mul s (2 ^ m) n)

      second : (s : ℕ) → get_or (without ++ having) ((s + 2 ^ m) * n + c) 0 ≡ get_or having (s * n + c) 0
      second s =
          get_or-append_right without having (n * 2 ^ m) ((s + 2 ^ m) * n + c) 0 w (omega (arith, moved s))
          ∙ ap (λ i. get_or having i 0) (omega (arith, moved s))

pub record AreHalves (n k : ℕ) (table without having : List ℕ) : Type 0 where
  pub first : length without ≡ n * 2 ^ (k - 1)
  pub second : length having ≡ n * 2 ^ (k - 1)
  pub own : (c : ℕ) → c < n → column n k table c ≡ column n (k - 1) without c ++ column n (k - 1) having c

pub halved : (n k : ℕ) (table without having : List ℕ) → (k ≡ 0 → ⊥) → length table ≡ n * 2 ^ k → table ≡ without ++ having →
    length without ≡ n * 2 ^ (k - 1) → length having + n * 2 ^ (k - 1) ≡ length table → AreHalves n k table without having
halved n k table without having some long parts front back = record {
  first = front;
  second = second;
  own = λ c l. ap₂ (λ t p. map (λ s. get_or t (s * n + c) 0) (candidates p)) parts (twice k some) ∙ column-halves n (k - 1) without having front second c l;
}
  where
    double : n * 2 ^ k ≡ n * 2 ^ (k - 1) + n * 2 ^ (k - 1)
    double = ap (λ p. n * p) (twice k some) ∙ mul-add n (2 ^ (k - 1)) (2 ^ (k - 1))

    second : length having ≡ n * 2 ^ (k - 1)
    second = omega (arith, back, long, double)

-- ---- the sums of the halves together
module _ (n k most : ℕ) (table without having : List ℕ) (s : AreHalves n k table without having) (fit : (c : ℕ) → c < n →
    apart 0 (column n k table c) ≤ most) where
  whole : (c : ℕ) → c < n → apart 0 (column n (k - 1) without c ++ column n (k - 1) having c) ≤ most
  whole c l = subst (λ xs. apart 0 xs ≤ most) (s.own c l) (fit c l)

  pub halves-fit : (c : ℕ) → c < n → (apart 0 (column n (k - 1) without c) ≤ most) × (apart 0 (column n (k - 1) having c) ≤ most)
  halves-fit c l = half-fits (k - 1) (column n (k - 1) without c) (column n (k - 1) having c) (column-long n (k - 1) without c)
      (column-long n (k - 1) having c) most (whole c l)

  module _ (a b : List ℕ) (la : length a ≡ n * 2 ^ (k - 1)) (lb : length b ≡ n * 2 ^ (k - 1)) (sa : (c : ℕ) → c < n →
      column n (k - 1) a c ≡ sums_of (column n (k - 1) without c)) (sb : (c : ℕ) → c < n → column n (k - 1) b c ≡ sums_of (column n (k - 1) having c)) where
    -- each number of the first half and the matching number of the second half fit together
    pub both-fit : (i : ℕ) → 1 ≤ n → i < length a → get_or a i 0 + get_or b i 0 ≤ most
    both-fit i some l =
        let inside : i < n * 2 ^ (k - 1) = omega (arith, l, la) in
        let pa = place-at n (k - 1) a i some inside in
        let pb = place-at n (k - 1) b i some inside in
        let c : ℕ = i % n in
        let wo = column n (k - 1) without c in
        let ha = column n (k - 1) having c in
        omega (
          arith,
          sym pa.2,
          sym pb.2,
          ap (λ xs. get_or xs (i / n) 0) (sa c pa.0),
          ap (λ xs. get_or xs (i / n) 0) (sb c pa.0),
          sums-fit (k - 1) wo ha (column-long n (k - 1) without c) (column-long n (k - 1) having c) most (i / n) (whole c pa.0) pa.1,
        )

    pub both-are : (k ≡ 0 → ⊥) → (c : ℕ) → c < n → column n k (map (λ i. get_or a i 0 + get_or b i 0) (candidates (length a)) ++ a) c
        ≡ sums_of (column n k table c)
    both-are some c l =
        let wo = column n (k - 1) without c in
        let ha = column n (k - 1) having c in
        ap (λ p. map (λ s. get_or (sum ++ a) (s * n + c) 0) (candidates p)) (twice k some)
        ∙ column-halves n (k - 1) sum a long la c l
        ∙ ap₂ (λ xs ys. xs ++ ys) (map-same (λ s. get_or sum (s * n + c) 0) (λ i. get_or (sums_of wo) i 0 + get_or (sums_of ha) i 0) 0 (2 ^ (k - 1))
        (λ i j. apiece i (omega (arith, j)))) (sa c l)
        ∙ joined-is (k - 1) wo ha (column-long n (k - 1) without c) (column-long n (k - 1) having c)
        ∙ ap sums_of (sym (s.own c l))
      where
        sum : List ℕ
        sum = map (λ i. get_or a i 0 + get_or b i 0) (candidates (length a))

        long : length sum ≡ n * 2 ^ (k - 1)
        long = length-map-range_with_len (λ i. get_or a i 0 + get_or b i 0) 0 (length a) ∙ la

        apiece : (i : ℕ) → i < 2 ^ (k - 1) → get_or sum (i * n + c) 0 ≡ get_or (sums_of (column n (k - 1) without c)) i 0
            + get_or (sums_of (column n (k - 1) having c)) i 0
        apiece i j =
            get_or-map-range_with_len (λ x. get_or a x 0 + get_or b x 0) 0 (length a) (i * n + c) (i * n + c) 0
            (omega (arith, la, place-below n (k - 1) i c j l)) (omega arith)
            ∙ ap₂ (λ x y. x + y) (sym (column-at n (k - 1) a c i j) ∙ ap (λ xs. get_or xs i 0) (sa c l)) (sym (column-at n (k - 1) b c i j)
            ∙ ap (λ xs. get_or xs i 0) (sb c l))
