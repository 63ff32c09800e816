-- Sums in half the space: a set and its complement, and the sums over the first candidates' sets.
use Rattle.std.proofs.Common.{◌≡◌, ◌==◌, ℕ, zero, suc, ◌+◌, ◌-◌, ◌*◌, ◌/◌, ◌%◌, ◌^◌, ◌<◌, ◌≤◌, nat_lt, Bool, true, false, cond, not, ◌&&◌, ◌||◌, bit_and, bit_or, max, ◌⊎◌, inl, inr, Some, List, [], ◌∷◌, length, map, get_or, refl, sym, ap, ap₂, subst, arith, eq-eqb, eqb-true, ne_eqb, pow_pos, ltb-true, ltb-false, ◌∙◌}
use Rattle.std.specs.Int.{bit_at}
use Rattle.std.proofs.Math.Nat.{add-mul, div-add-mod', div-lt_iff_lt-mul, mod-lt}
use Rattle.std.proofs.Math.Pow.{pow-lt}
use Rattle.std.proofs.lemmas.Bool.{cases_Bool, eqb-false}
use Rattle.std.proofs.lemmas.List.{get_or_default}
use Rattle.std.proofs.lemmas.List.Sums.{sum_by-cons}
use Rattle.std.proofs.lemmas.Nat.{and-not, and_block, pow-add, or_lt, div-mul-add, mod-mul-add}
use Rattle.std.proofs.lemmas.Nat.Bits.{and_pow, bit_at_or, bit_at-lt, bit_at-zero, bit_at-pow_same, bit_at-pow_other, same_from_bits}
use Rattle.irv_base.specs.Candidates.{candidates, has}
use Rattle.irv_base.proofs.Bits.{has-with}
use Rattle.set_tallies.specs.Bags.{AreEntries, Kept, votes_at, misses, missing, total}
use Rattle.set_tallies.specs.Befores.{before_after, is_missed, has_missed, AllCounted}
use Rattle.set_tallies.specs.declared.entry.Entry.{Entry}
use Rattle.set_tallies.specs.Halves.{others, row_of, having, half_at, halves_of, AreHalves}
use Rattle.set_tallies.specs.Rows.{votes_of}
use Rattle.set_tallies.specs.declared.halves.Halves.{Halves}
use Rattle.set_tallies.specs.Sums.{column, apart, sums_of}
use Rattle.set_tallies.proofs.Apart.{misses-empty, misses-turned, twice, sum-at}
use Rattle.set_tallies.proofs.Befores.{misses-other}
use Rattle.set_tallies.proofs.Columns.{column-at, column-long, place-below}
use Rattle.set_tallies.proofs.Filled.{count-same, map-same}
use Rattle.set_tallies.proofs.Tables.{misses-own}

-- ---- a set and its complement
module _ (n s : ℕ) (below : s < 2 ^ n) where
  pub others-below : others n s < 2 ^ n
  others-below = omega (arith, below)

  pub others-twice : others n (others n s) ≡ s
  others-twice = omega (arith, below)

  pub others-has : (c : ℕ) → c < n → has (others n s) c ≡ not (has s c)
  others-has c l = go (bit_at s c) (bit_at (others n s) c) one (bit_at-lt s c) where
    both : bit_at (others n s) c * 2 ^ c + bit_at s c * 2 ^ c ≡ 2 ^ c
    both = omega (arith, and_pow (others n s) c, and_pow s c, and-not n s (2 ^ c) below (pow-lt l))

    unit : (x p : ℕ) → 0 < p → x * p ≡ p → x ≡ 1
    unit zero p some e = absurd (omega (arith, e, some))
    unit (suc zero) p some e = refl
    unit (suc (suc x)) p some e = absurd (omega (arith, e, some, two))
      where
        two : suc (suc x) * p ≡ x * p + p + p
        two = omega arith

    one : bit_at (others n s) c + bit_at s c ≡ 1
    one = unit (bit_at (others n s) c + bit_at s c) (2 ^ c) (pow_pos c)
        (add-mul (bit_at (others n s) c) (bit_at s c) (2 ^ c) ∙ both)

    go : (x y : ℕ) → y + x ≡ 1 → x < 2 → (y == 1) ≡ not (x == 1)
    go zero y e l = let at : y ≡ 1 = omega (arith, e) in ap (λ v. v == 1) at
    go (suc zero) y e l = let at : y ≡ 0 = omega (arith, e) in ap (λ v. v == 1) at
    go (suc (suc x)) y e l = absurd (omega (arith, l))

  -- ---- the row of the two
  pub row-below : (n ≡ 0 → ⊥) → row_of n s < 2 ^ (n - 1)
  row-below some = go (nat_lt s (2 ^ (n - 1))) refl where
    go : (b : Bool) → nat_lt s (2 ^ (n - 1)) ≡ b → cond b s (others n s) < 2 ^ (n - 1)
    go true e = ltb-true s (2 ^ (n - 1)) e
    go false e = omega (arith, ltb-false s (2 ^ (n - 1)) e, below, twice n some)

  pub row-having : (c : ℕ) → c < n → has s c ≡ true → having n (row_of n s) c ≡ s
  row-having c l inside = go (nat_lt s (2 ^ (n - 1))) where
    other : has (others n s) c ≡ false
    other = others-has c l ∙ ap not inside

    go : (b : Bool) → having n (cond b s (others n s)) c ≡ s
    go true = ap (λ t. cond t s (others n s)) inside
    go false = ap (λ t. cond t (others n s) (others n (others n s))) other ∙ others-twice

pub having-below : (n row c : ℕ) → row < 2 ^ n → having n row c < 2 ^ n
having-below n row c below = go (has row c) where
  go : (b : Bool) → cond b row (others n row) < 2 ^ n
  go true = below
  go false = others-below n row below

-- ---- a set with the candidate
pub with-has : (s c : ℕ) → has (bit_or s (2 ^ c)) c ≡ true
with-has s c = has-with s c c ∙ go (has s c) where
  self : (c == c) ≡ true
  self = eq-eqb c c refl

  go : (b : Bool) → (b || (c == c)) ≡ true
  go true = refl
  go false = self

pub with-below : (n s c : ℕ) → s < 2 ^ n → c < n → bit_or s (2 ^ c) < 2 ^ n
with-below n s c below l = or_lt n s (2 ^ c) below (pow-lt l)

-- a member is already in the set
pub with-same : (s c : ℕ) → has s c ≡ true → bit_or s (2 ^ c) ≡ s
with-same s c inside = same_from_bits (bit_or s (2 ^ c)) s (λ i. bit_at_or s (2 ^ c) i ∙ go i (cases_Bool (i == c))) where
  go : (i : ℕ) → ((i == c) ≡ true) ⊎ ((i == c) ≡ false) → max (bit_at s i) (bit_at (2 ^ c) i) ≡ bit_at s i
  go i (inl t) =
      let at = eqb-true i c t in
      let own : bit_at s i ≡ 1 = ap (bit_at s) at ∙ eqb-true (bit_at s c) 1 inside in
      omega (arith, own, ap (bit_at (2 ^ c)) at, bit_at-pow_same c)
  go i (inr f) = omega (arith, bit_at-pow_other c i (eqb-false i c f))

-- ---- places
pub place-apart : (n t d s c : ℕ) → d < n → c < n → (t ≡ s → d ≡ c → ⊥) → t * n + d ≡ s * n + c → ⊥
place-apart n t d s c l m ne e =
    ne (sym (div-mul-add t n d l) ∙ ap (λ i. i / n) e ∙ div-mul-add s n c m) (sym (mod-mul-add t n d l) ∙ ap (λ i. i % n) e ∙ mod-mul-add s n c m)

pub half-within : (n s c : ℕ) → 1 ≤ n → s < 2 ^ n → c < n → row_of n s * n + c < n * 2 ^ (n - 1)
half-within n s c some below l = place-below n (n - 1) (row_of n s) c (row-below n s below (λ e. omega (arith, e, some))) l

-- ---- the first candidates' sets, and the others'
pub wide : (n : ℕ) → 4 ≤ n → 16 * 2 ^ (n - 4) ≡ 2 ^ n
wide n some =
    let whole : 4 + (n - 4) ≡ n = omega (arith, some) in
    sym (pow-add 2 4 (n - 4)) ∙ ap (λ k. 2 ^ k) whole

misses-block : (h B l b : ℕ) → l < 16 → b < 16 → misses (h * 16 + l) (B * 16 + b) ≡ (misses l b && misses h B)
misses-block h B l b lo bo = ap (λ x. x == 0) (and_block 4 B h b l bo lo) ∙ go (bit_and B h) (bit_and b l) where
  go : (x y : ℕ) → (x * 16 + y == 0) ≡ ((y == 0) && (x == 0))
  go x y = elim (cases_Bool (y == 0)) [
    | inr f ↦ ne_eqb (x * 16 + y) 0 (λ e. eqb-false y 0 f (omega (arith, e))) ∙ sym (ap (λ v. v && (x == 0)) f)
    | inl t ↦ elim (cases_Bool (x == 0)) [
      | inl u ↦ ap₂ (λ v w. v * 16 + w == 0) (eqb-true x 0 u) (eqb-true y 0 t) ∙ sym (ap₂ (λ v w. v && w) t u)
      | inr f ↦ ne_eqb (x * 16 + y) 0 (λ e. eqb-false x 0 f (omega (arith, e))) ∙ sym (ap₂ (λ v w. v && w) t f)
    ]
  ]

pub misses-parts : (n h l B : ℕ) → l < 16 → 4 ≤ n → h * 16 + l < 2 ^ n → misses (h * 16 + l) B ≡ (misses l (B % 2 ^ n) && misses h (B % 2 ^ n / 16))
misses-parts n h l B lo some below =
    let b : ℕ = B % 2 ^ n in
    let low : l < 2 ^ 4 = lo in
    let parts : b / 16 * 16 + b % 16 ≡ b = div-add-mod' b 16 in
    sym (misses-own n (h * 16 + l) B below)
    ∙ ap (misses (h * 16 + l)) (sym parts)
    ∙ misses-block h (b / 16) l (b % 16) lo (mod-lt b (omega arith))
    ∙ ap (λ t. t && misses h (b / 16)) (misses-own 4 l b low)

-- what the sums give when they are read
pub says-low : (n : ℕ) (numbers sums : List ℕ) → 4 ≤ n → ((low : ℕ) → low < 16 → column 16 (n - 4) sums low ≡ sums_of (column 16 (n - 4) numbers low)) →
    (set : ℕ) → set < 2 ^ n → get_or sums set 0 ≡ apart (set / 16) (column 16 (n - 4) numbers (set % 16))
says-low n numbers sums some made set below =
    let low : set % 16 < 16 = mod-lt set (omega arith) in
    let row : set / 16 < 2 ^ (n - 4) = (div-lt_iff_lt-mul (omega arith)).1 (omega (arith, wide n some, below)) in
    let long : set / 16 < length (column 16 (n - 4) numbers (set % 16)) = subst (λ k. set / 16 < k) (sym (column-long 16 (n - 4) numbers (set % 16))) row in
    ap (λ i. get_or sums i 0) (sym (div-add-mod' set 16))
    ∙ sym (column-at 16 (n - 4) sums (set % 16) (set / 16) row)
    ∙ ap (λ xs. get_or xs (set / 16) 0) (made (set % 16) low)
    ∙ sum-at (column 16 (n - 4) numbers (set % 16)) (set / 16) long

-- ---- no candidate comes before itself
misses-own_more : (set b c : ℕ) → has b c ≡ false → misses (bit_or set (2 ^ c)) b ≡ misses set b
misses-own_more set b c out = misses-turned (bit_or set (2 ^ c)) b ∙ misses-other b set c out ∙ misses-turned b set

pub missed-own : (set c seen : ℕ) (ranking : List ℕ) → has seen c ≡ false →
    is_missed (bit_or set (2 ^ c)) (before_after seen ranking c) ≡ is_missed set (before_after seen ranking c)
missed-own set c seen [] out = refl
missed-own set c seen (d ∷ rest) out = go (d == c) refl (λ o. missed-own set c (bit_or seen (2 ^ d)) rest o) where
  go : (b : Bool) → (d == c) ≡ b →
      (has (bit_or seen (2 ^ d)) c ≡ false → is_missed (bit_or set (2 ^ c)) (before_after (bit_or seen (2 ^ d)) rest c)
      ≡ is_missed set (before_after (bit_or seen (2 ^ d)) rest c)) →
      is_missed (bit_or set (2 ^ c)) (cond b (Some seen) (before_after (bit_or seen (2 ^ d)) rest c))
      ≡ is_missed set (cond b (Some seen) (before_after (bit_or seen (2 ^ d)) rest c))
  go true e ih = misses-own_more set seen c out
  go false e ih =
      let other : (c == d) ≡ false = ne_eqb c d (λ f. eqb-false d c e (sym f)) in
      ih (has-with seen d c ∙ ap₂ (λ x y. x || y) out other)

pub entries-of : (n : ℕ) (lists : List (List Entry)) (records : List (List ℕ)) → length lists ≡ n → AllCounted lists records → AreEntries n (length records) lists
entries-of n lists records each counted = record {
  one_each = each;
  few = λ k d l. subst (λ es. total es ≤ length records) (get_or_default lists k [] d l) (counted k l).few;
  alone = λ set c l.
      let own = counted c (omega (arith, each, l)) in
      own.missing (bit_or set (2 ^ c))
      ∙ count-same (has_missed (bit_or set (2 ^ c)) c) (has_missed set c) records
      (λ k d m. missed-own set c 0 (get_or records k d) (ap (λ x. x == 1) (bit_at-zero c)))
      ∙ sym (own.missing set);
}

pub entries-most : (n records most : ℕ) (lists : List (List Entry)) → records ≤ most → AreEntries n records lists → AreEntries n most lists
entries-most n records most lists within h = record {
  one_each = h.one_each;
  few = λ k d l. let one = h.few k d l in omega (arith, one, within);
  alone = h.alone;
}

-- on every ballot, nobody of the empty set comes before the candidate
pub missing-all : (entries : List Entry) → missing 0 entries ≡ total entries
missing-all [] = refl
missing-all (e ∷ rest) =
    sum_by-cons (λ x. cond (misses 0 x.before) x.count 0) e rest
    ∙ ap₂ (λ b m. cond b e.count 0 + m) (misses-empty e.before) (missing-all rest)
    ∙ sym (sum_by-cons (λ x. x.count) e rest)

-- ---- the tallies that are read
pub halves-row : (bag : Kept) (halves : Halves) (set : ℕ) → AreHalves bag halves → set < 2 ^ bag.n → halves_of halves set ≡ votes_of bag set
halves-row bag halves set h below =
    ap (λ n. map (λ c. cond (has set c) (half_at halves set c) 0) (candidates n)) h.table.same
    ∙ map-same (λ c. cond (has set c) (half_at halves set c) 0) (λ c. cond (has set c) (votes_at bag set c) 0) 0 bag.n
    (λ c l. ap (λ v. cond (has set c) v 0) (h.says set c below (omega (arith, l))))
