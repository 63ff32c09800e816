-- Entries whose sets and numbers are in two lists, looked at side by side.
use Rattle.std.proofs.Common.{◌≡◌, ◌==◌, ℕ, zero, suc, ◌+◌, ◌<◌, ◌≤◌, cond, List, [], ◌∷◌, ◌++◌, length, map, take, drop, replicate, bit_and, get_or, refl, sym, ap, arith, ◌∙◌}
use native.Mathlib.Numerals.{unary_clauses}
use Rattle.std.specs.Simd.Lanes.{zip2, sel_l, sum_l, chunk}
use Rattle.std.proofs.lemmas.List.{take-append-drop}
use Rattle.std.proofs.lemmas.List.Sums.{sum_by-cons, sum_by-append, sum_by_more}
use Rattle.std.proofs.lemmas.Simd.{length-zip2, get_or-zip2}
use Rattle.set_tallies.specs.Bags.{misses, missing, total}
use Rattle.set_tallies.specs.Listings.{entry_of, paired}
use Rattle.set_tallies.specs.declared.entry.Entry.{Entry}
use Rattle.set_tallies.proofs.Runs.{missing-le}

abbrev votes : ℕ → Entry → ℕ
votes set e = cond (misses set e.before) e.count 0

-- the number of an entry that has nobody of the set, and 0 for any other entry
abbrev pub counted : ℕ → ℕ → ℕ → ℕ
counted set before count = cond (misses set before) count 0

pub selected : (set n : ℕ) (sets counts : List ℕ) → length sets ≡ n → length counts ≡ n →
    sel_l (zip2 (λ a b. a == b) (zip2 bit_and sets (replicate n set)) (replicate n 0)) counts (replicate n 0) ≡ zip2 (counted set) sets counts
selected set zero [] [] long wide = refl
selected set (suc n) (s ∷ sets) (c ∷ counts) long wide =
    ap (λ xs. counted set s c ∷ xs) (selected set n sets counts (omega arith) (omega arith))
selected set zero (s ∷ sets) counts long wide = absurd (omega arith)
selected set zero [] (c ∷ counts) long wide = absurd (omega arith)
selected set (suc n) [] counts long wide = absurd (omega arith)
selected set (suc n) (s ∷ sets) [] long wide = absurd (omega arith)

pub sum-counted : (set : ℕ) (sets counts : List ℕ) → sum_l (zip2 (counted set) sets counts) ≡ missing set (paired sets counts)
sum-counted set [] counts = refl
sum-counted set (s ∷ sets) [] = refl
sum-counted set (s ∷ sets) (c ∷ counts) =
    ap (λ n. counted set s c + n) (sum-counted set sets counts) ∙ sym (sum_by-cons (votes set) (record { before = s; count = c }) (paired sets counts))

take-paired : (n : ℕ) (sets counts : List ℕ) → paired (take n sets) (take n counts) ≡ take n (paired sets counts)
take-paired zero sets counts = refl
take-paired (suc n) [] counts = refl
take-paired (suc n) (s ∷ sets) [] = refl
take-paired (suc n) (s ∷ sets) (c ∷ counts) = ap (λ es. record { before = s; count = c } ∷ es) (take-paired n sets counts)

drop-paired : (n : ℕ) (sets counts : List ℕ) → length counts ≡ length sets → paired (drop n sets) (drop n counts) ≡ drop n (paired sets counts)
drop-paired zero sets counts same = refl
drop-paired (suc n) [] [] same = refl
drop-paired (suc n) [] (c ∷ counts) same = absurd (omega arith)
drop-paired (suc n) (s ∷ sets) [] same = absurd (omega arith)
drop-paired (suc n) (s ∷ sets) (c ∷ counts) same = drop-paired n sets counts (omega arith)

-- the lanes of two loads are those of the entries
pub chunk-paired : (i n : ℕ) (sets counts : List ℕ) → length counts ≡ length sets → paired (chunk i n sets) (chunk i n counts) ≡ chunk i n (paired sets counts)
chunk-paired i n sets counts same = take-paired n (drop i sets) (drop i counts) ∙ ap (take n) (drop-paired i sets counts same)

pub take-more : (i n : ℕ) (entries : List Entry) → take (i + n) entries ≡ take i entries ++ take n (drop i entries)
take-more zero n entries = ap (λ k. take k entries) (omega arith)
take-more (suc i) zero [] = simp unary_clauses refl
take-more (suc i) (suc n) [] = simp unary_clauses refl
take-more (suc i) n (e ∷ entries) =
    let next : suc i + n ≡ suc (i + n) = omega arith in
    ap (λ k. take k (e ∷ entries)) next ∙ ap (λ es. e ∷ es) (take-more i n entries)

-- the votes of some entries, and of those side by side after them
pub next-votes : (set i n : ℕ) (sets counts : List ℕ) → length counts ≡ length sets →
    missing set (take i (paired sets counts)) + sum_l (zip2 (counted set) (chunk i n sets) (chunk i n counts)) ≡ missing set (take (i + n) (paired sets counts))
next-votes set i n sets counts same =
    ap (λ k. missing set (take i (paired sets counts)) + k) (sum-counted set (chunk i n sets) (chunk i n counts) ∙ ap (missing set) (chunk-paired i n sets counts same))
    ∙ sym (sum_by-append (votes set) (take i (paired sets counts)) (chunk i n (paired sets counts)))
    ∙ ap (missing set) (sym (take-more i n (paired sets counts)))

-- the votes of the first entries are at most the total
pub first-votes : (set i : ℕ) (entries : List Entry) → missing set (take i entries) ≤ total entries
first-votes set i entries =
    omega (
      arith,
      ap (missing set) (sym (take-append-drop i entries)),
      sum_by-append (votes set) (take i entries) (drop i entries),
      missing-le set entries,
    )

pub length-paired : (sets counts : List ℕ) → length counts ≡ length sets → length (paired sets counts) ≡ length sets
length-paired sets counts same = length-zip2 entry_of sets counts (sym same)

pub entry-at : (sets counts : List ℕ) (i : ℕ) (e : Entry) → length counts ≡ length sets → i < length sets →
    get_or (paired sets counts) i e ≡ entry_of (get_or sets i 0) (get_or counts i 0)
entry-at sets counts i e same l = get_or-zip2 entry_of sets counts i 0 0 e l (omega arith)

-- the votes of some entries, and of the next one
pub one-more : (set : ℕ) (sets counts : List ℕ) (i : ℕ) → length counts ≡ length sets → i < length sets →
    missing set (take (i + 1) (paired sets counts)) ≡ missing set (take i (paired sets counts)) + counted set (get_or sets i 0) (get_or counts i 0)
one-more set sets counts i same l =
    sum_by_more (votes set) (paired sets counts) i none (omega (arith, l, length-paired sets counts same))
    ∙ ap (λ e. missing set (take i (paired sets counts)) + votes set e) (entry-at sets counts i none same l)
  where
    none : Entry
    none = record { before = 0; count = 0 }

-- ---- a list of entries, taken apart
pub together : (entries : List Entry) → paired (map (λ e. e.before) entries) (map (λ e. e.count) entries) ≡ entries
together [] = refl
together (e ∷ entries) = ap (λ es. e ∷ es) (together entries)
