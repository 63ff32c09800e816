-- What a bag says about the records.
use Rattle.std.proofs.Common.{◌≡◌, ℕ, suc, zero, ◌+◌, ◌<◌, ◌≤◌, ◌^◌, Bool, true, false, cond, if◌then◌else◌, Option, Some, None, IfSome, List, [], ◌∷◌, All, length, map, get_or, count_by, IsPermutation, pow_pos, refl, sym, ap, ap₂, subst, arith, ◌∙◌}
use Rattle.std.specs.List.{range_with_len}
use Rattle.std.proofs.Math.Pow.{pow-lt}
use Rattle.std.proofs.lemmas.List.{get_or_default, get_or-map, length-map}
use Rattle.std.proofs.lemmas.List.FromFn.{get_or-map-range_with_len, length-map-range_with_len}
use Rattle.std.proofs.lemmas.List.Sums.{sum_by-cons}
use Rattle.std.proofs.lemmas.List.Sorted.{sum_by-IsPermutation, length_permutation}
use Rattle.irv_base.specs.Candidates.{candidates, has}
use Rattle.irv_base.specs.Records.{top, is_some_of, tally, is_first, is_ahead}
use Rattle.set_tallies.specs.Bags.{Kept, IsOf, votes_at, all_votes, Counts, AreFilledFrom, IsTable, everyone, tallies, HasTallies}
use Rattle.set_tallies.specs.Befores.{before, is_missed, has_missed}
use Rattle.set_tallies.specs.Rows.{votes_of}
use Rattle.set_tallies.specs.declared.entry.Entry.{Entry}
use Rattle.set_tallies.proofs.Befores.{missed_top, missed_ahead, missed_first, misses-none, outside}

-- ---- the same count by another test
pub count-same : {X : Type 0} (p q : X → Bool) (xs : List X) → All (λ x. p x ≡ q x) xs → count_by p xs ≡ count_by q xs
count-same p q [] h = refl
count-same {X} p q (x ∷ xs) h =
    let first : p x ≡ q x = h 0 x (omega arith) in
    let rest : count_by p xs ≡ count_by q xs = count-same p q xs (λ k d l. h (suc k) d (omega arith)) in
    sum_by-cons (λ y. cond (p y) 1 0) x xs ∙ ap₂ (λ b n. cond b 1 0 + n) first rest ∙ sym (sum_by-cons (λ y. cond (q y) 1 0) x xs)

pub count-none : {X : Type 0} (p : X → Bool) (xs : List X) → ((x : X) → p x ≡ false) → count_by p xs ≡ 0
count-none p [] h = refl
count-none p (x ∷ xs) h = sum_by-cons (λ y. cond (p y) 1 0) x xs ∙ ap₂ (λ b n. cond b 1 0 + n) (h x) (count-none p xs h)

-- ---- the entries of each candidate

-- ---- what the numbers of a bag say
pub votes-read : (n : ℕ) (f : ℕ → ℕ → ℕ) (set c : ℕ) → set < 2 ^ n → c < n → get_or (get_or (all_votes n f) set []) c 0 ≡ f set c
votes-read n f set c s l =
    ap (λ xs. get_or xs c 0) (get_or-map-range_with_len (λ t. map (f t) (candidates n)) 0 (2 ^ n) set set [] s (omega arith))
    ∙ get_or-map-range_with_len (f set) 0 n c c 0 l (omega arith)

pub bag-of : (n : ℕ) (votes : ℕ → ℕ → ℕ) (records : List (List ℕ)) → All (All (λ c. c < n)) records →
    ((set c : ℕ) → set < 2 ^ n → c < n → votes set c ≡ count_by (has_missed set c) records) →
    IsOf (record { n = n; records = length records; votes = all_votes n votes }) records
bag-of n votes records below says = record {
  all = refl;
  tallies = λ set c s l inside. h set c s l ∙ count-same (λ r. is_missed set (before r c)) (λ r. is_some_of (top r set) c) records
      (λ k d w. missed_top set 0 (get_or records k d) c (misses-none set) inside);
  firsts = λ w l. h (everyone n) w (omega (arith, pow_pos n)) l
      ∙ count-same (λ r. is_missed (everyone n) (before r w)) (λ r. is_first r w) records (λ k d m. missed_first n (get_or records k d) w (below k d m));
  ahead = λ l w k m. h (2 ^ w) l (pow-lt m) k ∙ count-same (λ r. is_missed (2 ^ w) (before r l)) (λ r. is_ahead r l w) records
      (λ j d i. missed_ahead w 0 (get_or records j d) l (misses-none (2 ^ w)));
}
  where
    h : (set c : ℕ) → set < 2 ^ n → c < n → get_or (get_or (all_votes n votes) set []) c 0 ≡ count_by (has_missed set c) records
    h set c s l = votes-read n votes set c s l ∙ says set c s l

pub map-same : {X : Type 0} (f g : ℕ → X) (a n : ℕ) → ((c : ℕ) → c < a + n → f c ≡ g c) → map f (range_with_len a n) ≡ map g (range_with_len a n)
map-same f g a zero h = refl
map-same f g a (suc n) h = ap₂ (λ x xs. x ∷ xs) (h a (omega arith)) (map-same f g (a + 1) n (λ c l. h c (omega arith)))

pub all-same : (n : ℕ) (f g : ℕ → ℕ → ℕ) → ((set c : ℕ) → set < 2 ^ n → c < n → f set c ≡ g set c) → all_votes n f ≡ all_votes n g
all-same n f g h = map-same (λ set. map (f set) (candidates n)) (λ set. map (g set) (candidates n)) 0 (2 ^ n)
    (λ set s. map-same (f set) (g set) 0 n (λ c l. h set c (omega (arith, s)) (omega (arith, l))))

-- ---- in another order
pub order_is_free : (bag : Kept) (records others : List (List ℕ)) → IsPermutation records others → IsOf bag records → IsOf bag others
order_is_free bag records others p h = record {
  all = h.all ∙ sym (length_permutation records others p);
  tallies = λ set c s l inside. h.tallies set c s l inside ∙ same (λ r. is_some_of (top r set) c);
  firsts = λ w l. h.firsts w l ∙ same (λ r. is_first r w);
  ahead = λ l w k m. h.ahead l w k m ∙ same (λ r. is_ahead r l w);
}
  where
    same : (q : List ℕ → Bool) → count_by q records ≡ count_by q others
    same q = sym (sum_by-IsPermutation (λ r. cond (q r) 1 0) records others p)

-- ---- the tallies of a set
pub tally-outside : (records : List (List ℕ)) (set c : ℕ) → has set c ≡ false → 0 ≡ tally records set c
tally-outside records set c out = sym (count-none (λ r. is_some_of (top r set) c) records (λ r. outside set r c out))

-- ---- reading lists of lists
pub at-place : {X Y : Type 0} (P : Y → Type 0) (f : X → Y) (xs : List X) (k : ℕ) (d : X) → k < length xs → All P (map f xs) → d ≡ get_or xs k d → P (f d)
at-place P f xs k d l h at =
    let within : k < length (map f xs) = rw (length-map xs f) l in
    subst P (get_or-map f xs k d (f d) l ∙ ap f (sym at)) (h k (f d) within)

pub own-entries : {X : Type 0} (f : X → List Entry) (xs : List X) (k : ℕ) (d : X) → k < length xs → d ≡ get_or xs k d → get_or (map f xs) k [] ≡ f d
own-entries f xs k d l at = get_or-map f xs k d [] l ∙ ap f (sym at)

pub cell : {X : Type 0} (f : X → List ℕ) (xs : List X) (k j v : ℕ) (d : X) → k < length xs → d ≡ get_or xs k d → j < length (f d) → v ≡ get_or (f d) j v →
    get_or (get_or (map f xs) k []) j 0 ≡ v
cell f xs k j v d l at m e = ap (λ r. get_or r j 0) (get_or-map f xs k d [] l ∙ ap f (sym at)) ∙ get_or_default (f d) j 0 v m ∙ sym e

-- ---- rows
pub row-long : (bag : Kept) (set : ℕ) → length (votes_of bag set) ≡ bag.n
row-long bag set = length-map-range_with_len (λ c. if has set c then votes_at bag set c else 0) 0 bag.n

-- the numbers of a set include the tallies of those in it
pub numbers-tally : (bag : Kept) (records : List (List ℕ)) (set : ℕ) (row : List ℕ) → set < 2 ^ bag.n → IsOf bag records →
    ((c : ℕ) → c < bag.n → has set c ≡ true → get_or row c 0 ≡ votes_at bag set c) → HasTallies records bag.n set row
numbers-tally bag records set row below h is c l inside = is c l inside ∙ h.tallies set c below l inside

pub votes-tally : (bag : Kept) (records : List (List ℕ)) (set : ℕ) → set < 2 ^ bag.n → IsOf bag records → HasTallies records bag.n set (votes_of bag set)
votes-tally bag records set below h = numbers-tally bag records set (votes_of bag set) below h
    (λ c l inside. get_or-map-range_with_len (λ c. if has set c then votes_at bag set c else 0) 0 bag.n c c 0 l (omega arith)
    ∙ ap (λ b. cond b (votes_at bag set c) 0) inside)

pub row-tallies : (bag : Kept) (records : List (List ℕ)) (set : ℕ) → set < 2 ^ bag.n → IsOf bag records → votes_of bag set ≡ tallies records bag.n set
row-tallies bag records set below h = map-same (λ c. if has set c then votes_at bag set c else 0) (tally records set) 0 bag.n
    (λ c l. go c (omega arith) (has set c) refl)
  where
    go : (c : ℕ) → c < bag.n → (b : Bool) → has set c ≡ b → cond b (votes_at bag set c) 0 ≡ tally records set c
    go c l true e = h.tallies set c below l e
    go c l false e = tally-outside records set c e

pub has-tallies : (records : List (List ℕ)) (n set : ℕ) (row : List ℕ) → row ≡ tallies records n set → HasTallies records n set row
has-tallies records n set row is c l inside = ap (λ xs. get_or xs c 0) is ∙ get_or-map-range_with_len (tally records set) 0 n c c 0 l (omega arith)

-- what a row has for those in the set, and 0 for the others
pub tallied : (records : List (List ℕ)) (n set : ℕ) (row : List ℕ) → HasTallies records n set row →
    map (λ c. if has set c then get_or row c 0 else 0) (candidates n) ≡ tallies records n set
tallied records n set row h = map-same (λ c. if has set c then get_or row c 0 else 0) (tally records set) 0 n
    (λ c l. go c (omega arith) (has set c) refl)
  where
    go : (c : ℕ) → c < n → (b : Bool) → has set c ≡ b → cond b (get_or row c 0) 0 ≡ tally records set c
    go c l true e = h c l e
    go c l false e = tally-outside records set c e

pub if-some : {X : Type 0} (P Q : X → Type 0) (o : Option X) → ((x : X) → P x → Q x) → IfSome o P → IfSome o Q
if-some P Q None f h = tt
if-some P Q (Some x) f h = f x h

-- what holds for one more, and for what was there
pub one-more : {X : Type 0} (P : X → Type 0) (b : Bool) (x : X) (o : Option X) → (b ≡ true → P x) → IfSome o P → IfSome (cond b (Some x) o) P
one-more P true x o own others = own refl
one-more P false x o own others = others

-- ---- the two numbers of NEB's margin
pub record Filled (bag : Kept) (counts : Counts) : Type 0 where
  pub same : counts.n ≡ bag.n
  pub firsts : counts.firsts ≡ map (λ w. votes_at bag (everyone bag.n) w) (candidates counts.n)
  pub ahead : counts.ahead ≡ map (λ c. map (λ w. votes_at bag (2 ^ w) c) (candidates counts.n)) (candidates counts.n)

pub filled-from : (bag : Kept) (counts : Counts) → Filled bag counts → AreFilledFrom bag counts
filled-from bag counts f = record {
  same = f.same;
  own = λ records h. record {
    firsts = λ w l. ap (λ xs. get_or xs w 0) f.firsts ∙ get_or-map-range_with_len (λ w. votes_at bag (everyone bag.n) w) 0 counts.n w w 0 l (omega arith)
        ∙ h.firsts w (omega (arith, f.same, l));
    ahead = λ c w k l.
        ap (λ xs. get_or (get_or xs c []) w 0) f.ahead
        ∙ ap (λ xs. get_or xs w 0) (get_or-map-range_with_len (λ c. map (λ w. votes_at bag (2 ^ w) c) (candidates counts.n)) 0 counts.n c c [] k (omega arith))
        ∙ get_or-map-range_with_len (λ w. votes_at bag (2 ^ w) c) 0 counts.n w w 0 l (omega arith)
        ∙ h.ahead c w (omega (arith, f.same, k)) (omega (arith, f.same, l));
  };
}

pub table-of : (bag : Kept) (counts : Counts) → counts.n ≤ 32 → Filled bag counts → IsTable counts
table-of bag counts room f = record {
  room = room;
  long = ap length f.firsts ∙ length-map-range_with_len (λ w. votes_at bag (everyone bag.n) w) 0 counts.n;
  wide = ap length f.ahead ∙ length-map-range_with_len (λ c. map (λ w. votes_at bag (2 ^ w) c) (candidates counts.n)) 0 counts.n;
  square = subst (All (λ row. length row ≡ counts.n)) (sym f.ahead) (rows counts.n);
}
  where
    row : ℕ → List ℕ
    row c = map (λ w. votes_at bag (2 ^ w) c) (candidates counts.n)

    rows : (n : ℕ) → All (λ row. length row ≡ counts.n) (map row (candidates n))
    rows n k d l =
        let within : k < n = subst (λ m. k < m) (length-map-range_with_len row 0 n) l in
        ap length (get_or-map-range_with_len row 0 n k k d within (omega arith)) ∙ length-map-range_with_len (λ w. votes_at bag (2 ^ w) k) 0 counts.n
