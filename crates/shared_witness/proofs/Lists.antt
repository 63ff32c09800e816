-- Sums and the smallest post over the views, when one view changes, is added or is spent.
use Rattle.std.proofs.Common.{◌≡◌, ◌≢◌, ℕ, zero, suc, ◌+◌, ◌≤◌, ◌<◌, ◌==◌, min, nat_lt, true, false, not, cond, inl, inr, List, [], ◌∷◌, ◌++◌, length, get_or, set, slice_get, sum_by, count_by, All, Some, refl, sym, ap, ◌∙◌, subst, arith, length-append}
use Rattle.std.proofs.lemmas.Bool.{or_parts, or_cases, cases_lt, lt-ltb, le-ltb, eq-eqb, cases_Bool, not_from_false}
use Rattle.std.proofs.lemmas.List.Folds.{list_any_at}
use Rattle.std.proofs.lemmas.List.{get_or_at}
use Rattle.std.proofs.Math.Numerals.{add-one}
use Rattle.std.proofs.lemmas.Option.{slice_get_within, get_or_from_slice_get}
use Rattle.std.proofs.lemmas.List.Sums.{sum_by-cons, sum_by-append, sum_by-set, sum_by_push, get_or-le-sum_by}
use Rattle.std.proofs.lemmas.List.Elements.{All-get_or, All-head, All-tail}
use Rattle.irv_base.specs.Candidates.{is_in}
use Rattle.shared_witness.specs.declared.view.View.{View}
use Rattle.shared_witness.specs.View.{highest}
use Rattle.shared_witness.specs.Moment.{taken_pieces, least_posted, times, EachOnce}

-- ---- elements by their place

module _ {A : Type 0} where
  pub slice_get-set_other : (xs : List A) (i j : ℕ) (x : A) → j ≢ i → slice_get (set xs i x) j ≡ slice_get xs j
  slice_get-set_other [] i j x apart = refl
  slice_get-set_other (y ∷ ys) zero zero x apart = absurd (apart refl)
  slice_get-set_other (y ∷ ys) zero (suc j) x apart = refl
  slice_get-set_other (y ∷ ys) (suc i) zero x apart = refl
  slice_get-set_other (y ∷ ys) (suc i) (suc j) x apart = slice_get-set_other ys i j x (λ same. apart (ap suc same))

  pub slice_get-set_same : (xs : List A) (i : ℕ) (x y : A) → slice_get xs i ≡ Some y → slice_get (set xs i x) i ≡ Some x
  slice_get-set_same [] i x y at = cc
  slice_get-set_same (z ∷ zs) zero x y at = refl
  slice_get-set_same (z ∷ zs) (suc i) x y at = slice_get-set_same zs i x y at

  pub slice_get-append : (xs ys : List A) (i : ℕ) (x : A) → slice_get xs i ≡ Some x → slice_get (xs ++ ys) i ≡ Some x
  slice_get-append [] ys i x at = cc
  slice_get-append (z ∷ zs) ys zero x at = at
  slice_get-append (z ∷ zs) ys (suc i) x at = slice_get-append zs ys i x at

  pub All-at : (P : A → Type 0) (xs : List A) (i : ℕ) (x : A) → slice_get xs i ≡ Some x → All P xs → P x
  All-at P xs i x at all = subst P (get_or_from_slice_get xs i x x at) (All-get_or P xs i x (slice_get_within xs i x at) all)

-- ---- sums

module _ (f : View → ℕ) where
  pub sum_set : (vs : List View) (k : ℕ) (v w : View) → slice_get vs k ≡ Some v → sum_by f (set vs k w) + f v ≡ sum_by f vs + f w
  sum_set vs k v w at = rw (get_or_from_slice_get vs k v v at) at (sum_by-set f vs k w v (slice_get_within vs k v at))

  pub sum_at : (vs : List View) (k : ℕ) (v : View) → slice_get vs k ≡ Some v → f v ≤ sum_by f vs
  sum_at vs k v at = rw (get_or_from_slice_get vs k v v at) at (get_or-le-sum_by f vs k v (slice_get_within vs k v at))

pub times-taken : (vs : List View) (p : ℕ) → times (taken_pieces vs) p ≡ sum_by (λ v. times v.taken p) vs
times-taken [] p = refl
times-taken (v ∷ vs) p = sum_by-append (λ q. cond (q == p) 1 0) v.taken (taken_pieces vs) ∙ ap (λ n. times v.taken p + n) (times-taken vs p)
    ∙ sym (sum_by-cons (λ (u : View). times u.taken p) v vs)

pub length-taken : (vs : List View) → length (taken_pieces vs) ≡ sum_by (λ v. length v.taken) vs
length-taken [] = refl
length-taken (v ∷ vs) = length-append v.taken (taken_pieces vs) ∙ ap (λ n. length v.taken + n) (length-taken vs)
    ∙ sym (sum_by-cons (λ (u : View). length u.taken) v vs)

pub times-append : (xs ys : List ℕ) (p : ℕ) → times (xs ++ ys) p ≡ times xs p + times ys p
times-append xs ys p = sum_by-append (λ q. cond (q == p) 1 0) xs ys

pub times-push : (xs : List ℕ) (n p : ℕ) → times (xs ++ n ∷ []) p ≡ times xs p + cond (n == p) 1 0
times-push xs n p = sum_by_push (λ q. cond (q == p) 1 0) xs n

-- ---- the smallest post

pub least-set : (first : ℕ) (vs : List View) (k : ℕ) (v w : View) → slice_get vs k ≡ Some v → w.posted ≤ v.posted →
    least_posted first (set vs k w) ≡ min w.posted (least_posted first vs)
least-set first [] k v w at low = cc
least-set first (u ∷ us) zero v w at low = let same : u ≡ v = cc in let p : u.posted ≡ v.posted = ap (λ (x : View). x.posted) same in omega arith
least-set first (u ∷ us) (suc k) v w at low = let h = least-set first us k v w at low in omega (arith, h)

pub least-at : (first : ℕ) (vs : List View) (k : ℕ) (v : View) → slice_get vs k ≡ Some v → least_posted first vs ≤ v.posted
least-at first [] k v at = cc
least-at first (u ∷ us) zero v at = let same : u ≡ v = cc in let p : u.posted ≡ v.posted = ap (λ (x : View). x.posted) same in omega arith
least-at first (u ∷ us) (suc k) v at = let h = least-at first us k v at in omega (arith, h)

pub least-first : (first : ℕ) (vs : List View) → least_posted first vs ≤ first
least-first first [] = omega arith
least-first first (v ∷ vs) = let h = least-first first vs in omega (arith, h)

pub least-push : (first : ℕ) (vs : List View) (w : View) → least_posted first (vs ++ w ∷ []) ≡ min w.posted (least_posted first vs)
least-push first [] w = refl
least-push first (v ∷ vs) w = let h = least-push first vs w in omega (arith, h)

-- if one post is lifted to the maximum, the others are left
pub least-lift : (first : ℕ) (vs : List View) (k : ℕ) (v w : View) → first ≤ highest → w.posted ≡ highest → slice_get vs k ≡ Some v →
    least_posted first vs ≡ min v.posted (least_posted first (set vs k w))
least-lift first [] k v w low top at = cc
least-lift first (u ∷ us) zero v w low top at = let same : u ≡ v = cc in let p : u.posted ≡ v.posted = ap (λ (x : View). x.posted) same in let h =
    least-first first us in omega (arith, h)
least-lift first (u ∷ us) (suc k) v w low top at = let h = least-lift first us k v w low top at in omega (arith, h)

-- ---- how often a piece appears in a list

pub times_none : (xs : List ℕ) (p : ℕ) → is_in xs p ≡ false → times xs p ≡ 0
times_none [] p none = refl
times_none (x ∷ xs) p none =
    let parts = or_parts (x == p) (is_in xs p) none in
    sum_by-cons (λ q. cond (q == p) 1 0) x xs ∙ ap (λ b. cond b 1 0 + times xs p) parts.0 ∙ ap (λ n. 0 + n) (times_none xs p parts.1)

pub times_some : (xs : List ℕ) (p : ℕ) → is_in xs p ≡ true → 1 ≤ times xs p
times_some [] p some = cc
times_some (x ∷ xs) p some =
    let more : times (x ∷ xs) p ≡ cond (x == p) 1 0 + times xs p = sum_by-cons (λ q. cond (q == p) 1 0) x xs in
    elim (or_cases (x == p) (is_in xs p) some) [
      | inl here ↦ let one : cond (x == p) 1 0 + times xs p ≡ 1 + times xs p = ap (λ b. cond b 1 0 + times xs p) here in omega (arith, more ∙ one)
      | inr later ↦ let rest = times_some xs p later in omega (arith, more, rest)
    ]

pub none_in : (xs : List ℕ) (p : ℕ) → times xs p ≡ 0 → not (is_in xs p) ≡ true
none_in xs p none = elim (cases_Bool (is_in xs p)) [
  | inl some ↦ let more = times_some xs p some in absurd (omega (arith, more, none))
  | inr out ↦ not_from_false (is_in xs p) out
]

pub some_in : (xs : List ℕ) (p : ℕ) → 1 ≤ times xs p → is_in xs p ≡ true
some_in xs p some = elim (cases_Bool (is_in xs p)) [
  | inl here ↦ here
  | inr out ↦ let none = times_none xs p out in absurd (omega (arith, some, none))
]

-- ---- the numbers below n, each once, are n numbers

abbrev below : ℕ → List ℕ → ℕ
below n xs = count_by (λ q. nat_lt q n) xs

one_below : (n q : ℕ) → cond (nat_lt q (n + 1)) 1 0 ≡ cond (nat_lt q n) 1 0 + cond (q == n) 1 0
one_below n q = grind arith

below_more : (n : ℕ) (xs : List ℕ) → below (n + 1) xs ≡ below n xs + times xs n
below_more n [] = refl
below_more n (x ∷ xs) =
    let more = sum_by-cons (λ q. cond (nat_lt q (n + 1)) 1 0) x xs in
    let less = sum_by-cons (λ q. cond (nat_lt q n) 1 0) x xs in
    let here = sum_by-cons (λ q. cond (q == n) 1 0) x xs in
    let rest = below_more n xs in
    let one = one_below n x in
    omega (arith, more, less, here, rest, one)

below_none : (xs : List ℕ) → below 0 xs ≡ 0
below_none [] = refl
below_none (x ∷ xs) = sum_by-cons (λ q. cond (nat_lt q 0) 1 0) x xs ∙ ap (λ b. cond b 1 0 + below 0 xs) (le-ltb x 0 (omega arith))
    ∙ ap (λ n. 0 + n) (below_none xs)

below_all : (n : ℕ) (xs : List ℕ) → All (λ q. q < n) xs → below n xs ≡ length xs
below_all n [] low = refl
below_all n (x ∷ xs) low =
    let rest = below_all n xs (All-tail (λ q. q < n) x xs low) in
    let here : cond {A = ℕ} (nat_lt x n) 1 0 ≡ 1 = ap (λ b. cond b 1 0) (lt-ltb x n (All-head (λ q. q < n) x xs low)) in
    let all = sum_by-cons (λ q. cond (nat_lt q n) 1 0) x xs in
    omega (arith, rest, here, all)

module _ (n : ℕ) (xs : List ℕ) (once : EachOnce n xs) where
  counted_below : (i : ℕ) → i ≤ n → below i xs ≡ i
  counted_below zero low = below_none xs
  counted_below (suc i) low =
      let before = counted_below i (omega arith) in
      let here : times xs i ≡ 1 = once i ∙ ap (λ b. cond b 1 0) (lt-ltb i n (omega arith)) in
      let more = below_more i xs in
      let next : below (i + 1) xs ≡ i + 1 = omega (arith, before, here, more) in
      rw (sym (add-one i)) next

  each_below : All (λ q. q < n) xs
  each_below j d inside =
      let q = get_or xs j d in
      let some = times_some xs q (list_any_at (λ r. r == q) xs j d inside (eq-eqb q q refl)) in
      elim (cases_lt q n) [
        | inl low ↦ low
        | inr past ↦ let none : times xs q ≡ 0 = once q ∙ ap (λ b. cond b 1 0) (le-ltb q n past) in absurd (omega (arith, some, none))
      ]

  pub length_of_once : length xs ≡ n
  length_of_once = sym (below_all n xs each_below) ∙ counted_below n (omega arith)

-- the element in the middle of a list
pub All-middle : {A : Type 0} (P : A → Type 0) (xs : List A) (x : A) (ys : List A) → All P (xs ++ x ∷ ys) → P x
All-middle P xs x ys all = subst P (get_or_at xs x ys x (length xs) refl)
    (All-get_or P (xs ++ x ∷ ys) (length xs) x (let longer = length-append xs (x ∷ ys) in omega (arith, longer)) all)
