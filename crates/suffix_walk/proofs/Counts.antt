-- What a walk over a list counts, in terms of the first whole suffix that is kept.
use Rattle.std.proofs.Common.{◌≡◌, ℕ, ◌+◌, ◌<◌, ◌≤◌, Bool, true, false, cond, not, ◌&&◌, nat_lt, inl, inr, List, [], ◌∷◌, ◌++◌, length, filter, find, count_by, if◌then◌else◌, Some, None, Result, Ok, Err, refl, sym, ap, subst, arith, ltb-true, ltb-false, ◌∙◌}
use Rattle.std.proofs.lemmas.List.Sums.{sum_by-cons, sum_by-append}
use Rattle.std.proofs.lemmas.Bool.{cases_Bool}
use Rattle.irv_base.proofs.Members.{Member, here, there}
use Rattle.suffix_walk.specs.Walks.{walked}
use Rattle.suffix_walk.specs.declared.walk.Stop.{Stop}
use Rattle.suffix_walk.specs.declared.walk.Stop.TheVariants.{Found, Spent}

-- ---- counting
pub count-cons : {X : Type 0} (p : X → Bool) (x : X) (xs : List X) → count_by p (x ∷ xs) ≡ (if p x then 1 else 0) + count_by p xs
count-cons p x xs = sum_by-cons (λ x. cond (p x) 1 0) x xs

pub count-append : {X : Type 0} (p : X → Bool) (xs ys : List X) → count_by p (xs ++ ys) ≡ count_by p xs + count_by p ys
count-append p xs ys = sum_by-append (λ x. cond (p x) 1 0) xs ys

pub count-same : {X : Type 0} (p q : X → Bool) (xs : List X) → ((x : X) → Member x xs → p x ≡ q x) → count_by p xs ≡ count_by q xs
count-same p q [] h = refl
count-same p q (x ∷ xs) h =
    let e : count_by p xs ≡ count_by q xs = count-same p q xs (λ y m. h y (there m)) in
    let f : (if p x then 1 else 0) ≡ (if q x then 1 else 0) = ap (λ b. if b then 1 else 0) (h x here) in
    count-cons p x xs ∙ ap (λ k. k + count_by p xs) f ∙ ap (λ k. (if q x then 1 else 0) + k) e ∙ sym (count-cons q x xs)

pub count-none : {X : Type 0} (p : X → Bool) (xs : List X) → ((x : X) → Member x xs → p x ≡ false) → count_by p xs ≡ 0
count-none p [] h = refl
count-none p (x ∷ xs) h =
    let e : count_by p xs ≡ 0 = count-none p xs (λ y m. h y (there m)) in
    count-cons p x xs ∙ ap (λ b. (if b then 1 else 0) + count_by p xs) (h x here) ∙ omega arith

-- a count of those that pass another test
pub count-filter : {X : Type 0} (p q : X → Bool) (xs : List X) → count_by p (filter q xs) ≡ count_by (λ x. q x && p x) xs
count-filter p q [] = refl
count-filter {X} p q (x ∷ xs) = go (q x) (count-filter p q xs) ∙ sym (count-cons (λ x. q x && p x) x xs) where
  go : (b : Bool) → count_by p (filter q xs) ≡ count_by (λ x. q x && p x) xs → count_by p (cond b (x ∷ filter q xs) (filter q xs))
      ≡ (if b && p x then 1 else 0) + count_by (λ x. q x && p x) xs
  go true e = count-cons p x (filter q xs) ∙ ap (λ k. (if p x then 1 else 0) + k) e
  go false e = e ∙ omega arith

-- ---- what comes before the first suffix that passes
abbrev pub until : (List ℕ → Bool) → List (List ℕ) → List (List ℕ)
until q [] = []
until q (x ∷ xs) = if q x then [] else x ∷ until q xs

pub until-none : (q : List ℕ → Bool) (xs : List (List ℕ)) → find q xs ≡ None → until q xs ≡ xs
until-none q [] h = refl
until-none q (x ∷ xs) h = go (q x) h (until-none q xs) where
  go : (b : Bool) → cond b (Some x) (find q xs) ≡ None → (find q xs ≡ None → until q xs ≡ xs) → cond b [] (x ∷ until q xs) ≡ x ∷ xs
  go true e ih = cc
  go false e ih = ap (λ r. x ∷ r) (ih e)

pub until-some : (q : List ℕ → Bool) (s : List ℕ) (xs : List (List ℕ)) → find q xs ≡ Some s → (rest : List (List ℕ)) × (xs ≡ until q xs ++ s ∷ rest)
until-some q s [] h = cc
until-some q s (x ∷ xs) h = go (q x) h (until-some q s xs) where
  go : (b : Bool) → cond b (Some x) (find q xs) ≡ Some s → (find q xs ≡ Some s → (rest : List (List ℕ)) × (xs ≡ until q xs ++ s ∷ rest)) →
      (rest : List (List ℕ)) × (x ∷ xs ≡ cond b [] (x ∷ until q xs) ++ s ∷ rest)
  go true e ih = let same : x ≡ s = cc in (xs, ap (λ z. z ∷ xs) same)
  go false e ih = let (rest, f) = ih e in (rest, ap (λ r. x ∷ r) f)

module _ (n : ℕ) (kept : List ℕ → Bool) where
  -- kept and whole, kept and not whole
  abbrev pub is_whole : List ℕ → Bool
  is_whole s = kept s && not (nat_lt (length s) n)

  abbrev pub is_part : List ℕ → Bool
  is_part s = nat_lt (length s) n && kept s

  abbrev pub seen : List (List ℕ) → ℕ
  seen xs = count_by is_part (until is_whole xs)

module _ (n nodes : ℕ) (kept : List ℕ → Bool) where
  -- what a result says of the list
  abbrev pub Ran : ℕ → List (List ℕ) → Result ℕ Stop → Type 0
  Ran count xs (Ok j) = (find (is_whole n kept) xs ≡ None) × (count + seen n kept xs ≤ nodes)
  Ran count xs (Err (Found s)) = (find (is_whole n kept) xs ≡ Some s) × (count + seen n kept xs ≤ nodes)
  Ran count xs (Err Spent) = nodes < count + seen n kept xs

  ran-moves : (count count' : ℕ) (xs xs' : List (List ℕ)) (r : Result ℕ Stop) → find (is_whole n kept) xs ≡ find (is_whole n kept) xs' →
      count + seen n kept xs ≡ count' + seen n kept xs' → Ran count xs r → Ran count' xs' r
  ran-moves count count' xs xs' (Ok j) e f h = (sym e ∙ h.0, let le : count + seen n kept xs ≤ nodes = h.1 in omega arith)
  ran-moves count count' xs xs' (Err (Found s)) e f h = (sym e ∙ h.0, let le : count + seen n kept xs ≤ nodes = h.1 in omega arith)
  ran-moves count count' xs xs' (Err Spent) e f h = let lt : nodes < count + seen n kept xs = h in omega arith

  pub ran : (count : ℕ) (xs : List (List ℕ)) → count ≤ nodes → Ran count xs (walked n nodes kept count xs)
  ran count [] le = (refl, omega arith)
  ran count (s ∷ xs) le =
      elim (cases_Bool (kept s)) [
        | inr gone ↦
            let e : walked n nodes kept count (s ∷ xs) ≡ walked n nodes kept count xs = rw gone refl in
            let f : find (is_whole n kept) (s ∷ xs) ≡ find (is_whole n kept) xs = rw gone refl in
            let g : until (is_whole n kept) (s ∷ xs) ≡ s ∷ until (is_whole n kept) xs = rw gone refl in
            let p : (is_part n kept) s ≡ false = Rattle.std.proofs.lemmas.Bool.and_right (nat_lt (length s) n) (kept s) gone in
            let k : seen n kept (s ∷ xs) ≡ seen n kept xs = ap (count_by (is_part n kept)) g ∙ count-cons (is_part n kept) s (until (is_whole n kept) xs)
            ∙ ap (λ b. (if b then 1 else 0) + seen n kept xs) p ∙ omega arith in
            subst (Ran count (s ∷ xs)) (sym e) (ran-moves count count xs (s ∷ xs) (walked n nodes kept count xs) (sym f) (ap (λ z. count + z) (sym k))
            (ran count xs le))
        | inl keep ↦ elim (cases_Bool (nat_lt (length s) n)) [
          | inr whole ↦
              let e : walked n nodes kept count (s ∷ xs) ≡ Err (Found s) = rw (keep, whole) refl in
              let f : find (is_whole n kept) (s ∷ xs) ≡ Some s = rw (keep, whole) refl in
              let g : until (is_whole n kept) (s ∷ xs) ≡ [] = rw (keep, whole) refl in
              let k : seen n kept (s ∷ xs) ≡ 0 = ap (count_by (is_part n kept)) g in
              subst (Ran count (s ∷ xs)) (sym e) (f, omega arith)
          | inl short ↦
              let f : find (is_whole n kept) (s ∷ xs) ≡ find (is_whole n kept) xs = rw (keep, short) refl in
              let g : until (is_whole n kept) (s ∷ xs) ≡ s ∷ until (is_whole n kept) xs = rw (keep, short) refl in
              let p : (is_part n kept) s ≡ true = Rattle.std.proofs.lemmas.Bool.and_from (nat_lt (length s) n) (kept s) short keep in
              let k : seen n kept (s ∷ xs) ≡ 1 + seen n kept xs = ap (count_by (is_part n kept)) g
              ∙ count-cons (is_part n kept) s (until (is_whole n kept) xs) ∙ ap (λ b. (if b then 1 else 0) + seen n kept xs) p in
              elim (cases_Bool (nat_lt count nodes)) [
                | inl room ↦
                    let l : count < nodes = ltb-true count nodes room in
                    let e : walked n nodes kept count (s ∷ xs) ≡ walked n nodes kept (count + 1) xs = rw (keep, short, room) refl in
                    subst (Ran count (s ∷ xs)) (sym e) (ran-moves (count + 1) count xs (s ∷ xs) (walked n nodes kept (count + 1) xs) (sym f) (omega arith)
                    (ran (count + 1) xs (omega arith)))
                | inr full ↦
                    let l : nodes ≤ count = ltb-false count nodes full in
                    let e : walked n nodes kept count (s ∷ xs) ≡ Err Spent = rw (keep, short, full) refl in
                    let lt : nodes < count + seen n kept (s ∷ xs) = omega arith in
                    subst (Ran count (s ∷ xs)) (sym e) lt
              ]
        ]
      ]
