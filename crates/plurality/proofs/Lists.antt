-- Candidates that pass a test, in order; maps and filters by functions that agree where it matters; the greatest number.
use Rattle.std.proofs.Common.{◌≡◌, ◌∙◌, ◌⊎◌, inl, inr, ℕ, suc, ◌+◌, ◌<◌, ◌≤◌, max, nat_le, Bool, true, false, cond, List, [], ◌∷◌, ◌++◌, length, map, filter, fold, take, drop, get_or, refl, sym, ap, subst, arith}
use Rattle.std.proofs.Math.Seq.{split_at}
use Rattle.std.proofs.lemmas.Bool.{cases_Bool, leb-false, leb-true}
use Rattle.std.proofs.lemmas.List.{append-nil}
use Rattle.std.proofs.lemmas.List.Elements.{filter-append}
use Rattle.irv_base.specs.Candidates.{candidates}
use Rattle.irv_base.proofs.Members.{Member, here, there, member_at, member_cases, member_nil, from_filter}
use Rattle.irv_base.proofs.Distinct.{Distinct, more, distinct-head, distinct-split, distinct-tail}
use Rattle.irv_base.proofs.Ranges.{candidates-more}

-- ---- one more candidate
pub filter-yes : (p : ℕ → Bool) (n : ℕ) → p n ≡ true → filter p (candidates (n + 1)) ≡ filter p (candidates n) ++ n ∷ []
filter-yes p n passes =
    ap (filter p) (candidates-more n) ∙ filter-append p (candidates n) (n ∷ []) ∙ ap (λ b. filter p (candidates n) ++ cond b (n ∷ []) []) passes

pub filter-no : (p : ℕ → Bool) (n : ℕ) → p n ≡ false → filter p (candidates (n + 1)) ≡ filter p (candidates n)
filter-no p n fails =
    ap (filter p) (candidates-more n) ∙ filter-append p (candidates n) (n ∷ []) ∙ ap (λ b. filter p (candidates n) ++ cond b (n ∷ []) []) fails
    ∙ append-nil (filter p (candidates n))

-- ---- by functions that agree on each element
pub filter-same : {X : Type 0} (p q : X → Bool) (xs : List X) → ((x : X) → Member x xs → p x ≡ q x) → filter p xs ≡ filter q xs
filter-same p q [] h = refl
filter-same p q (x ∷ xs) h =
    let first = h x here in
    let rest = filter-same p q xs (λ y m. h y (there m)) in
    λ i. cond (first i) (x ∷ rest i) (rest i)

pub map-same : {X Y : Type 0} (f g : X → Y) (xs : List X) → ((x : X) → Member x xs → f x ≡ g x) → map f xs ≡ map g xs
map-same f g [] h = refl
map-same f g (x ∷ xs) h =
    let first = h x here in
    let rest = map-same f g xs (λ y m. h y (there m)) in
    λ i. first i ∷ rest i

-- ---- each element that passes occurs once if every element occurs once
pub distinct-filter : {X : Type 0} (p : X → Bool) (xs : List X) → Distinct xs → Distinct (filter p xs)
distinct-filter p [] d = d
distinct-filter {X} p (x ∷ xs) d = step (p x) (distinct-filter p xs (distinct-tail d)) where
  step : (b : Bool) → Distinct (filter p xs) → Distinct (cond b (x ∷ filter p xs) (filter p xs))
  step true rest = more (λ m. distinct-head d (from_filter p xs m).0) rest
  step false rest = rest

-- an element isn't among those before it
pub apart-before : (xs : List ℕ) (i x : ℕ) → Distinct xs → i < length xs → x ≡ get_or xs i x →
    Distinct (take i xs) × (Member x (take i xs) → ⊥)
apart-before xs i x d below is =
    distinct-split (take i xs) x (drop (suc i) xs)
    (subst Distinct (split_at xs i x below ∙ ap (λ y. take i xs ++ y ∷ drop (suc i) xs) (sym is)) d)

-- ---- the greatest number is at least each number, and is one of them
pub max-bounds : (a : ℕ) (xs : List ℕ) → (a ≤ fold max a xs) × ((x : ℕ) → Member x xs → x ≤ fold max a xs)
max-bounds a [] = (omega arith, λ x m. absurd (member_nil m))
max-bounds a (y ∷ xs) =
    let (low, each) = max-bounds (max a y) xs in
    (omega arith, λ x m. elim (member_cases m) [ inl e ↦ omega arith | inr r ↦ each x r ])

pub max-reached : (a : ℕ) (xs : List ℕ) → (fold max a xs ≡ a) ⊎ Member (fold max a xs) xs
max-reached a [] = inl refl
max-reached a (y ∷ xs) = elim (max-reached (max a y) xs) [
  | inr m ↦ inr (there m)
  | inl e ↦ elim (either a y) [ inl s ↦ inl (e ∙ s) | inr s ↦ inr (member_at (sym (e ∙ s))) ]
]
  where
    either : (a y : ℕ) → (max a y ≡ a) ⊎ (max a y ≡ y)
    either a y = elim (cases_Bool (nat_le a y)) [
      | inl t ↦ let l = leb-true a y t in inr (omega arith)
      | inr f ↦ let l = leb-false a y f in inl (omega arith)
    ]
