-- Lists that are increasing in an order.
use Rattle.std.proofs.Common.{AllPairs, Bool, List, Some, [], ap, arith, cond, false, filter, find, flat_map, get_or, inl, inr, length, map, refl, subst, subst₂, suc, sym, true, zero, ℕ, ◌++◌, ◌+◌, ◌<◌, ◌∙◌, ◌∷◌, ◌≡◌, ◌⊎◌}
use Rattle.std.proofs.lemmas.Bool.{both_ways}
use Rattle.std.specs.List.{range_with_len}
use Rattle.irv_base.proofs.Members.{Member, contains-from_member, from_filter, from_flat_map, from_map, from_range, here, member-append_cases, member_cases, member_nil, there}

pub data Sorted {X : Type 0} (R : X → X → Type 0) : List X → Type 0 where
  none : Sorted R []
  more : {x : X} {xs : List X} → ((y : X) → Member y xs → R x y) → Sorted R xs → Sorted R (x ∷ xs)

pub sorted-append : {X : Type 0} (R : X → X → Type 0) (xs ys : List X) → Sorted R xs → Sorted R ys → ((x y : X) → Member x xs → Member y ys → R x y) →
    Sorted R (xs ++ ys)
sorted-append R [] ys none t h = t
sorted-append R (x ∷ xs) ys (more first s) t h =
    more (λ y m. elim (member-append_cases xs ys m) [ inl a ↦ first y a | inr b ↦ h x y here b ])
    (sorted-append R xs ys s t (λ u v m k. h u v (there m) k))

pub sorted-map : {X Y : Type 0} (R : X → X → Type 0) (Q : Y → Y → Type 0) (f : X → Y) → ((x y : X) → R x y → Q (f x) (f y)) → {xs : List X} → Sorted R xs →
    Sorted Q (map f xs)
sorted-map R Q f h none = none
sorted-map R Q f h (more {x = x} {xs = xs} first s) =
    more (λ y m. let (z, k, e) = from_map f y xs m in subst (Q (f x)) e (h x z (first z k))) (sorted-map R Q f h s)

pub sorted-filter : {X : Type 0} (R : X → X → Type 0) (p : X → Bool) {xs : List X} → Sorted R xs → Sorted R (filter p xs)
sorted-filter R p none = none
sorted-filter R p (more {x = x} {xs = xs} first s) = kept (p x) (sorted-filter R p s) where
  kept : (b : Bool) → Sorted R (filter p xs) → Sorted R (cond b (x ∷ filter p xs) (filter p xs))
  kept true k = more (λ y m. first y (from_filter p xs m).0) k
  kept false k = k

pub sorted-flat_map : {X Y : Type 0} (R : X → X → Type 0) (Q : Y → Y → Type 0) (f : X → List Y) → ((c : X) → Sorted Q (f c)) →
    ((c d : X) (x y : Y) → R c d → Member x (f c) → Member y (f d) → Q x y) → {cs : List X} → Sorted R cs → Sorted Q (flat_map f cs)
sorted-flat_map R Q f within across none = none
sorted-flat_map R Q f within across (more {x = c} {xs = cs} first s) =
    sorted-append Q (f c) (flat_map f cs) (within c) (sorted-flat_map R Q f within across s)
    (λ x y m k. let (d, k', k'') = from_flat_map f y cs k in across c d x y (first d k') m k'')

pub sorted-range : (a n : ℕ) → Sorted ◌<◌ (range_with_len a n)
sorted-range a zero = none
sorted-range a (suc n) = more (λ d m. let h = from_range d (a + 1) n m in omega arith) (sorted-range (a + 1) n)

-- what `find` returns comes before each other element that passes
pub find-first : {X : Type 0} (R : X → X → Type 0) (p : X → Bool) (b a : X) {xs : List X} → Sorted R xs → find p xs ≡ Some b → Member a xs → p a ≡ true →
    (a ≡ b) ⊎ R b a
find-first R p b a none e m t = absurd (member_nil m)
find-first R p b a (more {x = x} {xs = xs} first s) e m t = go (p x) refl e (find-first R p b a s) where
  go : (v : Bool) → p x ≡ v → cond v (Some x) (find p xs) ≡ Some b → (find p xs ≡ Some b → Member a xs → p a ≡ true → (a ≡ b) ⊎ R b a) → (a ≡ b) ⊎ R b a
  go true q k ih =
      let same : x ≡ b = cc in
      elim (member_cases m) [ inl h ↦ inl (sym h ∙ same) | inr r ↦ inr (subst (λ z. R z a) same (first a r)) ]
  go false q k ih = elim (member_cases m) [ inl h ↦ absurd (both_ways (p x) q (ap p h ∙ t)) | inr r ↦ ih k r t ]

-- ---- at indexes
get-member : {X : Type 0} (xs : List X) (i : ℕ) (d : X) → i < length xs → Member (get_or xs i d) xs
get-member [] i d l = absurd (omega arith)
get-member (x ∷ xs) zero d l = here
get-member (x ∷ xs) (suc i) d l = there (get-member xs i d (omega arith))

pub sorted-get : {X : Type 0} (R : X → X → Type 0) (xs : List X) → Sorted R xs → AllPairs R xs
sorted-get R [] none i j d l h = absurd (omega arith)
sorted-get R (x ∷ xs) (more first s) zero zero d l h = absurd (omega arith)
sorted-get R (x ∷ xs) (more first s) zero (suc j) d l h = first (get_or xs j d) (get-member xs j d (omega arith))
sorted-get R (x ∷ xs) (more first s) (suc i) zero d l h = absurd (omega arith)
sorted-get R (x ∷ xs) (more first s) (suc i) (suc j) d l h = sorted-get R xs s i j d (omega arith) (omega arith)

pub sorted-from_pairs : {X : Type 0} (R : X → X → Type 0) (xs : List X) → AllPairs R xs → Sorted R xs
sorted-from_pairs R [] h = none
sorted-from_pairs R (x ∷ xs) h =
    more (λ y m. let (k, l, e) = contains-from_member m in subst (R x) e (h 0 (suc k) y (omega arith) (omega arith)))
    (sorted-from_pairs R xs (λ i j d l k. h (suc i) (suc j) d (omega arith) (omega arith)))

-- sorted lists with the same members are equal, if nothing comes before itself or both ways
pub sorted-same : {X : Type 0} (R : X → X → Type 0) → ((x y : X) → R x y → R y x → ⊥) → (xs ys : List X) → Sorted R xs → Sorted R ys →
    ((x : X) → Member x xs → Member x ys) → ((x : X) → Member x ys → Member x xs) → xs ≡ ys
sorted-same R anti [] [] s t f g = refl
sorted-same R anti [] (y ∷ ys) s t f g = absurd (member_nil (g y here))
sorted-same R anti (x ∷ xs) [] s t f g = absurd (member_nil (f x here))
sorted-same {X} R anti (x ∷ xs) (y ∷ ys) (more p s) (more q t) f g =
    let same : x ≡ y = heads (member_cases (f x here)) (member_cases (g y here)) in
    ap (λ z. z ∷ xs) same
    ∙ ap (λ zs. y ∷ zs) (sorted-same R anti xs ys s t
    (λ a m. elim (member_cases (f a (there m))) [ inl e ↦ absurd (apart x a (p a m) (same ∙ e)) | inr k ↦ k ])
    (λ a m. elim (member_cases (g a (there m))) [ inl e ↦ absurd (apart y a (q a m) (sym same ∙ e)) | inr k ↦ k ]))
  where
    apart : (u v : X) → R u v → u ≡ v → ⊥
    apart u v r e = let r' : R v u = subst₂ R e (sym e) r in anti u v r r'

    heads : (y ≡ x) ⊎ Member x ys → (x ≡ y) ⊎ Member y xs → x ≡ y
    heads (inl e) h = sym e
    heads (inr m) (inl e) = e
    heads (inr m) (inr k) = absurd (anti x y (p y k) (q x m))
