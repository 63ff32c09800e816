-- Membership as a fact to match on, and what it says about the list functions from which the definitions are built.
use Rattle.std.proofs.Common.{◌≡◌, ℕ, zero, suc, ◌+◌, ◌<◌, ◌≤◌, Bool, true, false, cond, ◌==◌, ◌⊎◌, inl, inr, List, [], ◌∷◌, ◌++◌, map, length, get_or, filter, flat_map, find, Contains, Some, refl, sym, ap, subst, arith, eqb-true, eq-eqb, ◌∙◌}
use Rattle.std.specs.List.{list_any, list_all, range_with_len}
use Rattle.std.proofs.lemmas.Bool.{and_parts, and_from, or_cases, or_left, or_right, cases_Bool, both_ways}
use Rattle.irv_base.specs.Candidates.{is_in, candidates}

-- x is an element of the list
pub data Member {X : Type 0} (x : X) : List X → Type 0 where
  here : {xs : List X} → Member x (x ∷ xs)
  there : {y : X} {xs : List X} → Member x xs → Member x (y ∷ xs)

pub member_at : {X : Type 0} {x y : X} {xs : List X} → x ≡ y → Member y (x ∷ xs)
member_at {x = x} {xs = xs} e = subst (λ z. Member z (x ∷ xs)) e here

pub member_cases : {X : Type 0} {x y : X} {xs : List X} → Member x (y ∷ xs) → (y ≡ x) ⊎ Member x xs
member_cases here = inl refl
member_cases (there m) = inr m

pub member_nil : {X : Type 0} {x : X} → Member x [] → ⊥
member_nil m = elim m [ ]

pub contains-from_member : {X : Type 0} {x : X} {xs : List X} → Member x xs → Contains xs x
contains-from_member here = (0, omega arith, refl)
contains-from_member (there m) = let (k, l, e) = contains-from_member m in (suc k, omega arith, e)

pub member-from_contains : {X : Type 0} (x : X) (xs : List X) → Contains xs x → Member x xs
member-from_contains {X} x xs h = go xs h.0 h.1 h.2 where
  go : (xs : List X) (k : ℕ) → k < length xs → get_or xs k x ≡ x → Member x xs
  go [] k l e = absurd (omega arith)
  go (y ∷ ys) zero l e = member_at e
  go (y ∷ ys) (suc k) l e = there (go ys k (omega arith) e)

pub member-append_left : {X : Type 0} {x : X} {xs : List X} (ys : List X) → Member x xs → Member x (xs ++ ys)
member-append_left ys here = here
member-append_left ys (there m) = there (member-append_left ys m)

pub member-append_right : {X : Type 0} {x : X} (xs : List X) {ys : List X} → Member x ys → Member x (xs ++ ys)
member-append_right [] m = m
member-append_right (y ∷ xs) m = there (member-append_right xs m)

pub member-append_cases : {X : Type 0} {x : X} (xs ys : List X) → Member x (xs ++ ys) → Member x xs ⊎ Member x ys
member-append_cases [] ys m = inr m
member-append_cases (y ∷ xs) ys m =
    elim (member_cases m) [
      | inl e ↦ inl (member_at e)
      | inr r ↦ elim (member-append_cases xs ys r) [ inl a ↦ inl (there a) | inr b ↦ inr b ]
    ]

pub member-map : {X Y : Type 0} (f : X → Y) {x : X} {xs : List X} → Member x xs → Member (f x) (map f xs)
member-map f here = here
member-map f (there m) = there (member-map f m)

pub from_map : {X Y : Type 0} (f : X → Y) (y : Y) (xs : List X) → Member y (map f xs) → (x : X) × Member x xs × (f x ≡ y)
from_map f y [] m = absurd (member_nil m)
from_map f y (x ∷ xs) m =
    elim (member_cases m) [
      | inl e ↦ (x, here, e)
      | inr r ↦ let (z, k, e) = from_map f y xs r in (z, there k, e)
    ]

pub member-filter : {X : Type 0} (p : X → Bool) {x : X} (xs : List X) → Member x xs → p x ≡ true → Member x (filter p xs)
member-filter p [] m t = absurd (member_nil m)
member-filter p {x} (y ∷ xs) m t =
    elim (member_cases m) [
      | inl e ↦ cond_takes (p y) (ap p e ∙ t) (member_at e)
      | inr r ↦ cond_keeps (p y) (member-filter p xs r t)
    ]
  where
    cond_keeps : (b : Bool) → Member x (filter p xs) → Member x (cond b (y ∷ filter p xs) (filter p xs))
    cond_keeps true k = there k
    cond_keeps false k = k

    cond_takes : (b : Bool) → b ≡ true → Member x (y ∷ filter p xs) → Member x (cond b (y ∷ filter p xs) (filter p xs))
    cond_takes true t k = k
    cond_takes false t k = cc

pub from_filter : {X : Type 0} (p : X → Bool) {x : X} (xs : List X) → Member x (filter p xs) → Member x xs × (p x ≡ true)
from_filter p [] m = absurd (member_nil m)
from_filter {X} p {x} (y ∷ xs) m = go (p y) refl m (from_filter p xs) where
  go : (b : Bool) → p y ≡ b → Member x (cond b (y ∷ filter p xs) (filter p xs)) → (Member x (filter p xs) → Member x xs × (p x ≡ true)) →
      Member x (y ∷ xs) × (p x ≡ true)
  go true e k ih =
      elim (member_cases k) [
        | inl s ↦ (member_at s, ap p (sym s) ∙ e)
        | inr r ↦ let (a, t) = ih r in (there a, t)
      ]
  go false e k ih = let (a, t) = ih k in (there a, t)

pub member-flat_map : {X Y : Type 0} (f : X → List Y) {x : X} {y : Y} {xs : List X} → Member x xs → Member y (f x) → Member y (flat_map f xs)
member-flat_map f (here {xs = xs}) k = member-append_left (flat_map f xs) k
member-flat_map f (there {y = z} m) k = member-append_right (f z) (member-flat_map f m k)

pub from_flat_map : {X Y : Type 0} (f : X → List Y) (y : Y) (xs : List X) → Member y (flat_map f xs) → (x : X) × Member x xs × Member y (f x)
from_flat_map f y [] m = absurd (member_nil m)
from_flat_map f y (x ∷ xs) m =
    elim (member-append_cases (f x) (flat_map f xs) m) [
      | inl k ↦ (x, here, k)
      | inr r ↦ let (z, k, e) = from_flat_map f y xs r in (z, there k, e)
    ]

pub from_list_any : {X : Type 0} (p : X → Bool) (xs : List X) → list_any p xs ≡ true → (x : X) × Member x xs × (p x ≡ true)
from_list_any p [] h = cc
from_list_any p (x ∷ xs) h =
    elim (or_cases (p x) (list_any p xs) h) [
      | inl t ↦ (x, here, t)
      | inr r ↦ let (z, k, e) = from_list_any p xs r in (z, there k, e)
    ]

pub list_any-member : {X : Type 0} (p : X → Bool) {x : X} {xs : List X} → Member x xs → p x ≡ true → list_any p xs ≡ true
list_any-member p {x} (here {xs = xs}) t = or_left (p x) (list_any p xs) t
list_any-member p (there {y = y} {xs = xs} m) t = or_right (p y) (list_any p xs) (list_any-member p m t)

pub from_list_all : {X : Type 0} (p : X → Bool) {x : X} {xs : List X} → Member x xs → list_all p xs ≡ true → p x ≡ true
from_list_all p {x} (here {xs = xs}) h = (and_parts (p x) (list_all p xs) h).0
from_list_all p (there {y = y} {xs = xs} m) h = from_list_all p m (and_parts (p y) (list_all p xs) h).1

pub list_all-each : {X : Type 0} (p : X → Bool) (xs : List X) → ((x : X) → Member x xs → p x ≡ true) → list_all p xs ≡ true
list_all-each p [] h = refl
list_all-each p (x ∷ xs) h = and_from (p x) (list_all p xs) (h x here) (list_all-each p xs (λ y m. h y (there m)))

pub from_find : {X : Type 0} (p : X → Bool) (x : X) (xs : List X) → find p xs ≡ Some x → Member x xs × (p x ≡ true)
from_find p x [] h = cc
from_find {X} p x (y ∷ xs) h = go (p y) refl h (from_find p x xs) where
  go : (b : Bool) → p y ≡ b → cond b (Some y) (find p xs) ≡ Some x → (find p xs ≡ Some x → Member x xs × (p x ≡ true)) → Member x (y ∷ xs) × (p x ≡ true)
  go true e k ih = let s : y ≡ x = cc in (member_at s, ap p (sym s) ∙ e)
  go false e k ih = let (a, t) = ih k in (there a, t)

pub find-member : {X : Type 0} (p : X → Bool) (x : X) (xs : List X) → Member x xs → p x ≡ true → (y : X) × (find p xs ≡ Some y)
find-member p x [] m t = absurd (member_nil m)
find-member {X} p x (y ∷ xs) m t = go (p y) refl (λ r. find-member p x xs r t) where
  go : (b : Bool) → p y ≡ b → (Member x xs → (z : X) × (find p xs ≡ Some z)) → (z : X) × (cond b (Some y) (find p xs) ≡ Some z)
  go true e ih = (y, refl)
  go false e ih = elim (member_cases m) [ inl s ↦ absurd (both_ways (p y) e (ap p s ∙ t)) | inr r ↦ ih r ]

-- ---- candidates
pub member-from_in : (c : ℕ) (cs : List ℕ) → is_in cs c ≡ true → Member c cs
member-from_in c cs h = let (d, m, e) = from_list_any (λ d. d == c) cs h in subst (λ x. Member x cs) (eqb-true d c e) m

pub in-from_member : {c : ℕ} {cs : List ℕ} → Member c cs → is_in cs c ≡ true
in-from_member {c} m = list_any-member (λ d. d == c) m (eq-eqb c c refl)

pub out-from_none : (c : ℕ) (cs : List ℕ) → (Member c cs → ⊥) → is_in cs c ≡ false
out-from_none c cs h = elim (cases_Bool (is_in cs c)) [ inl t ↦ absurd (h (member-from_in c cs t)) | inr f ↦ f ]

pub none-from_out : {c : ℕ} {cs : List ℕ} → is_in cs c ≡ false → Member c cs → ⊥
none-from_out {c} {cs} f m = both_ways (is_in cs c) f (in-from_member m)

pub from_range : (c a n : ℕ) → Member c (range_with_len a n) → (a ≤ c) × (c < a + n)
from_range c a zero m = absurd (member_nil m)
from_range c a (suc n) m =
    elim (member_cases m) [ inl e ↦ (omega arith, omega arith) | inr r ↦ let (x, y) = from_range c (a + 1) n r in (omega arith, omega arith) ]

pub range-member : (c a n : ℕ) → a ≤ c → c < a + n → Member c (range_with_len a n)
range-member c a zero l h = absurd (omega arith)
range-member c a (suc n) l h =
    elim (Rattle.std.proofs.lemmas.Bool.cases_eq a c) [ inl e ↦ member_at e | inr ne ↦ there (range-member c (a + 1) n (omega arith) (omega arith)) ]

pub from_candidates : {c n : ℕ} → Member c (candidates n) → c < n
from_candidates {c} {n} m = let h : (0 ≤ c) × (c < 0 + n) = from_range c 0 n m in omega arith

pub candidate-member : (c n : ℕ) → c < n → Member c (candidates n)
candidate-member c n h = range-member c 0 n (omega arith) (omega arith)
