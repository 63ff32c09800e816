-- The first place of a list that passes a test.
use Rattle.std.proofs.Common.{◌≡◌, ◌∙◌, ◌∷◌, ◌++◌, [], ◌+◌, ◌<◌, ◌≤◌, ◌||◌, ℕ, suc, Bool, true, false, List, Option, Some, None, length, refl, sym, ap, arith, inl, inr, cond, nat_lt}
use Rattle.std.specs.Prelude.{option_map, is_some, position, find}
use Rattle.std.specs.List.{list_any, position_or_len, slice_get}
use Rattle.std.proofs.lemmas.Bool.{cases_Bool, ltb-true}
use Rattle.std.proofs.lemmas.List.Folds.{find_at, list_any_at}
use Rattle.std.proofs.lemmas.List.Quantifiers.{position-Some}
use Rattle.std.proofs.lemmas.Option.{cond_some, slice_get_past}

lt-zero : (n m : ℕ) → m ≡ 1 + n → nat_lt 0 m ≡ true
lt-zero n m h = grind arith

lt-suc : (a n m : ℕ) → m ≡ 1 + n → nat_lt (1 + a) m ≡ nat_lt a n
lt-suc a n m h = grind arith

pub first_place : {X : Type 0} (p : X → Bool) (x : X) (xs : List X) → p x ≡ true → position p (x ∷ xs) ≡ Some 0
first_place p x xs h = rw h (ap (λ b. cond b (Some 0) None) (lt-zero (length xs) (length (x ∷ xs)) (omega arith)))

later-by : (b : Bool) (a : ℕ) → cond b (Some (1 + a)) None ≡ option_map (λ i. 1 + i) (cond b (Some a) None)
later-by true a = refl
later-by false a = refl

pub later_place : {X : Type 0} (p : X → Bool) (x : X) (xs : List X) → p x ≡ false → position p (x ∷ xs) ≡ option_map (λ i. 1 + i) (position p xs)
later_place p x xs h =
    rw h (ap (λ b. cond b (Some (1 + position_or_len p xs)) None) (lt-suc (position_or_len p xs) (length xs) (length (x ∷ xs)) (omega arith))
    ∙ later-by (nat_lt (position_or_len p xs) (length xs)) (position_or_len p xs))

-- ---- whether there is one
pub some_position : {X : Type 0} (p : X → Bool) (xs : List X) → is_some (position p xs) ≡ list_any p xs
some_position p [] = refl
some_position p (x ∷ xs) = elim (cases_Bool (p x)) [
  | inl t ↦ ap is_some (first_place p x xs t) ∙ ap (λ b. b || list_any p xs) (sym t)
  | inr f ↦ ap is_some (later_place p x xs f) ∙ shifted (position p xs) ∙ some_position p xs ∙ ap (λ b. b || list_any p xs) (sym f)
]
  where
    shifted : (o : Option ℕ) → is_some (option_map (λ i. 1 + i) o) ≡ is_some o
    shifted None = refl
    shifted (Some i) = refl

-- there is one exactly if the place is a place of the list
pub any-place : {X : Type 0} (p : X → Bool) (xs : List X) → list_any p xs ≡ nat_lt (position_or_len p xs) (length xs)
any-place p xs = sym (some_position p xs) ∙ by (nat_lt (position_or_len p xs) (length xs)) where
  by : (b : Bool) → is_some (cond b (Some (position_or_len p xs)) None) ≡ b
  by true = refl
  by false = refl

pub any-within : {X : Type 0} (p : X → Bool) (xs : List X) → list_any p xs ≡ true → position_or_len p xs < length xs
any-within p xs h = ltb-true (position_or_len p xs) (length xs) (sym (any-place p xs) ∙ h)

pub record Stands {X : Type 0} (p : X → Bool) (xs : List X) (i : ℕ) : Type 0 where
  pub among : list_any p xs ≡ true
  pub number : position_or_len p xs ≡ i
  pub within : i < length xs

pub stands_at : {X : Type 0} (p : X → Bool) (xs : List X) (i : ℕ) (d : X) → position p xs ≡ Some i → Stands p xs i
stands_at p xs i d h =
    let at = position-Some p xs i d h in
    record {
      among = list_any_at p xs i d at.0 at.1;
      number = (cond_some (nat_lt (position_or_len p xs) (length xs)) (position_or_len p xs) i h).1;
      within = at.0;
    }

pub stands_nowhere : {X : Type 0} (p : X → Bool) (xs : List X) → position p xs ≡ None → list_any p xs ≡ false
stands_nowhere p xs h = sym (some_position p xs) ∙ ap is_some h

-- ---- what is at the place
pub found_at : {X : Type 0} (p : X → Bool) (xs : List X) (k : ℕ) → position p xs ≡ Some k → find p xs ≡ slice_get xs k
found_at p xs k h = find_at p xs ∙ ap (slice_get xs) (place (nat_lt (position_or_len p xs) (length xs)) h) where
  place : (b : Bool) → cond b (Some (position_or_len p xs)) None ≡ Some k → position_or_len p xs ≡ k
  place true e = cc
  place false e = absurd cc

pub found_none : {X : Type 0} (p : X → Bool) (xs : List X) → position p xs ≡ None → find p xs ≡ None
found_none p xs h = find_at p xs ∙ slice_get_past xs (position_or_len p xs) (past (position_or_len p xs) (length xs) h) where
  past : (a n : ℕ) → cond (nat_lt a n) (Some a) None ≡ None → n ≤ a
  past a n e = grind arith

-- ---- for a list followed by another
pub some_first : {X : Type 0} (p : X → Bool) (xs ys : List X) (i : ℕ) → position p xs ≡ Some i → position p (xs ++ ys) ≡ Some i
some_first p [] ys i h = absurd cc
some_first p (x ∷ xs) ys i h = by (p x) refl (some_first p xs ys) where
  in_rest : (o : Option ℕ) → position p xs ≡ o → option_map (λ j. 1 + j) o ≡ Some i → ((j : ℕ) → position p xs ≡ Some j → position p (xs ++ ys) ≡ Some j)
      → option_map (λ j. 1 + j) (position p (xs ++ ys)) ≡ Some i
  in_rest None e g ih = absurd cc
  in_rest (Some j) e g ih = ap (option_map (λ j. 1 + j)) (ih j e) ∙ g

  by : (b : Bool) → p x ≡ b → ((j : ℕ) → position p xs ≡ Some j → position p (xs ++ ys) ≡ Some j) → position p (x ∷ (xs ++ ys)) ≡ Some i
  by true t ih = first_place p x (xs ++ ys) t ∙ sym (first_place p x xs t) ∙ h
  by false t ih = later_place p x (xs ++ ys) t ∙ in_rest (position p xs) refl (sym (later_place p x xs t) ∙ h) ih

pub none_first : {X : Type 0} (p : X → Bool) (xs ys : List X) → position p xs ≡ None → position p (xs ++ ys) ≡ option_map (λ i. length xs + i) (position p ys)
none_first p [] ys h = unshifted (position p ys) where
  unshifted : (o : Option ℕ) → o ≡ option_map (λ i. 0 + i) o
  unshifted None = refl
  unshifted (Some i) = ap Some (omega arith)
none_first p (x ∷ xs) ys h = by (p x) refl (none_first p xs ys) where
  of_none : (o : Option ℕ) → option_map (λ i. 1 + i) o ≡ None → o ≡ None
  of_none None e = refl
  of_none (Some i) e = absurd cc

  shifted : (o : Option ℕ) → option_map (λ i. 1 + i) (option_map (λ i. length xs + i) o) ≡ option_map (λ i. suc (length xs) + i) o
  shifted None = refl
  shifted (Some i) = ap Some (omega arith)

  by : (b : Bool) → p x ≡ b → (position p xs ≡ None → position p (xs ++ ys) ≡ option_map (λ i. length xs + i) (position p ys)) →
      position p (x ∷ (xs ++ ys)) ≡ option_map (λ i. length (x ∷ xs) + i) (position p ys)
  by true t ih = absurd (let e = sym (first_place p x xs t) ∙ h in cc)
  by false t ih =
      later_place p x (xs ++ ys) t ∙ ap (option_map (λ i. 1 + i)) (ih (of_none (position p xs) (sym (later_place p x xs t) ∙ h))) ∙ shifted (position p ys)
