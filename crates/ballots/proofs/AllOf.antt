-- `all_of`, and what comes in front of the values it gives, element by element.
use Rattle.std.proofs.Common.{◌≡◌, List, [], ◌∷◌, ◌++◌, Option, Some, None, refl, sym, ap, ◌∙◌, append_assoc}
use Rattle.std.specs.Prelude.{option_map, option_and_then}
use Rattle.std.proofs.lemmas.List.{append-nil}
use Rattle.ballots.specs.Grammar.{all_of}

abbrev pub behind : {B : Type 0} → List B → Option (List B) → Option (List B)
behind before more = option_map (λ rest. before ++ rest) more

pub behind-more : {A B : Type 0} (f : A → Option B) (before : List B) (x : A) (y : B) (xs : List A) → f x ≡ Some y
    → behind before (all_of f (x ∷ xs)) ≡ behind (before ++ y ∷ []) (all_of f xs)
behind-more {A} {B} f before x y xs h = ap (λ o. behind before (option_and_then (λ z. option_map (λ zs. z ∷ zs) (all_of f xs)) o)) h ∙ by (all_of f xs) where
  by : (o : Option (List B)) → behind before (option_map (λ zs. y ∷ zs) o) ≡ behind (before ++ y ∷ []) o
  by None = refl
  by (Some zs) = ap Some (sym (append_assoc before (y ∷ []) zs))

pub behind-none : {A B : Type 0} (f : A → Option B) (before : List B) (x : A) (xs : List A) → f x ≡ None → behind before (all_of f (x ∷ xs)) ≡ None
behind-none f before x xs h = ap (λ o. behind before (option_and_then (λ z. option_map (λ zs. z ∷ zs) (all_of f xs)) o)) h

pub behind-end : {A B : Type 0} (f : A → Option B) (before : List B) → behind before (all_of f []) ≡ Some before
behind-end f before = ap Some (append-nil before)
