-- Names that are read one by one.
use Rattle.std.proofs.Common.{◌≡◌, ◌<◌, ◌+◌, ◌-◌, ℕ, suc, take, subst, arith, ◌++◌, ◌∷◌, [], ◌∙◌, ◌&&◌, Bool, true, false, Some, None, List, refl, sym, ap, append_assoc, if◌then◌else◌}
use Rattle.std.specs.List.{list_all}
use Rattle.std.proofs.lemmas.Bool.{and_from}
use Rattle.std.proofs.lemmas.List.Folds.{list_all-append}
use Rattle.irv_base.specs.Names.{Id, is_among, is_name, all_differ}
use Rattle.ballots.specs.Grammar.{names_of}
use Rattle.ballot_ids.proofs.Differing.{differ-push, repeated}

-- the ids are these names and the rest
pub record NamesSoFar (ids names rest : List Id) : Type 0 where
  pub split : ids ≡ names ++ rest
  pub valid : list_all is_name names ≡ true
  pub differ : all_differ names ≡ true

pub names-more : (ids names : List Id) (name : Id) (rest : List Id) → NamesSoFar ids names (name ∷ rest) → is_name name ≡ true → is_among names name ≡ false
    → NamesSoFar ids (names ++ name ∷ []) rest
names-more ids names name rest so_far valid new = record {
  split = so_far.split ∙ sym (append_assoc names (name ∷ []) rest);
  valid = list_all-append is_name names (name ∷ []) ∙ and_from (list_all is_name names) (is_name name && true) so_far.valid
      (and_from (is_name name) true valid refl);
  differ = differ-push names name so_far.differ new;
}

pub names-repeated : (ids names : List Id) (name : Id) (rest : List Id) → NamesSoFar ids names (name ∷ rest) → is_among names name ≡ true → names_of ids ≡ None
names-repeated ids names name rest so_far again =
    ap names_of so_far.split ∙ rw (repeated names name rest again) (by (list_all is_name (names ++ name ∷ rest)))
  where
    by : (b : Bool) → (if b && false then Some (names ++ name ∷ rest) else None) ≡ None
    by true = refl
    by false = refl

pub names-invalid : (ids names : List Id) (field : Id) (rest : List Id) → NamesSoFar ids names (field ∷ rest) → is_name field ≡ false → names_of ids ≡ None
names-invalid ids names field rest so_far invalid =
    ap names_of so_far.split ∙ rw (list_all-append is_name names (field ∷ rest), so_far.valid, invalid) refl

-- ---- the first n fields, one by one

pub take-first : (n i : ℕ) (id : Id) (rest : List Id) → i < n → take (n - i) (id ∷ rest) ≡ id ∷ take (n - (i + 1)) rest
take-first n i id rest less = let e : n - i ≡ suc (n - (i + 1)) = omega (arith, less) in ap (λ m. take m (id ∷ rest)) e

pub first-so_far : (ids names : List Id) (n i : ℕ) (fields : List Id) (id : Id) (rest : List Id) → NamesSoFar ids names (take (n - i) fields) →
    fields ≡ id ∷ rest → i < n
    → NamesSoFar ids names (id ∷ take (n - (i + 1)) rest)
first-so_far ids names n i fields id rest so_far e less = subst (NamesSoFar ids names) (ap (take (n - i)) e ∙ take-first n i id rest less) so_far
