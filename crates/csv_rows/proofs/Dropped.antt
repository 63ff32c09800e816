-- The fields of a record from a place on.
use Rattle.std.proofs.Common.{◌≡◌, ◌+◌, ℕ, zero, suc, List, [], ◌∷◌, Some, None, drop, refl, ap, ◌∙◌, add-one}
use Rattle.csv.specs.Records.{field_at}
use Rattle.csv_rows.specs.Rows.{Fields}

pub drop-field : (fields : Fields) (i : ℕ) (field : List ℕ) → field_at fields i ≡ Some field → drop i fields ≡ field ∷ drop (i + 1) fields
unfolding field_at
drop-field [] i field h = absurd cc
drop-field (f ∷ fields) zero field h = let e : f ≡ field = cc in ap (λ x. x ∷ fields) e
drop-field (f ∷ fields) (suc i) field h = rw add-one (drop-field fields i field h ∙ ap (λ n. field ∷ drop n fields) (add-one i))

pub drop-none : (fields : Fields) (i : ℕ) → field_at fields i ≡ None → drop i fields ≡ []
unfolding field_at
drop-none [] zero h = refl
drop-none [] (suc i) h = refl
drop-none (f ∷ fields) zero h = absurd cc
drop-none (f ∷ fields) (suc i) h = drop-none fields i h
