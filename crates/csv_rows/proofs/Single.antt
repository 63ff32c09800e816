-- Records of one field.
use Rattle.std.proofs.Common.{◌≡◌, ◌∷◌, [], List, ℕ, Some, None, length, ap, arith}
use Rattle.csv.specs.Records.{field_at}
use Rattle.csv_rows.specs.Rows.{Fields}

pub one_field : (fields : Fields) (a : List ℕ) → length fields ≡ 1 → field_at fields 0 ≡ Some a → fields ≡ a ∷ []
unfolding field_at
one_field [] a l h = absurd cc
one_field (x ∷ []) a l h = let e : x ≡ a = cc in ap (λ f. f ∷ []) e
one_field (x ∷ y ∷ r) a l h = absurd (omega (arith, l))

pub no_only : (fields : Fields) → field_at fields 0 ≡ None → length fields ≡ 1 → ⊥
unfolding field_at
no_only [] h l = omega (arith, l)
no_only (x ∷ r) h l = cc
