-- Records of two fields.
use Rattle.std.proofs.Common.{◌≡◌, ◌∷◌, [], ℕ, List, Option, Some, None, length, refl, arith}
use Rattle.std.specs.Prelude.{IfNone}
use Rattle.csv.specs.Records.{field_at}
use Rattle.csv_rows.specs.Rows.{Fields}

pub two_fields : (fields : Fields) (a b : List ℕ) → length fields ≡ 2 → field_at fields 0 ≡ Some a → field_at fields 1 ≡ Some b → fields ≡ a ∷ b ∷ []
unfolding field_at
two_fields [] a b l h k = absurd cc
two_fields (x ∷ []) a b l h k = absurd (omega (arith, l))
two_fields (x ∷ y ∷ []) a b l h k = let e : x ≡ a = cc in let f : y ≡ b = cc in rw (e, f) refl
two_fields (x ∷ y ∷ z ∷ r) a b l h k = absurd (omega (arith, l))

pub no_first : (fields : Fields) → field_at fields 0 ≡ None → length fields ≡ 2 → ⊥
unfolding field_at
no_first [] h l = omega (arith, l)
no_first (x ∷ r) h l = cc

pub no_second : (fields : Fields) → field_at fields 1 ≡ None → length fields ≡ 2 → ⊥
unfolding field_at
no_second [] h l = omega (arith, l)
no_second (x ∷ []) h l = omega (arith, l)
no_second (x ∷ y ∷ r) h l = cc

pub always : {X P : Type 0} (o : Option X) → P → IfNone o P
always None p = p
always (Some x) p = tt
