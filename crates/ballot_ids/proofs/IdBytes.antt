-- Ids at their places.
use Rattle.std.proofs.Common.{◌≡◌, ◌<◌, ℕ, List, length, get_or, refl, ◌∷◌, [], zero, suc, Some, arith}
use Rattle.std.specs.List.{slice_get}
use Rattle.std.proofs.lemmas.Option.{get_or_from_slice_get, slice_get_read}

pub read_at : {X : Type 0} (xs : List X) (i : ℕ) (x d : X) → i < length xs → x ≡ get_or xs i x → get_or xs i d ≡ x
read_at xs i x d within e = get_or_from_slice_get xs i x d (slice_get_read xs (length xs) i x refl within e)

pub got : {X : Type 0} (xs : List X) (k : ℕ) → k < length xs → (x : X) × (slice_get xs k ≡ Some x)
got [] k l = absurd (omega (arith, l))
got (x ∷ xs) zero l = (x, refl)
got (x ∷ xs) (suc k) l = got xs k (omega (arith, l))
