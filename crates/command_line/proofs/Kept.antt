-- The pieces that have something, and what they have.
use Rattle.std.proofs.Common.{◌≡◌, ℕ, zero, suc, List, [], ◌∷◌, Option, Some, None, cond, length, filter, refl, arith}
use Rattle.std.specs.Prelude.{is_some, filter_map, slice_get, option_and_then, option_map, unwrap_or, find}
use Rattle.std.specs.Borrow.{Bor}
use Rattle.std.specs.List.{cons_option}

pub length-kept : {X Y : Type 0} (h : X → Option Y) (xs : List X) → length (filter (λ x. is_some (h x)) xs) ≡ length (filter_map h xs)
length-kept h [] = refl
length-kept {X} {Y} h (x ∷ xs) = by (h x) (length-kept h xs) where
  by : (r : Option Y) → length (filter (λ x. is_some (h x)) xs) ≡ length (filter_map h xs)
      → length (cond (is_some r) (x ∷ filter (λ x. is_some (h x)) xs) (filter (λ x. is_some (h x)) xs)) ≡ length (cons_option r (filter_map h xs))
  by None e = e
  by (Some y) e = omega (arith, e)

pub kept_at : {X Y : Type 0} (h : X → Option Y) (xs : List X) (i : ℕ) → option_and_then h (slice_get (filter (λ x. is_some (h x)) xs) i)
    ≡ slice_get (filter_map h xs) i
kept_at h [] i = refl
kept_at {X} {Y} h (x ∷ xs) i = by (h x) refl i (kept_at h xs) where
  by : (r : Option Y) → h x ≡ r → (i : ℕ) → ((i : ℕ) → option_and_then h (slice_get (filter (λ x. is_some (h x)) xs) i) ≡ slice_get (filter_map h xs) i)
      → option_and_then h (slice_get (cond (is_some r) (x ∷ filter (λ x. is_some (h x)) xs) (filter (λ x. is_some (h x)) xs)) i)
      ≡ slice_get (cons_option r (filter_map h xs)) i
  by None e i more = more i
  by (Some y) e zero more = e
  by (Some y) e (suc i) more = more i

pub found_first : {X Y : Type 0} (h : X → Option Y) (xs : List X) → option_and_then h (find (λ x. is_some (h x)) xs) ≡ slice_get (filter_map h xs) 0
found_first h [] = refl
found_first {X} {Y} h (x ∷ xs) = by (h x) refl (found_first h xs) where
  by : (r : Option Y) → h x ≡ r → option_and_then h (find (λ x. is_some (h x)) xs) ≡ slice_get (filter_map h xs) 0
      → option_and_then h (cond (is_some r) (Some x) (find (λ x. is_some (h x)) xs)) ≡ slice_get (cons_option r (filter_map h xs)) 0
  by None e more = more
  by (Some y) e more = e

pub text-or : (r : Option (Bor (List ℕ))) (d : Bor (List ℕ)) → (unwrap_or r d).now ≡ unwrap_or (option_map (λ s. s.now) r) d.now
text-or None d = refl
text-or (Some s) d = refl
