-- Products over lists.
use Rattle.std.proofs.Common.{◌≡◌, ℕ, zero, suc, ◌*◌, ◌^◌, ◌<◌, List, [], ◌∷◌, ◌++◌, map, length, fold, replicate, refl, sym, ◌∙◌, ap, arith, length-append, append_assoc, add-one}
use Rattle.std.proofs.Math.Nat.{mul-pos, pow-zero, pow-suc, pow-succ'}
use Rattle.std.proofs.lemmas.List.{append-nil}
use Rattle.std.proofs.lemmas.List.Sums.{fold_push}
use Rattle.std.proofs.lemmas.List.Folds.{fold-map}
use Rattle.km_risk.specs.Exact.{product}

product_from : (a : ℕ) (xs : List ℕ) → fold (λ b x. b * x) a xs ≡ a * product xs
product_from a [] = omega arith
product_from a (x ∷ xs) = rw (product_from (a * x) xs, product_from (1 * x) xs) (omega arith)

pub product-cons : (x : ℕ) (xs : List ℕ) → product (x ∷ xs) ≡ x * product xs
product-cons x xs = rw (product_from (1 * x) xs) (omega arith)

pub product-push : (f : ℕ → ℕ) (xs : List ℕ) (x : ℕ) → product (map f (xs ++ x ∷ [])) ≡ product (map f xs) * f x
product-push f xs x =
    fold-map (λ a y. a * y) f 1 (xs ++ x ∷ []) ∙ fold_push (λ a y. a * f y) 1 xs x ∙ ap (λ a. a * f x) (sym (fold-map (λ a y. a * y) f 1 xs))

-- a product of one number
pub product-same : (u : ℕ) (xs : List ℕ) → product (map (λ x. u) xs) ≡ u ^ length xs
product-same u [] = sym (pow-zero u)
product-same u (x ∷ xs) = rw (product-cons u (map (λ y. u) xs), product-same u xs, pow-succ' u (length xs)) refl

pub product-append-replicate : (f : ℕ → ℕ) (x n : ℕ) (xs : List ℕ) → product (map f (xs ++ replicate n x)) ≡ product (map f xs) * f x ^ n
product-append-replicate f x zero xs = rw (append-nil xs, pow-zero (f x)) (omega arith)
product-append-replicate f x (suc n) xs =
    rw (← append_assoc xs (x ∷ []) (replicate n x), product-append-replicate f x n (xs ++ x ∷ []), product-push f xs x, pow-succ' (f x) n) (omega arith)

pub product_pos : (f : ℕ → ℕ) → ((x : ℕ) → 0 < f x) → (xs : List ℕ) → 0 < product (map f xs)
product_pos f pos [] = omega arith
product_pos f pos (x ∷ xs) = rw (product-cons (f x) (map f xs)) (mul-pos (pos x) (product_pos f pos xs))

-- the power at a list with one more element
pub power-push : (u : ℕ) (xs : List ℕ) (x : ℕ) → u ^ length (xs ++ x ∷ []) ≡ u ^ length xs * u
power-push u xs x = rw (length-append xs (x ∷ []), add-one (length xs)) (pow-suc u (length xs))
