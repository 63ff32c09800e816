-- Lines of numbered things, one more at a time.
use Rattle.std.proofs.Common.{◌≡◌, ℕ, zero, suc, ◌+◌, ◌<◌, List, [], ◌∷◌, ◌++◌, flat_map, refl, sym, ap, ap₂, arith, add-one, ◌∙◌}
use Rattle.std.specs.List.{range_with_len}
use Rattle.std.proofs.lemmas.List.{flat_map_more}

range-push : (a n : ℕ) → range_with_len a (suc n) ≡ range_with_len a n ++ (a + n) ∷ []
range-push a zero = ap (λ x. x ∷ []) (omega arith)
range-push a (suc n) = ap (λ s. a ∷ s) (range-push (a + 1) n ∙ ap (λ x. range_with_len (a + 1) n ++ x ∷ []) (omega arith))

-- the next number is k
pub line_more : (f : ℕ → List ℕ) (a n k : ℕ) (before text after : List ℕ) → k ≡ a + n → text ≡ before ++ flat_map f (range_with_len a n) → after ≡ text ++ f k →
    after ≡ before ++ flat_map f (range_with_len a (n + 1))
line_more f a n k before text after is so_far more =
    more ∙ ap (λ t. t ++ f k) so_far ∙ flat_map_more f before (range_with_len a n) k
    ∙ ap (λ ks. before ++ flat_map f ks) (ap (λ x. range_with_len a n ++ x ∷ []) is ∙ sym (range-push a n) ∙ sym (ap (range_with_len a) (add-one n)))

-- lines that are alike for each number
pub same_lines : (f g : ℕ → List ℕ) (a n : ℕ) → ((j : ℕ) → j < a + n → f j ≡ g j) → flat_map f (range_with_len a n) ≡ flat_map g (range_with_len a n)
same_lines f g a zero same = refl
same_lines f g a (suc n) same =
    ap₂ (λ (s t : List ℕ). s ++ t) (same a (omega arith)) (same_lines f g (a + 1) n (λ j below. same j (omega (arith, below))))
