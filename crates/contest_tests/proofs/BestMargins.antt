-- The best margins of the contests that the tests run.
use Rattle.std.proofs.Common.{◌≡◌, ℕ, List, [], ◌∷◌, ◌++◌, fold, true, refl, ap, subst, ◌∙◌}
use Rattle.std.proofs.lemmas.List.Sums.{fold-append}
use Rattle.irv_base.specs.Orders.{is_order, Elects}
use Rattle.irv_base.specs.Tabulation.{is_tabulated}
use Rattle.irv_base.proofs.Tabulated.{tabulated_is_one}
use Rattle.assertions.specs.Contests.{three_candidates, two_candidates, county}
use Rattle.assertions.specs.Hardness.{low, best_margin}

-- the last candidate of an order
abbrev last : List ℕ → ℕ
last order = fold (λ _ c. c) 0 order

last_is : (before : List ℕ) (c : ℕ) → last (before ++ c ∷ []) ≡ c
last_is before c = fold-append (λ _ d. d) 0 before (c ∷ [])

-- any candidate who is elected is the last of the known order
elected : (n : ℕ) (records : List (List ℕ)) (known order : List ℕ) (winner : ℕ) → is_order n known ≡ true → is_tabulated records known ≡ true →
    is_order n order ≡ true → is_tabulated records order ≡ true → Elects order winner → last known ≡ winner
elected n records known order winner o t o' t' (before, e) = ap last (tabulated_is_one n records known order o t o' t' ∙ e) ∙ last_is before winner

abbrev pub IsBest : ℕ → List (List ℕ) → ℕ → Type 0
IsBest n records best =
    (order : List ℕ) (winner : ℕ) → is_order n order ≡ true → is_tabulated records order ≡ true → Elects order winner →
    best ≡ best_margin n winner (low n records)

pub best-three : IsBest 3 three_candidates 1
best-three order winner o t e =
    subst (λ w. 1 ≡ best_margin 3 w (low 3 three_candidates)) (elected 3 three_candidates (2 ∷ 0 ∷ 1 ∷ []) order winner refl refl o t e) refl

pub best-two : IsBest 2 two_candidates 1
best-two order winner o t e = subst (λ w. 1 ≡ best_margin 2 w (low 2 two_candidates)) (elected 2 two_candidates (1 ∷ 0 ∷ []) order winner refl refl o t e) refl

pub best-county : IsBest 4 county 1
best-county order winner o t e = subst (λ w. 1 ≡ best_margin 4 w (low 4 county)) (elected 4 county (0 ∷ 3 ∷ 2 ∷ 1 ∷ []) order winner refl refl o t e) refl
