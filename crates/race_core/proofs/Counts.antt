-- The number of elements of a list that pass a test.
use Rattle.std.proofs.Common.{◌≡◌, ◌↔◌, ◌+◌, Bool, true, false, ◌&&◌, List, [], ◌∷◌, length, count_by, refl, sym, ◌∙◌, arith, cond}
use Rattle.std.specs.List.{list_all}
use Rattle.std.proofs.lemmas.List.Sums.{sum_by-cons, count_by-le-length}
use Rattle.std.proofs.lemmas.Bool.{false≢true}
use Rattle.std.proofs.Math.Numerals.{add-one}

module _ {X : Type 0} (p : X → Bool) where
  step : (b : Bool) (xs : List X) → ((list_all p xs ≡ true) ↔ (count_by p xs ≡ length xs)) →
      ((b && list_all p xs) ≡ true) ↔ (cond b 1 0 + count_by p xs ≡ length xs + 1)
  step true xs h = ((λ all. let n = h.0 all in omega arith), (λ n. h.1 (omega arith)))
  step false xs h = ((λ all. absurd (false≢true all)), (λ n. let most = count_by-le-length p xs in absurd (omega arith)))

  pub all_by_count : (xs : List X) → (list_all p xs ≡ true) ↔ (count_by p xs ≡ length xs)
  all_by_count [] = ((λ all. refl), (λ n. refl))
  all_by_count (x ∷ xs) =
      let here = step (p x) xs (all_by_count xs) in
      let count : count_by p (x ∷ xs) ≡ cond (p x) 1 0 + count_by p xs = sum_by-cons (λ y. cond (p y) 1 0) x xs in (
        (λ all. let n : cond (p x) 1 0 + count_by p xs ≡ length xs + 1 = here.0 all in count ∙ n ∙ add-one (length xs)),
        (λ n. here.1 (sym count ∙ n ∙ sym (add-one (length xs)))),
      )
