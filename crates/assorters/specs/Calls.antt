-- What the calls of an assorter's closure return.
use Rattle.std.specs.Prelude.{◌≡◌, ◌≤◌, ℕ, List}
use Rattle.std.specs.Fn.{Shared, FnReturnsAt}
use denote.Ref.{Bor}

module _ {F : Type 0} (calls : Shared F (Bor (List ℕ) × Unit {0}) ℕ) (closure : F) where
  -- it returns 0, 1 or 2 for every ranking
  abbrev pub AnswersValues : Type 0
  AnswersValues =
      (ranking : List ℕ) (answer : ℕ) → FnReturnsAt calls closure ranking answer → answer ≤ 2

  -- it computes this function of rankings
  abbrev pub Computes : (List ℕ → ℕ) → Type 0
  Computes value = (ranking : List ℕ) (answer : ℕ) → FnReturnsAt calls closure ranking answer →
      answer ≡ value ranking
