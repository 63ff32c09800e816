-- The winner of a contest.
use Rattle.std.specs.Prelude.{ℕ, List, IsTrue}
use Rattle.irv_base.specs.Orders.{is_order, Elects}
use Rattle.irv_base.specs.Tabulation.{is_tabulated}

-- the tabulated order of n candidates elects this one
pub record IsWinner (n : ℕ) (records : List (List ℕ)) (winner : ℕ) : Type 0 where
  pub order : List ℕ
  pub permutation : IsTrue (is_order n order)
  pub tabulated : IsTrue (is_tabulated records order)
  pub elects : Elects order winner
