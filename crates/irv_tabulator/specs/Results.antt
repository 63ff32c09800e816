-- What a tabulation returns.
use Rattle.std.specs.Prelude.{◌≡◌, ◌≤◌, ℕ, List, true}
use Rattle.irv_base.specs.Orders.{is_order, Elects}
use Rattle.irv_tabulator.specs.declared.tabulated.FirstTie.{FirstTie}
use Rattle.irv_tabulator.specs.declared.tabulated.Tabulated.{Tabulated}
use Rattle.irv_tabulator.specs.Rounds.{rounds_of, counts_in}
use Rattle.irv_base.specs.Tabulation.{is_tabulated, IsFirstTie}

-- a tabulation has the tabulated order of n candidates, its winner, and its rounds
pub record IsTabulation (n : ℕ) (records : List (List ℕ)) (t : Tabulated) : Type 0 where
  pub order : is_order n t.order ≡ true
  pub tabulated : is_tabulated records t.order ≡ true
  pub winner : Elects t.order t.winner
  pub rounds : counts_in t.rounds.items ≡ rounds_of n records t.order

abbrev pub IsTieOf : ℕ → List (List ℕ) → FirstTie → Type 0
IsTieOf n records tie = (1 ≤ tie.round) × IsFirstTie n records tie.round tie.tied tie.tally
