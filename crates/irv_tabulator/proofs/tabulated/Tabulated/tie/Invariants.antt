use Rattle.std.proofs.Common.{◌≡◌, ℕ, ◌<◌, List, drop, false}
use Rattle.irv_tabulator.specs.Results.{IsTabulation}
use Rattle.irv_base.specs.Tabulation.{is_tied}
use Rattle.irv_tabulator.proofs.tabulated.Tabulated.tie.Given as goal

abbrev pub invariant-loop-i : goal.invariant-loop-i
invariant-loop-i l = (n : ℕ) (records : List (List ℕ)) → IsTabulation n records l.self → (k : ℕ) → k < l.i →
    is_tied records (drop k l.self.order) ≡ false
