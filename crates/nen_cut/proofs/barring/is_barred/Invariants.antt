use Rattle.std.proofs.Common.{◌≡◌, ℕ, List, drop}
use Rattle.std.specs.List.{list_any}
use Rattle.set_tallies.specs.Bags.{AreOf}
use Rattle.nen_cut.proofs.ByWinners.{bars}
use Rattle.nen_cut.proofs.barring.is_barred.Given as goal

abbrev pub invariant-loop-w : goal.invariant-loop-w
invariant-loop-w l =
    (records : List (List ℕ)) → AreOf l.ahead records →
    list_any (bars l.ahead.n records l.least l.fn.set l.c) l.w-items
    ≡ list_any (bars l.ahead.n records l.least l.fn.set l.c) (drop l.w-index l.w-items)
