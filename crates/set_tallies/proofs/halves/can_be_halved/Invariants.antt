use Rattle.std.proofs.Common.{◌≤◌, All, take}
use Rattle.set_tallies.specs.Bags.{total}
use Rattle.set_tallies.specs.declared.halves.TheConstants.{MOST_HALVED}
use Rattle.set_tallies.proofs.halves.can_be_halved.Given as goal

abbrev pub invariant-loop-entries : goal.invariant-loop-entries
invariant-loop-entries l = All (λ entries. total entries.items ≤ MOST_HALVED) (take l.entries-index l.lists)
