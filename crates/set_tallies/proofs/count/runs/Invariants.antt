use Rattle.set_tallies.proofs.Runs.{Joined}
use Rattle.set_tallies.proofs.count.runs.Given as goal

abbrev pub invariant-loop-entry : goal.invariant-loop-entry
invariant-loop-entry l = Joined l.entries l.runs.items l.run l.entry-index
