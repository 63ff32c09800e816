use Rattle.ballots.proofs.Chosen.{RankedSoFar}
use Rattle.ballots.proofs.preferences.ranking_of.Given as goal

abbrev pub invariant-loop-preference : goal.invariant-loop-preference
invariant-loop-preference l = RankedSoFar l.candidates l.fn.preferences l.ranking l.preference-iterator
