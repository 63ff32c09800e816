use Rattle.std.proofs.Common.{ℕ, List}
use Rattle.ballots.proofs.Chosen.{ChosenSoFar}
use Rattle.ballots.proofs.preferences.are_candidates.Given as goal

abbrev pub invariant-loop-preference : goal.invariant-loop-preference
invariant-loop-preference l = (cs : List ℕ) × ChosenSoFar l.candidates l.fn.preferences cs l.preference-iterator
