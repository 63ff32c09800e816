use Rattle.std.proofs.Common.{◌≡◌, drop}
use Rattle.ballot_ids.specs.Ids.{number_behind}
use Rattle.ballot_ids.proofs.pages.number_of.Given as goal

abbrev pub invariant-loop-i : goal.invariant-loop-i
invariant-loop-i l = number_behind l.n (drop l.i l.bytes) ≡ number_behind 0 l.bytes
