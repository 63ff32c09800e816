use Rattle.std.proofs.Common.{◌≡◌}
use Rattle.suffix_walk.specs.Search.{first_within}
use Rattle.suffix_walk.proofs.Scans.{scan_from}
use Rattle.suffix_walk.proofs.walk.first_within.Given as goal

abbrev pub invariant-loop-c : goal.invariant-loop-c
invariant-loop-c g l = scan_from l.n l.nodes (g.T.Keeps.kept l.test) l.winner l.c ≡ first_within l.n l.winner l.nodes (g.T.Keeps.kept l.test)
