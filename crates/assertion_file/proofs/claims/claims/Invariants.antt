use Rattle.std.proofs.Common.{map}
use Rattle.serde_json.specs.View.{view}
use Rattle.assertion_file.proofs.ClaimsSoFar.{SoFar}
use Rattle.assertion_file.proofs.claims.claims.Given as goal

abbrev pub invariant-loop-i : goal.invariant-loop-i
invariant-loop-i l = SoFar l.names l.records l.asked l.i l.claims.items (map view l.values)
