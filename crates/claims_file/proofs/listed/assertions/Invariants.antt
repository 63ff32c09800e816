use Rattle.std.proofs.Common.{map}
use Rattle.serde_json.specs.View.{view}
use Rattle.claims_file.proofs.SoFar.{SoFar}
use Rattle.claims_file.proofs.listed.assertions.Given as goal

abbrev pub invariant-loop-i : goal.invariant-loop-i
invariant-loop-i l = SoFar l.names l.i l.assertions.items (map view l.values)
