use Rattle.std.proofs.Common.{◌≡◌, Some, map, take}
use Rattle.serde_json.specs.View.{view}
use Rattle.session_file.specs.Stated.{each}
use Rattle.session_file.proofs.lists.list.Given as goal

abbrev pub invariant-loop-value : goal.invariant-loop-value
invariant-loop-value g l = each g.T.Stated.kind (take l.value-index (map view l.values)) ≡ Some l.read.items
