use Rattle.std.proofs.Common.{◌≡◌, map, take}
use Rattle.serde_json.specs.View.{view}
use Rattle.session_file.specs.Text.{counts_value}
use Rattle.session_file.proofs.values.all_counts_value.Given as goal

abbrev pub invariant-loop-counts : goal.invariant-loop-counts
invariant-loop-counts l = map view l.values.items ≡ map counts_value (take l.counts-index l.all)
