use Rattle.std.proofs.Common.{◌≡◌, map, take}
use Rattle.serde_json.specs.View.{view}
use Rattle.assertion_file.specs.Text.{whole_number}
use Rattle.session_file.proofs.values.risks_value.Given as goal

abbrev pub invariant-loop-risk : goal.invariant-loop-risk
invariant-loop-risk l = map view l.values.items ≡ map whole_number (take l.risk-index l.risks)
