use Rattle.std.proofs.Common.{◌≡◌, map, take}
use Rattle.serde_json.specs.View.{view}
use Rattle.assertion_file.specs.Text.{whole_number}
use Rattle.session_file.proofs.values.numbers_value.Given as goal

abbrev pub invariant-loop-number : goal.invariant-loop-number
invariant-loop-number l = map view l.values.items ≡ map whole_number (take l.number-index l.numbers)
