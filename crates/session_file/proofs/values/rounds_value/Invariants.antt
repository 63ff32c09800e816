use Rattle.std.proofs.Common.{◌≡◌, map, take}
use Rattle.serde_json.specs.View.{view}
use Rattle.session_file.specs.Text.{round_value}
use Rattle.session_file.proofs.values.rounds_value.Given as goal

abbrev pub invariant-loop-round : goal.invariant-loop-round
invariant-loop-round l = map view l.values.items ≡ map round_value (take l.round-index l.rounds)
