use Rattle.std.proofs.Common.{refl}
use Rattle.std.specs.Fmt.{digits}
use Rattle.hex.specs.Hex.{encode_with}
use Rattle.serde_json.proofs.OnLiterals.{serde_json_on_literals}
use Rattle.session_file.specs.Text.{session_value}
use Rattle.session_file.proofs.examples.escaped_seed.Goals as goal

pub returns : goal.returns
unfolding session_value encode_with digits serde_json_on_literals
returns c = refl
