use Rattle.std.proofs.Common.{refl}
use Rattle.std.specs.Fmt.{digits}
use Rattle.serde_json.proofs.OnLiterals.{serde_json_on_literals}
use Rattle.assertion_file.specs.Text.{file_value}
use Rattle.assertion_file.proofs.examples.covered.Goals as goal

pub returns : goal.returns
unfolding file_value digits serde_json_on_literals
returns c = refl
