use Rattle.std.proofs.Common.{refl, ◌∙◌}
use Rattle.hex.proofs.OnLiterals.{hex_on_literals}
use Rattle.serde_json.proofs.OnLiterals.{serde_json_on_literals}
use Rattle.session_file.specs.Examples.{begun_text}
use Rattle.session_file.specs.Reading.{content_of}
use Rattle.session_file.specs.Stated.{digests_in, heading_in}
use Rattle.session_file.proofs.Contents.{of-ascii}
use Rattle.session_file.proofs.examples.begun.Goals as goal

pub returns : goal.returns
unfolding content_of heading_in digests_in serde_json_on_literals hex_on_literals
returns c = of-ascii begun_text refl ∙ refl
