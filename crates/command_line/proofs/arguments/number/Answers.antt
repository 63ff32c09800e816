use Rattle.std.proofs.Common.{◌∙◌, ap, ap₂}
use Rattle.std.specs.Prelude.{unwrap_or}
use Rattle.command_line.specs.Table.{default_of}
use Rattle.command_line.proofs.arguments.number.Goals as goal

pub returns : goal.returns
returns c = λ pieces fit shown.
    c.unwrap_or.ensures ∙ ap₂ unwrap_or (c.given_number.ensures pieces fit shown) (c.default.ensures ∙ ap default_of c.kind.ensures)
