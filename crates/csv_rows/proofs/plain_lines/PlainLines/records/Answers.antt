use Rattle.std.proofs.Common.{◌∙◌, ap}
use Rattle.csv_rows.specs.Fields.{numbered}
use Rattle.csv_rows.proofs.Plain.{plain-records}
use Rattle.csv_rows.proofs.plain_lines.PlainLines.records.Goals as goal

pub returns : goal.returns
returns c = c.of_plain.ensures ∙ ap numbered (plain-records c.self.inside.text.now c.self.invariant) ∙ c.self.view_is
