use Rattle.std.proofs.Common.{◌∙◌, sym, ap}
use Rattle.csv_rows.specs.Fields.{numbered}
use Rattle.csv_rows.proofs.Plain.{plain-records}
use Rattle.csv_rows.proofs.plain_lines.PlainLines.of_plain.Goals as goal

pub returns : goal.returns
returns c = ap numbered (sym (plain-records c.args.text.now c.requires))
