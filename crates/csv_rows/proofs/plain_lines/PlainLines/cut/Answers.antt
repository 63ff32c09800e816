use Rattle.std.proofs.Common.{◌∙◌, sym, ap}
use Rattle.csv_rows.specs.Lines.{is_plain}
use Rattle.csv_rows.proofs.Apart.{parted}
use Rattle.csv_rows.proofs.Plain.{plain-parted}
use Rattle.csv_rows.proofs.plain_lines.PlainLines.cut.Goals as goal

pub returns : goal.returns
returns c =
    let text = c.self.inside.text.now in
    let front = c.lines_up_to.result.0.now in
    let behind = c.lines_up_to.result.1.now in
    let parts = c.lines_up_to.ensures.parts in
    let plain = plain-parted front behind (ap is_plain (sym parts) ∙ c.self.invariant) in
    sym c.self.view_is ∙ parted text front behind parts plain.0 c.lines_up_to.ensures.whole
