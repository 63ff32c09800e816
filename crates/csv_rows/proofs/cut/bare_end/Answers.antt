use Rattle.std.proofs.Common.{◌∙◌, w64, refl, sym}
use Rattle.std.specs.Int.{trailing_zeros}
use Rattle.csv_rows.proofs.Marks.{first-stop}
use Rattle.csv_rows.proofs.cut.bare_end.Goals as goal

pub bounds-text-end : goal.bounds-text-end
bounds-text-end c = (first-stop c.args.marks c.args.text.now (trailing_zeros w64 c.args.marks) c.requires c.if-marks-eq0.false refl).0.high

pub returns : goal.returns
returns c = (
  (first-stop c.args.marks c.args.text.now (trailing_zeros w64 c.args.marks) c.requires c.if-marks-eq0.false refl).0,
  sym c.ends_field.ensures ∙ c.if-not-ends_field.false,
)
