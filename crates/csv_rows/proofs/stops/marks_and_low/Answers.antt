use Rattle.std.proofs.Common.{◌∙◌, take}
use Rattle.std.proofs.lemmas.Simd.{length-chunk}
use Rattle.csv_rows.proofs.Marks.{first-low, stops-in}
use Rattle.csv_rows.proofs.stops.marks_and_low.Goals as goal

pub returns-clause-marks : goal.returns-clause-marks
returns-clause-marks c = stops-in (take 64 c.args.text.now) (length-chunk 0 64 c.args.text.now c.requires)

pub returns-clause-low : goal.returns-clause-low
returns-clause-low c = c.first_set.ensures ∙ first-low (take 64 c.args.text.now) (length-chunk 0 64 c.args.text.now c.requires)
