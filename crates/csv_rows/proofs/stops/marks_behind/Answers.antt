use Rattle.csv_rows.proofs.Marks.{marks-behind}
use Rattle.csv_rows.proofs.stops.marks_behind.Goals as goal

pub returns : goal.returns
returns c = λ text are. marks-behind c.args.marks c.args.end text are
