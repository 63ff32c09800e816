use Rattle.std.proofs.Common.{◌∙◌, drop, take, arith}
use Rattle.std.proofs.lemmas.Simd.{length-chunk}
use Rattle.csv_rows.proofs.Marks.{first-two}
use Rattle.csv_rows.proofs.lanes.bytes_in_line.Goals as goal

pub returns : goal.returns
returns c =
    let text = c.args.text.now in
    c.first_set.ensures ∙ first-two 13 10 64 (take 64 (drop c.args.at text)) (length-chunk c.args.at 64 text c.requires) (omega arith)
