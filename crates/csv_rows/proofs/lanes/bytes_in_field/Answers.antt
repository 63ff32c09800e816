use Rattle.std.proofs.Common.{◌∙◌, drop, take, arith}
use Rattle.std.proofs.lemmas.Simd.{length-chunk}
use Rattle.csv_rows.proofs.Marks.{first-three}
use Rattle.csv_rows.proofs.lanes.bytes_in_field.Goals as goal

pub returns : goal.returns
returns c =
    let text = c.args.text.now in
    c.first_set.ensures ∙ first-three 44 13 10 16 (take 16 (drop c.args.at text)) (length-chunk c.args.at 16 text c.requires) (omega arith)
