use Rattle.std.proofs.Common.{◌+◌, ◌∙◌, Some, ap, subst}
use Rattle.memchr.specs.Find.{IsFirstByte, is_byte2}
use Rattle.csv_rows.specs.Lines.{are_whole_lines}
use Rattle.csv_rows.proofs.Cuts.{rest-from}
use Rattle.csv_rows.proofs.Whole.{whole-from}
use Rattle.csv_rows.proofs.lines.lines_up_to.Goals as goal

pub returns-in-Some-clause-whole : goal.returns-in-Some-clause-whole
returns-in-Some-clause-whole c = λ some.
    let text = c.args.text.now in
    let from = c.min-from.result in
    let end = c.in-Some.end in
    let found = subst (λ rest. IsFirstByte (is_byte2 13 10) rest (Some end)) (rest-from from text) c.in-Some.ensures in
    ap are_whole_lines c.split_at.ensures.front ∙ whole-from text from end found.0.high found.1
