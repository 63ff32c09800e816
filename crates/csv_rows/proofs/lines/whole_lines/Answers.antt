use Rattle.std.proofs.Common.{◌+◌, ◌∙◌, take, ap, add-one}
use Rattle.csv_rows.specs.Lines.{are_whole_lines, is_unended}
use Rattle.csv_rows.proofs.Whole.{unended-from, whole-up-to}
use Rattle.csv_rows.proofs.lines.whole_lines.Goals as goal

pub returns-in-Some-clause-whole : goal.returns-in-Some-clause-whole
returns-in-Some-clause-whole c =
    let text = c.args.text.now in
    let end = c.in-Some.end in
    let found = c.in-Some.ensures in
    ap are_whole_lines (c.split_at.ensures.front ∙ ap (λ n. take n text) (add-one end)) ∙ whole-up-to text end found.0.high found.1

pub returns-in-Some-clause-last : goal.returns-in-Some-clause-last
returns-in-Some-clause-last c =
    let text = c.args.text.now in
    let end = c.in-Some.end in
    ap is_unended c.split_at.ensures.back ∙ unended-from text (end + 1) c.in-Some.ensures.0.after

pub returns-in-None-clause-last : goal.returns-in-None-clause-last
returns-in-None-clause-last c = unended-from c.args.text.now 0 c.in-None.ensures
