use Rattle.std.proofs.Common.{◌≡◌, ◌++◌, ◌∙◌, ap, rules, string_bytes}
use Rattle.report.specs.Risks.{signed_off_line}
use Rattle.contests_command.specs.Table.{contest_line, end_lines, is_signed}
use Rattle.contests_command.proofs.Lines.{three_added}
use Rattle.contests_command.proofs.table.add_block.Goals as goal

pub returns : goal.returns
returns c =
    let ballots = c.args.ballots.now in
    let end = c.args.end.now in
    let named : c.text.result.now ≡ ballots.contest = search rules in
    three_added (string_bytes c.args.text.now) _ _ _ (contest_line ballots.contest) (end_lines c.args.limit ballots end) (signed_off_line (is_signed end))
    (c.in_ok-add_contest.ensures ∙ ap (λ id. string_bytes c.args.text.now ++ contest_line id) named) c.in_ok-add_end.ensures
    (c.in_ok-add_signed_off.ensures ∙ ap (λ b. string_bytes c.add_end.new.text ++ signed_off_line b) c.is_signed.ensures)
