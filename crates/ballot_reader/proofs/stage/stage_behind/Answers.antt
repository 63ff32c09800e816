use Rattle.std.proofs.Common.{◌≡◌, ◌∙◌, ◌++◌, [], List, sym, ap, subst}
use Rattle.std.specs.Prelude.{option_copied}
use Rattle.std.proofs.lemmas.Option.{IfSome_then}
use Rattle.std.proofs.lemmas.Result.{IfOk-weaker}
use Rattle.csv_rows.specs.Rows.{Fields}
use Rattle.ballot_reader.specs.Stages.{HasReached}
use Rattle.ballot_reader.proofs.Staged.{refused-on}
use Rattle.ballot_reader.proofs.stage.stage_behind.Goals as goal

pub returns-in-Contests-clause-read : goal.returns-in-Contests-clause-read
returns-in-Contests-clause-read g c =
    let asked = option_copied c.args.asked in
    IfOk-weaker c.first_stage.result _ _ (λ next said. IfSome_then next said (λ stage reached rows before.
    let none : rows ≡ [] = subst (HasReached asked rows) c.in-Contests.is before in
    subst (λ (l : List Fields). HasReached asked l stage) (c.records-records.ensures ∙ sym (ap (λ (l : List Fields). l ++ c.args.lines.now) none)) reached))
    c.first_stage.ensures.read

pub returns-in_ok-added_lines-in-Ballots-clause-read : goal.returns-in_ok-added_lines-in-Ballots-clause-read
returns-in_ok-added_lines-in-Ballots-clause-read g c = λ rows reached.
    let asked = option_copied c.args.asked in
    c.in_ok-added_lines-in-Ballots.ensures.reached asked rows (subst (HasReached asked rows) c.in-Ballots.is reached)

pub returns-in-Refused-clause-read : goal.returns-in-Refused-clause-read
returns-in-Refused-clause-read g c = λ rows reached.
    let asked = option_copied c.args.asked in
    refused-on asked rows c.args.lines.now c.in-Refused.fault (subst (HasReached asked rows) c.in-Refused.is reached)
