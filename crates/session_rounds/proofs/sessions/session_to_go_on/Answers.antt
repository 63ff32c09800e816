use Rattle.std.proofs.Common.{Ok, ap, ◌∙◌}
use Rattle.cli_base.specs.Due.{due_refusal}
use Rattle.audit_session.specs.Refusals.{last_draws}
use Rattle.session_rounds.specs.Refusals.{had_text}
use Rattle.session_rounds.specs.Rounds.{session_in}
use Rattle.input_files.proofs.Judging.{next_stopped, unless_stopped}
use Rattle.session_rounds.proofs.Rounds.{as_many_told}
use Rattle.session_rounds.proofs.sessions.session_to_go_on.Goals as goal

pub returns-then-draws-had-clause-read : goal.returns-then-draws-had-clause-read
returns-then-draws-had-clause-read c =
    let session = c.in_ok-session.session in
    next_stopped (session_in c.args.file.now c.args.bytes.now) _ session c.refuse_for.result c.in_ok-session.ensures
    (unless_stopped _ (Ok session) c.refuse_for.result
    (as_many_told c.args.file.now session.session.rounds c.args.draws c.last_draws-had.result
    (due_refusal c.refuse_for.result) (c.last_draws-had.ensures ∙ ap last_draws c.rounds.ensures) c.if-draws-had.true
    (c.refuse_for.ensures (had_text c.last_draws-had.result) c.had_text.ensures)))
