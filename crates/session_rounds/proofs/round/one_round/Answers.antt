use Rattle.std.proofs.Common.{subst}
use Rattle.cli_base.specs.Due.{due_refusal, IsOrMemory}
use Rattle.cli_base.specs.Outcome.{outcome}
use Rattle.cli_base.specs.Script.{ends}
use Rattle.cli_base.proofs.Begun.{come_now}
use Rattle.session_rounds.specs.Refusals.{other_facts}
use Rattle.session_rounds.proofs.Rounds.{other_told}
use Rattle.session_rounds.proofs.round.one_round.Goals as goal

pub returns-then-not-agree-clause-due : goal.returns-then-not-agree-clause-due
returns-then-not-agree-clause-due g c =
    let name = c.args.task.now.session.now in
    let due = due_refusal c.refuse.result in
    rw c.if-not-agree.true
    (come_now _ _ (ends (other_facts name)) due
    (other_told name due (subst (λ name. IsOrMemory (outcome (other_facts name)) due) c.as_str.ensures c.refuse.ensures)))
