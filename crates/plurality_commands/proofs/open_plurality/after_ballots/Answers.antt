use Rattle.std.proofs.Common.{◌≡◌, ap, subst, sym, ◌∙◌}
use Rattle.sha2.specs.Sha256.{sha256}
use Rattle.cli_base.specs.Due.{due, IsOneOrMemory}
use Rattle.cli_base.specs.Script.{ends}
use Rattle.cli_base.proofs.Steps.{ended_accounted}
use Rattle.input_files.specs.Cards.{cards_for}
use Rattle.input_files.proofs.Going.{read_last, read_stopped}
use Rattle.plurality_commands.specs.OpenPlurality.{digests_of, opened_or_tied}
use Rattle.plurality_commands.specs.Outcome.{outcome_in}
use Rattle.std.proofs.lemmas.Result.{err_from_is_err_and}
use Rattle.cli_base.proofs.Begun.{stopped_at}
use Rattle.input_files.specs.Judged.{IsStopped}
use Rattle.plurality_commands.proofs.open_plurality.after_ballots.Goals as goal

pub returns-clause-due : goal.returns-clause-due
returns-clause-due g c =
    let task = c.args.task.now in
    let ballots = c.args.ballots.now in
    let judged = cards_for task.ballots ballots task.manifest in
    let batches = c.in_ok-cards.cards.manifest in
    read_last _ _ _ _ c.in_ok-bytes.bytes.items judged
    (λ bytes batches. ends (opened_or_tied task ballots batches (digests_of c.args.digest (sha256 bytes)) (outcome_in ballots)))
    c.in_ok-bytes.ensures.begun c.in_ok-bytes.ensures.read batches (due c.count.result)
    (ap judged (sym c.deref.ensures.value) ∙ c.in_ok-cards.ensures.read)
    (subst (λ digests. IsOneOrMemory (λ verdict. verdict ≡ opened_or_tied task ballots batches digests (outcome_in ballots)) (due c.count.result))
    (c.digests_of-digests.ensures ∙ ap (digests_of c.args.digest) (c.digest_of.ensures ∙ ap sha256 c.deref-2.ensures.value)) c.count.ensures)

pub returns-clause-served : goal.returns-clause-served
returns-clause-served g c =
    ended_accounted _ _
    (λ verdict. verdict ≡ opened_or_tied c.args.task.now c.args.ballots.now c.in_ok-cards.cards.manifest c.digests_of-digests.result
    (outcome_in c.args.ballots.now)) (due c.count.result) c.count.ensures c.in_ok-bytes.ensures.served

pub returns-in_err-bytes-clause-due : goal.returns-in_err-bytes-clause-due
returns-in_err-bytes-clause-due g c =
    let p = err_from_is_err_and c.from_residual.result c.from_residual.ensures.1 in
    rw (p.1, p.2) (stopped_at _ c.args.task.now.manifest _ c.in_err-bytes.field-0.0 c.in_err-bytes.ensures.begun c.in_err-bytes.ensures.read)

pub returns-in_err-cards-clause-due : goal.returns-in_err-cards-clause-due
returns-in_err-cards-clause-due g c =
    let task = c.args.task.now in
    let ballots = c.args.ballots.now in
    let judged = cards_for task.ballots ballots task.manifest in
    let refusal = c.in_err-cards.field-0.0 in
    let p = err_from_is_err_and c.from_residual-in_err-cards.result c.from_residual-in_err-cards.ensures.1 in
    rw (p.1, p.2)
    (read_stopped _ _ _ _ c.in_ok-bytes.bytes.items judged
    (λ bytes batches. ends (opened_or_tied task ballots batches (digests_of c.args.digest (sha256 bytes)) (outcome_in ballots))) c.in_ok-bytes.ensures.begun c.in_ok-bytes.ensures.read refusal
    (subst (λ bytes. IsStopped (judged bytes) refusal) c.deref.ensures.value c.in_err-cards.ensures.refused))
