use Rattle.std.proofs.Common.{ap, subst, sym, ◌∙◌}
use Rattle.std.proofs.lemmas.Result.{err_from_is_err_and}
use Rattle.cli_base.specs.Due.{due}
use Rattle.cli_base.proofs.Steps.{accounted_on}
use Rattle.input_files.specs.Judged.{IsStopped}
use Rattle.input_files.proofs.Going.{read_on, read_stopped, stopped_accounted}
use Rattle.session_rounds.specs.Rounds.{same_manifest}
use Rattle.session_rounds.proofs.OneRound.{manifest-only}
use Rattle.plurality_commands.specs.AuditPlurality.{after_manifest}
use Rattle.cli_base.proofs.Begun.{stopped_at}
use Rattle.cli_base.proofs.Faults.{told_on}
use Rattle.plurality_commands.proofs.audit_plurality.after_ballots.Goals as goal

pub returns-clause-due : goal.returns-clause-due
returns-clause-due g c =
    let task = c.args.task.now in
    let judged = same_manifest task.ballots task.manifest c.args.session c.args.ballots.now in
    read_on _ _ _ _ c.in_ok-bytes.bytes.items judged (λ bytes. after_manifest task c.args.session c.args.ballots.now) c.in_ok-bytes.ensures.begun c.in_ok-bytes.ensures.read _ _
    c.in_ok-cards.cards.manifest (due c.count.result)
    c.in_ok-bytes.ensures.held c.in_ok-bytes.ensures.faults.never_fewer c.count.ensures.faults.never_fewer
    (ap judged (sym c.deref.ensures.value) ∙ c.in_ok-cards.ensures.read) c.count.ensures.due

pub returns-clause-faults : goal.returns-clause-faults
returns-clause-faults g c = told_on c.in_ok-bytes.ensures.faults c.count.ensures.faults

pub returns-clause-served : goal.returns-clause-served
returns-clause-served g c = accounted_on _ _ _ _ c.in_ok-bytes.ensures.served c.count.ensures.served

pub returns-in_err-cards-clause-due : goal.returns-in_err-cards-clause-due
returns-in_err-cards-clause-due g c =
    let task = c.args.task.now in
    let judged = same_manifest task.ballots task.manifest c.args.session c.args.ballots.now in
    let p = err_from_is_err_and c.from_residual-in_err-cards.result c.from_residual-in_err-cards.ensures.1 in
    rw (p.1, p.2)
    (read_stopped _ _ _ _ c.in_ok-bytes.bytes.items judged (λ bytes. after_manifest task c.args.session c.args.ballots.now) c.in_ok-bytes.ensures.begun c.in_ok-bytes.ensures.read
    c.in_err-cards.field-0.0
    (subst (λ bytes. IsStopped (judged bytes) c.in_err-cards.field-0.0) c.deref.ensures.value c.in_err-cards.ensures.refused))

pub returns-in_err-cards-clause-served : goal.returns-in_err-cards-clause-served
returns-in_err-cards-clause-served g c =
    let task = c.args.task.now in
    let judged = same_manifest task.ballots task.manifest c.args.session c.args.ballots.now in
    let p = err_from_is_err_and c.from_residual-in_err-cards.result c.from_residual-in_err-cards.ensures.1 in
    rw (p.1, p.2) (stopped_accounted 1 _ _ (judged c.deref.result.now) c.in_err-cards.field-0.0
    (manifest-only task.ballots task.manifest c.args.session c.args.ballots.now c.deref.result.now) c.in_err-cards.ensures.refused
    c.in_ok-bytes.ensures.served)

pub returns-in_err-bytes-clause-due : goal.returns-in_err-bytes-clause-due
returns-in_err-bytes-clause-due g c =
    let p = err_from_is_err_and c.from_residual.result c.from_residual.ensures.1 in
    rw (p.1, p.2) (stopped_at _ c.args.task.now.manifest _ c.in_err-bytes.field-0.0 c.in_err-bytes.ensures.begun c.in_err-bytes.ensures.read)
