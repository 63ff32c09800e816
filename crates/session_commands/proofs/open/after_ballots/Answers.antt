use Rattle.std.proofs.Common.{ap, subst, sym, ◌∙◌}
use Rattle.desk.specs.Count.{Rose}
use Rattle.sha2.specs.Sha256.{sha256}
use Rattle.cli_base.specs.Due.{due}
use Rattle.cli_base.specs.Script.{ByDesk, Runs}
use Rattle.cli_base.proofs.Steps.{accounted_on}
use Rattle.input_files.specs.Cards.{cards_for}
use Rattle.input_files.proofs.Going.{read_on, read_stopped}
use Rattle.session_commands.specs.Open.{after_manifest}
use Rattle.cli_base.specs.Begun.{HasCome}
use Rattle.std.proofs.lemmas.Result.{err_from_is_err_and}
use Rattle.cli_base.proofs.Begun.{stopped_at}
use Rattle.input_files.specs.Judged.{IsStopped}
use Rattle.cli_base.proofs.Faults.{told_on}
use Rattle.session_commands.proofs.open.after_ballots.Goals as goal

pub returns-clause-due : goal.returns-clause-due
returns-clause-due g c =
    let task = c.args.task.now in
    let ballots = c.args.ballots.now in
    let judged = cards_for task.ballots ballots task.manifest in
    read_on _ _ _ _ c.in_ok-bytes.bytes.items judged
    (λ bytes batches. after_manifest task ballots batches (record { ballots = c.args.digest; manifest = sha256 bytes }))
    c.in_ok-bytes.ensures.begun c.in_ok-bytes.ensures.read _ _ c.in_ok-cards.cards.manifest
    (due c.after_manifest.result) c.in_ok-bytes.ensures.held c.in_ok-bytes.ensures.faults.never_fewer c.after_manifest.ensures.faults.never_fewer
    (ap judged (sym c.deref.ensures.value) ∙ c.in_ok-cards.ensures.read)
    (subst (λ digest. HasCome (ByDesk (g.D.Desk.held c.bytes_of.new.desk)
    (Rose (g.D.Desk.faults c.bytes_of.new.desk) (g.D.Desk.faults c.after_manifest.new.desk)))
    (g.D.Desk.served c.bytes_of.new.desk) (g.D.Desk.served c.after_manifest.new.desk)
    (Runs (after_manifest task ballots c.in_ok-cards.cards.manifest (record { ballots = c.args.digest; manifest = digest })))
    (due c.after_manifest.result))
    (c.digest_of.ensures ∙ ap sha256 c.deref-2.ensures.value) c.after_manifest.ensures.due)

pub returns-clause-faults : goal.returns-clause-faults
returns-clause-faults g c = told_on c.in_ok-bytes.ensures.faults c.after_manifest.ensures.faults

pub returns-clause-served : goal.returns-clause-served
returns-clause-served g c = accounted_on _ _ _ _ c.in_ok-bytes.ensures.served c.after_manifest.ensures.served

pub returns-in_err-bytes-clause-due : goal.returns-in_err-bytes-clause-due
returns-in_err-bytes-clause-due g c =
    let p = err_from_is_err_and c.from_residual.result c.from_residual.ensures.1 in
    rw (p.1, p.2) (stopped_at _ c.args.task.now.manifest _ c.in_err-bytes.field-0.0 c.in_err-bytes.ensures.begun c.in_err-bytes.ensures.read)

pub returns-in_err-cards-clause-due : goal.returns-in_err-cards-clause-due
returns-in_err-cards-clause-due g c =
    let task = c.args.task.now in
    let ballots = c.args.ballots.now in
    let judged = cards_for task.ballots ballots task.manifest in
    let refusal = c.in_err-cards.field-0.0 in
    let p = err_from_is_err_and c.from_residual-in_err-cards.result c.from_residual-in_err-cards.ensures.1 in
    rw (p.1, p.2)
    (read_stopped _ _ _ _ c.in_ok-bytes.bytes.items judged
    (λ bytes batches. after_manifest task ballots batches (record { ballots = c.args.digest; manifest = sha256 bytes })) c.in_ok-bytes.ensures.begun c.in_ok-bytes.ensures.read refusal
    (subst (λ bytes. IsStopped (judged bytes) refusal) c.deref.ensures.value c.in_err-cards.ensures.refused))
