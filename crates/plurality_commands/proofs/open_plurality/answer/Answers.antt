use Rattle.std.proofs.Common.{ℕ, List, Option, ap, subst, sym, ◌∙◌}
use Rattle.desk.specs.Count.{Rose}
use Rattle.sha2.specs.Sha256.{sha256}
use Rattle.irv_base.specs.Names.{Id}
use Rattle.ballots.specs.Grammar.{ballots_of}
use Rattle.cli_base.specs.Due.{due}
use Rattle.cli_base.specs.Script.{ByDesk, Runs}
use Rattle.cli_base.proofs.Steps.{accounted_on}
use Rattle.input_files.specs.Judged.{told, IsStopped}
use Rattle.input_files.specs.Refusals.{refused_ballots}
use Rattle.input_files.proofs.Going.{read_on, read_stopped}
use Rattle.plurality_commands.specs.OpenPlurality.{after_ballots}
use Rattle.cli_base.specs.Begun.{HasCome}
use Rattle.std.proofs.lemmas.Result.{err_from_is_err_and}
use Rattle.cli_base.proofs.Begun.{stopped_at}
use Rattle.cli_base.proofs.Faults.{told_on}
use Rattle.plurality_commands.proofs.open_plurality.answer.Goals as goal

pub returns-clause-due : goal.returns-clause-due
returns-clause-due g c =
    let task = c.args.task.now in
    let read = λ (bytes : List ℕ) (contest : Option Id). told (refused_ballots task.ballots) (ballots_of bytes contest) in
    read_on _ _ _ _ c.in_ok-bytes.bytes.items (λ bytes. read bytes task.contest) (λ bytes ballots. after_ballots task ballots (sha256 bytes))
    c.in_ok-bytes.ensures.begun c.in_ok-bytes.ensures.read _ _ c.in_ok-ballots.ballots (due c.after_ballots.result) c.in_ok-bytes.ensures.held c.in_ok-bytes.ensures.faults.never_fewer
    c.after_ballots.ensures.faults.never_fewer
    (ap (λ bytes. read bytes task.contest) (sym c.deref.ensures.value) ∙ ap (read c.deref.result.now) (sym c.as_ref.ensures.value) ∙ c.in_ok-ballots.ensures)
    (subst (λ digest. HasCome (ByDesk (g.D.Desk.held c.bytes_of.new.desk)
    (Rose (g.D.Desk.faults c.bytes_of.new.desk) (g.D.Desk.faults c.after_ballots.new.desk)))
    (g.D.Desk.served c.bytes_of.new.desk) (g.D.Desk.served c.after_ballots.new.desk)
    (Runs (after_ballots task c.in_ok-ballots.ballots digest)) (due c.after_ballots.result))
    (c.digest_of.ensures ∙ ap sha256 c.deref-2.ensures.value) c.after_ballots.ensures.due)

pub returns-clause-faults : goal.returns-clause-faults
returns-clause-faults g c = told_on c.in_ok-bytes.ensures.faults c.after_ballots.ensures.faults

pub returns-clause-served : goal.returns-clause-served
returns-clause-served g c = accounted_on _ _ _ _ c.in_ok-bytes.ensures.served c.after_ballots.ensures.served

pub returns-in_err-bytes-clause-due : goal.returns-in_err-bytes-clause-due
returns-in_err-bytes-clause-due g c =
    let p = err_from_is_err_and c.from_residual.result c.from_residual.ensures.1 in
    rw (p.1, p.2) (stopped_at _ c.args.task.now.ballots _ c.in_err-bytes.field-0.0 c.in_err-bytes.ensures.begun c.in_err-bytes.ensures.read)

pub returns-in_err-ballots-clause-due : goal.returns-in_err-ballots-clause-due
returns-in_err-ballots-clause-due g c =
    let task = c.args.task.now in
    let read = λ (bytes : List ℕ) (contest : Option Id). told (refused_ballots task.ballots) (ballots_of bytes contest) in
    let refusal = c.in_err-ballots.field-0.0 in
    let p = err_from_is_err_and c.from_residual-in_err-ballots.result c.from_residual-in_err-ballots.ensures.1 in
    rw (p.1, p.2)
    (read_stopped _ _ _ _ c.in_ok-bytes.bytes.items (λ bytes. read bytes task.contest)
    (λ bytes ballots. after_ballots task ballots (sha256 bytes)) c.in_ok-bytes.ensures.begun c.in_ok-bytes.ensures.read refusal
    (subst (λ bytes. IsStopped (read bytes task.contest) refusal) c.deref.ensures.value
    (subst (λ contest. IsStopped (read c.deref.result.now contest) refusal) c.as_ref.ensures.value c.in_err-ballots.ensures)))
