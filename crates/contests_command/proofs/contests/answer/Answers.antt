use Rattle.std.proofs.Common.{ℕ, List, ap, subst, sym, ◌∙◌}
use Rattle.std.proofs.lemmas.Result.{err_from_is_err_and}
use Rattle.ballots.specs.Grammar.{contests_of}
use Rattle.desk.specs.Count.{Rose}
use Rattle.cli_base.specs.Due.{due}
use Rattle.cli_base.specs.Script.{ByDesk, Runs}
use Rattle.cli_base.proofs.Steps.{accounted_on}
use Rattle.input_files.specs.Judged.{IsStopped, told}
use Rattle.input_files.specs.Refusals.{refused_ballots}
use Rattle.input_files.proofs.Going.{read_on, read_stopped, stopped_accounted, told-only}
use Rattle.input_files.proofs.Judging.{said}
use Rattle.contests_command.specs.Contests.{AreContests, after_ballots}
use Rattle.contests_command.proofs.Read.{contests_are}
use Rattle.cli_base.specs.Begun.{HasCome}
use Rattle.cli_base.proofs.Begun.{stopped_at}
use Rattle.cli_base.proofs.Faults.{told_on}
use Rattle.contests_command.proofs.contests.answer.Goals as goal

pub returns-clause-due : goal.returns-clause-due
returns-clause-due g c =
    let task = c.args.task.now in
    let judged = λ (bytes : List ℕ). told (refused_ballots task.ballots) (contests_of bytes) in
    read_on _ _ _ _ c.in_ok-bytes.bytes.items judged (λ bytes list. after_ballots task list) c.in_ok-bytes.ensures.begun c.in_ok-bytes.ensures.read _ _
    c.in_ok-list.list.items (due c.after_ballots.result) c.in_ok-bytes.ensures.held c.in_ok-bytes.ensures.faults.never_fewer c.after_ballots.ensures.faults.never_fewer
    (ap judged (sym c.deref.ensures.value) ∙ c.in_ok-list.ensures.read)
    (subst (λ list. HasCome (ByDesk (g.D.Desk.held c.bytes_of.new.desk) (Rose (g.D.Desk.faults c.bytes_of.new.desk)
    (g.D.Desk.faults c.after_ballots.new.desk))) (g.D.Desk.served c.bytes_of.new.desk) (g.D.Desk.served c.after_ballots.new.desk)
    (Runs (after_ballots task list)) (due c.after_ballots.result)) c.deref-2.ensures.value c.after_ballots.ensures.due)

pub returns-clause-faults : goal.returns-clause-faults
returns-clause-faults g c = told_on c.in_ok-bytes.ensures.faults c.after_ballots.ensures.faults

pub returns-clause-served : goal.returns-clause-served
returns-clause-served g c = accounted_on _ _ _ _ c.in_ok-bytes.ensures.served c.after_ballots.ensures.served

pub after_ballots-requires-clause-contests : goal.after_ballots-requires-clause-contests
after_ballots-requires-clause-contests g c = λ κs held.
    subst AreContests (sym c.deref-2.ensures.value)
    (contests_are c.deref.result.now c.in_ok-list.list.items
    (said (refused_ballots c.args.task.now.ballots) (contests_of c.deref.result.now) c.in_ok-list.list.items c.in_ok-list.ensures.read))

pub returns-in_err-list-clause-due : goal.returns-in_err-list-clause-due
returns-in_err-list-clause-due g c =
    let task = c.args.task.now in
    let judged = λ (bytes : List ℕ). told (refused_ballots task.ballots) (contests_of bytes) in
    let refusal = c.in_err-list.field-0.0 in
    let p = err_from_is_err_and c.from_residual-in_err-list.result c.from_residual-in_err-list.ensures.1 in
    rw (p.1, p.2)
    (read_stopped _ _ _ _ c.in_ok-bytes.bytes.items judged (λ bytes list. after_ballots task list) c.in_ok-bytes.ensures.begun c.in_ok-bytes.ensures.read refusal
    (subst (λ bytes. IsStopped (judged bytes) refusal) c.deref.ensures.value c.in_err-list.ensures.refused))

pub returns-in_err-list-clause-served : goal.returns-in_err-list-clause-served
returns-in_err-list-clause-served g c =
    let words = refused_ballots c.args.task.now.ballots in
    let read = contests_of c.deref.result.now in
    let p = err_from_is_err_and c.from_residual-in_err-list.result c.from_residual-in_err-list.ensures.1 in
    rw (p.1, p.2) (stopped_accounted 2 _ _ (told words read) c.in_err-list.field-0.0
    (told-only words read (λ why. tt)) c.in_err-list.ensures.refused c.in_ok-bytes.ensures.served)

pub returns-in_err-bytes-clause-due : goal.returns-in_err-bytes-clause-due
returns-in_err-bytes-clause-due g c =
    let p = err_from_is_err_and c.from_residual.result c.from_residual.ensures.1 in
    rw (p.1, p.2) (stopped_at _ c.args.task.now.ballots _ c.in_err-bytes.field-0.0 c.in_err-bytes.ensures.begun c.in_err-bytes.ensures.read)
