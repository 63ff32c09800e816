use Rattle.std.proofs.Common.{ap, subst, sym, ◌∙◌}
use Rattle.std.proofs.lemmas.Result.{err_from_is_err_and}
use Rattle.seen_file.specs.Reading.{seen_of}
use Rattle.cli_base.specs.Due.{due}
use Rattle.cli_base.specs.Script.{Ends}
use Rattle.cli_base.proofs.Steps.{ended_accounted}
use Rattle.input_files.specs.Judged.{IsStopped, told}
use Rattle.input_files.specs.Refusals.{refused_seen}
use Rattle.input_files.proofs.Going.{read_last, read_stopped, stopped_accounted, told-only}
use Rattle.poll_command.specs.Each.{PollsEach}
use Rattle.cli_base.proofs.Begun.{stopped_at}
use Rattle.poll_command.proofs.each.after_cover.Goals as goal

pub returns-clause-due : goal.returns-clause-due
returns-clause-due g c =
    let words = told (refused_seen c.args.task.now.seen) in
    let batches = c.args.batches.now in
    let file = c.args.file.now in
    read_last _ _ _ _ c.in_ok-bytes.bytes.items (λ bytes. words (seen_of batches file.candidates bytes))
    (λ bytes entries. Ends (PollsEach c.args.task.now batches file entries)) c.in_ok-bytes.ensures.begun c.in_ok-bytes.ensures.read c.in_ok-seen.seen (due c.poll_of.result)
    (ap (λ bytes. words (seen_of batches file.candidates bytes)) (sym c.deref.ensures.value)
    ∙ ap (λ candidates. words (seen_of batches candidates c.deref.result.now)) (sym c.candidates.ensures.same) ∙ c.in_ok-seen.ensures)
    c.poll_of.ensures

pub returns-clause-served : goal.returns-clause-served
returns-clause-served g c =
    ended_accounted _ _ (PollsEach c.args.task.now c.args.batches.now c.args.file.now c.in_ok-seen.seen) (due c.poll_of.result)
    c.poll_of.ensures c.in_ok-bytes.ensures.served

pub returns-in_err-seen-clause-due : goal.returns-in_err-seen-clause-due
returns-in_err-seen-clause-due g c =
    let words = told (refused_seen c.args.task.now.seen) in
    let batches = c.args.batches.now in
    let file = c.args.file.now in
    let refusal = c.in_err-seen.field-0.0 in
    let p = err_from_is_err_and c.from_residual-in_err-seen.result c.from_residual-in_err-seen.ensures.1 in
    rw (p.1, p.2)
    (read_stopped _ _ _ _ c.in_ok-bytes.bytes.items (λ bytes. words (seen_of batches file.candidates bytes))
    (λ bytes entries. Ends (PollsEach c.args.task.now batches file entries)) c.in_ok-bytes.ensures.begun c.in_ok-bytes.ensures.read refusal
    (subst (λ bytes. IsStopped (words (seen_of batches file.candidates bytes)) refusal) c.deref.ensures.value
    (subst (λ candidates. IsStopped (words (seen_of batches candidates c.deref.result.now)) refusal) c.candidates.ensures.same c.in_err-seen.ensures)))

pub returns-in_err-seen-clause-served : goal.returns-in_err-seen-clause-served
returns-in_err-seen-clause-served g c =
    let words = refused_seen c.args.task.now.seen in
    let read = seen_of c.args.batches.now c.candidates.result.now c.deref.result.now in
    let p = err_from_is_err_and c.from_residual-in_err-seen.result c.from_residual-in_err-seen.ensures.1 in
    rw (p.1, p.2) (stopped_accounted 0 _ _ (told words read) c.in_err-seen.field-0.0
    (told-only words read (λ why. tt)) c.in_err-seen.ensures c.in_ok-bytes.ensures.served)

pub returns-in_err-bytes-clause-due : goal.returns-in_err-bytes-clause-due
returns-in_err-bytes-clause-due g c =
    let p = err_from_is_err_and c.from_residual.result c.from_residual.ensures.1 in
    rw (p.1, p.2) (stopped_at _ c.args.task.now.seen _ c.in_err-bytes.field-0.0 c.in_err-bytes.ensures.begun c.in_err-bytes.ensures.read)
