use Rattle.std.proofs.Common.{◌≡◌, ℕ, List, rules, ap, sym, ◌∙◌, subst}
use Rattle.ballots.specs.Ballots.{votes_of}
use Rattle.assertion_file.specs.Reading.{assertion_file_of}
use Rattle.assertion_file.proofs.SoundFiles.{read_is_sound}
use Rattle.cli_base.specs.Due.{due, IsOneOrMemory}
use Rattle.cli_base.specs.Script.{Ends}
use Rattle.cli_base.proofs.Ended.{told_among}
use Rattle.cli_base.proofs.Steps.{ended_accounted}
use Rattle.input_files.specs.Judged.{told, IsStopped}
use Rattle.input_files.specs.Refusals.{refused_assertions}
use Rattle.input_files.proofs.Going.{read_last, read_stopped}
use Rattle.trim_command.specs.Trim.{Trims}
use Rattle.trim_command.proofs.OfVotes.{trims_there}
use Rattle.trim_command.proofs.Trims.{told-ok}
use Rattle.std.proofs.lemmas.Result.{err_from_is_err_and}
use Rattle.cli_base.proofs.Begun.{stopped_at}
use Rattle.trim_command.proofs.trim.after_votes.Goals as goal

pub returns-clause-due : goal.returns-clause-due
returns-clause-due g c = λ ballots is.
    let judged = λ (bytes : List ℕ). told (refused_assertions c.args.assertions.now) (assertion_file_of bytes) in
    read_last _ _ _ _ c.in_ok-bytes.bytes.items judged (λ bytes file. Ends (Trims c.args.budget ballots file)) c.in_ok-bytes.ensures.begun c.in_ok-bytes.ensures.read
    c.in_ok-file.file (due c.of_file.result) (ap judged (sym c.deref.ensures.value) ∙ c.in_ok-file.ensures)
    (told_among (Trims c.args.budget (votes_of ballots) c.in_ok-file.file) _ _ (trims_there c.args.budget ballots c.in_ok-file.file)
    (subst (λ votes. IsOneOrMemory (Trims c.args.budget votes c.in_ok-file.file) (due c.of_file.result)) is c.of_file.ensures))

pub returns-clause-served : goal.returns-clause-served
returns-clause-served g c =
    ended_accounted _ _ (Trims c.args.budget c.args.votes.now c.in_ok-file.file) (due c.of_file.result) c.of_file.ensures c.in_ok-bytes.ensures.served

pub of_file-requires : goal.of_file-requires
of_file-requires g c = (
  search rules,
  read_is_sound c.deref.result.now c.in_ok-file.file
      (told-ok (refused_assertions c.args.assertions.now) (assertion_file_of c.deref.result.now) c.in_ok-file.file c.in_ok-file.ensures),
)

pub returns-in_err-bytes-clause-due : goal.returns-in_err-bytes-clause-due
returns-in_err-bytes-clause-due g c = λ ballots is.
    let p = err_from_is_err_and c.from_residual.result c.from_residual.ensures.1 in
    rw (p.1, p.2) (stopped_at _ c.args.assertions.now _ c.in_err-bytes.field-0.0 c.in_err-bytes.ensures.begun c.in_err-bytes.ensures.read)

pub returns-in_err-file-clause-due : goal.returns-in_err-file-clause-due
returns-in_err-file-clause-due g c = λ ballots is.
    let judged = λ (bytes : List ℕ). told (refused_assertions c.args.assertions.now) (assertion_file_of bytes) in
    let refusal = c.in_err-file.field-0.0 in
    let p = err_from_is_err_and c.from_residual-in_err-file.result c.from_residual-in_err-file.ensures.1 in
    rw (p.1, p.2)
    (read_stopped _ _ _ _ c.in_ok-bytes.bytes.items judged
    (λ bytes file. Ends (Trims c.args.budget ballots file)) c.in_ok-bytes.ensures.begun c.in_ok-bytes.ensures.read refusal
    (subst (λ bytes. IsStopped (judged bytes) refusal) c.deref.ensures.value c.in_err-file.ensures))
