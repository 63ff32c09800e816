-- `audit SESSION BALLOTS MANIFEST ASSERTIONS SEEN`: the session continues by a round.
use Rattle.std.specs.Prelude.{ℕ, List, [], ◌∷◌, length, Result}
use Rattle.ballots.specs.Ballots.{BallotFile}
use Rattle.manifest.specs.Cards.{Batches, cards_of}
use Rattle.manifest.specs.Linked.{linked_of}
use Rattle.assertion_file.specs.Content.{Content as FileContent, margins_of}
use Rattle.assertion_file.specs.Reading.{assertion_file_of}
use Rattle.session_state.specs.Claims.{values_of}
use Rattle.session_state.specs.Content.{Content}
use Rattle.session_state.specs.Inputs.{has_facts}
use Rattle.command.specs.declared.audit.AuditTask.{AuditTask}
use Rattle.cli_base.specs.Outcome.{Verdict}
use Rattle.cli_base.specs.Script.{Script, Read}
use Rattle.cli_base.specs.declared.outcome.AnswerKind.{AnswerKind}
use Rattle.cli_base.specs.declared.outcome.AnswerKind.TheVariants.{Done, Spent, Differs, Unconfirmed}
use Rattle.input_files.specs.Judged.{told, unless, go_on}
use Rattle.input_files.specs.Refusals.{refused_assertions}
use Rattle.session_commands.specs.Accepted.{if_accepted}
use Rattle.session_rounds.specs.Refusals.{other_digest}
use Rattle.session_rounds.specs.Rounds.{session_to_go_on, with_ballots, with_manifest, one_round}

module _ (task : AuditTask) where
  -- ---- the assertions

  abbrev pub same_assertions : Content → List ℕ → Result FileContent Verdict
  same_assertions session bytes =
      unless (other_digest task.assertions session.digests.assertions bytes)
      (told (refused_assertions task.assertions) (assertion_file_of bytes))

  -- ---- the files, the last one first

  -- the session must be one of the inputs, and continues by the claims of the file
  abbrev pub after_check : Content → BallotFile → Batches → FileContent → Script
  after_check session ballots batches file =
      one_round task.session task.seen task.draws
      (has_facts session (length (cards_of batches)) file.contest (margins_of file))
      session (values_of file) batches (linked_of batches ballots) file.candidates

  abbrev pub after_assertions : Content → BallotFile → Batches → FileContent → Script
  after_assertions session ballots batches file =
      if_accepted task.budget ballots file (after_check session ballots batches file)

  abbrev pub after_manifest : Content → BallotFile → Batches → Script
  after_manifest session ballots batches = Read task.assertions (λ bytes.
      go_on (same_assertions session bytes) (after_assertions session ballots batches))

  abbrev pub after_ballots : Content → BallotFile → Script
  after_ballots session =
      with_manifest task.ballots task.manifest session (after_manifest session)

  abbrev pub after_session : Content → Script
  after_session session =
      with_ballots task.ballots task.manifest session (after_manifest session)

  abbrev pub script : Script
  script = Read task.session (λ bytes. go_on (session_to_go_on task.session task.draws bytes) after_session)

-- the kinds of its answers
abbrev pub kinds : List AnswerKind
kinds = Done ∷ Spent ∷ Differs ∷ Unconfirmed ∷ []
