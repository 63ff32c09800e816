-- An opening has one end.
use Rattle.std.proofs.Common.{◌≡◌, Bool, true, false, MatchBool, refl, sym, ap, ◌∙◌}
use Rattle.ballots.specs.Ballots.{BallotFile}
use Rattle.ballots.specs.Grammar.{ballots_of}
use Rattle.manifest.specs.Cards.{Batches}
use Rattle.assertion_file.specs.Content.{Content as FileContent}
use Rattle.assertion_file.specs.Reading.{assertion_file_of}
use Rattle.session_state.specs.declared.digests.Digests.{Digests}
use Rattle.check_command.specs.Check.{Checks}
use Rattle.check_command.proofs.Checks.{checks-one, checks-kind}
use Rattle.cli_base.specs.Outcome.{Verdict, outcome}
use Rattle.cli_base.specs.Script.{Agree, AreOfKind, IsOfKind, Same}
use Rattle.cli_base.specs.declared.outcome.AnswerKind.TheVariants.{Done}
use Rattle.cli_base.proofs.Ended.{answer-kind}
use Rattle.command.specs.declared.open.OpenTask.{OpenTask}
use Rattle.input_files.specs.Cards.{cards_for}
use Rattle.input_files.specs.Judged.{told}
use Rattle.input_files.specs.Refusals.{refused_assertions, refused_ballots}
use Rattle.input_files.proofs.Going.{cards-only, go_on-agrees, go_on-kinds, told-only}
use Rattle.session_commands.specs.Accepted.{is_accepted}
use Rattle.session_commands.specs.Open.{kinds, Opens, opened, script}

module _ (task : OpenTask) (ballots : BallotFile) (batches : Batches) (file : FileContent) (digests : Digests) where
  opens-one : (v w : Verdict) → Opens task ballots batches file digests v → Opens task ballots batches file digests w → v ≡ w
  opens-one v w = by (is_accepted task.budget ballots file) where
    by : (b : Bool) → MatchBool b (v ≡ opened task batches file digests) (Checks task.budget ballots file v)
        → MatchBool b (w ≡ opened task batches file digests) (Checks task.budget ballots file w) → v ≡ w
    by true p q = p ∙ sym q
    by false p q = checks-one task.budget ballots file v w p q

  opens-kind : (v : Verdict) → Opens task ballots batches file digests v → IsOfKind kinds v
  opens-kind v = by (is_accepted task.budget ballots file) where
    by : (b : Bool) → MatchBool b (v ≡ opened task batches file digests) (Checks task.budget ballots file v) → IsOfKind kinds v
    by true is = answer-kind kinds Done _ v refl is
    by false is = checks-kind task.budget ballots file v is

pub agrees : (task : OpenTask) → Agree Same (script task)
agrees task = λ b. go_on-agrees (told (refused_ballots task.ballots) (ballots_of b task.contest)) _ (λ ballots.
    λ m. go_on-agrees (cards_for task.ballots ballots task.manifest m) _ (λ batches.
    λ a. go_on-agrees (told (refused_assertions task.assertions) (assertion_file_of a)) _
    (λ file v w p q. ap outcome (opens-one task ballots batches file _ v w p q))))

pub kinds_are : (task : OpenTask) → AreOfKind kinds (script task)
kinds_are task = λ b. go_on-kinds kinds (told (refused_ballots task.ballots) (ballots_of b task.contest)) _
    (told-only (refused_ballots task.ballots) (ballots_of b task.contest) (λ why. tt)) (λ ballots.
    λ m. go_on-kinds kinds (cards_for task.ballots ballots task.manifest m) _ (cards-only task.ballots ballots task.manifest m) (λ batches.
    λ a. go_on-kinds kinds (told (refused_assertions task.assertions) (assertion_file_of a)) _
    (told-only (refused_assertions task.assertions) (assertion_file_of a) (λ why. tt))
    (λ file v is. opens-kind task ballots batches file _ v is)))
