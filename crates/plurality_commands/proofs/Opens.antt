-- An opening has one end.
use Rattle.std.proofs.Common.{Result, Ok, Err, refl, sym, ap, subst, ◌∙◌}
use Rattle.ballots.specs.Ballots.{BallotFile}
use Rattle.ballots.specs.Grammar.{ballots_of}
use Rattle.manifest.specs.Cards.{Batches}
use Rattle.session_state.specs.declared.digests.Digests.{Digests}
use Rattle.cli_base.specs.Outcome.{outcome}
use Rattle.cli_base.specs.Script.{Agree, AreOfKind, IsOfKind, Same}
use Rattle.cli_base.specs.declared.outcome.AnswerKind.TheVariants.{Done, Tie as TieKind}
use Rattle.cli_base.proofs.AmongKinds.{among}
use Rattle.command.specs.declared.open_plurality.OpenPluralityTask.{OpenPluralityTask}
use Rattle.input_files.specs.Cards.{cards_for}
use Rattle.input_files.specs.Judged.{told}
use Rattle.input_files.specs.Refusals.{refused_ballots}
use Rattle.input_files.proofs.Going.{cards-only, go_on-agrees, go_on-kinds, told-only}
use Rattle.plurality.specs.Plural.{Outcome, Tie}
use Rattle.plurality_commands.specs.OpenPlurality.{kinds, opened_or_tied, script}
use Rattle.plurality_commands.specs.Outcome.{outcome_in}

pub agrees : (task : OpenPluralityTask) → Agree Same (script task)
agrees task = λ b. go_on-agrees (told (refused_ballots task.ballots) (ballots_of b task.contest)) _ (λ ballots.
    λ m. go_on-agrees (cards_for task.ballots ballots task.manifest m) _ (λ batches v w p q. ap outcome (p ∙ sym q)))

opened-kind : (task : OpenPluralityTask) (ballots : BallotFile) (batches : Batches) (digests : Digests) (counted : Result Outcome Tie) →
    IsOfKind kinds (opened_or_tied task ballots batches digests counted)
opened-kind task ballots batches digests (Ok won) = among kinds Done refl
opened-kind task ballots batches digests (Err tie) = among kinds TieKind refl

pub kinds_are : (task : OpenPluralityTask) → AreOfKind kinds (script task)
kinds_are task = λ b. go_on-kinds kinds (told (refused_ballots task.ballots) (ballots_of b task.contest)) _
    (told-only (refused_ballots task.ballots) (ballots_of b task.contest) (λ why. tt)) (λ ballots.
    λ m. go_on-kinds kinds (cards_for task.ballots ballots task.manifest m) _ (cards-only task.ballots ballots task.manifest m)
    (λ batches v is. subst (IsOfKind kinds) (sym is) (opened-kind task ballots batches _ (outcome_in ballots))))
