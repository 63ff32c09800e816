-- A round has one end.
use Rattle.std.proofs.Common.{ℕ, List, [], length, Ok, refl}
use Rattle.manifest.specs.Cards.{cards_of}
use Rattle.manifest.specs.Linked.{linked_of}
use Rattle.session_state.specs.Inputs.{has_facts}
use Rattle.cli_base.specs.Script.{Agree, AreOfKind, Same}
use Rattle.cli_base.specs.declared.outcome.AnswerKind.TheVariants.{Done, Tie as TieKind, Unconfirmed}
use Rattle.cli_base.proofs.AmongKinds.{among}
use Rattle.command.specs.declared.audit_plurality.AuditPluralityTask.{AuditPluralityTask}
use Rattle.input_files.proofs.Going.{OnlyRefuses, go_on-agrees, go_on-kinds, then-only, unless-only}
use Rattle.plurality.specs.Plural.{values_of}
use Rattle.session_rounds.specs.Refusals.{other_digest}
use Rattle.session_rounds.specs.Rounds.{same_ballots, same_manifest, session_to_go_on}
use Rattle.session_rounds.proofs.OneRound.{ballots-only, digest-only, manifest-only, one_round-agrees, one_round-kinds, session-only}
use Rattle.plurality_commands.specs.AuditPlurality.{after_count, kinds, plural_session, script}
use Rattle.plurality_commands.proofs.Counted.{won-agrees, won-kinds}

module _ (task : AuditPluralityTask) where
  pub plural-only : (bytes : List ℕ) → OnlyRefuses (plural_session task bytes)
  plural-only bytes = then-only (session_to_go_on task.session task.draws bytes) _ (session-only task.session task.draws bytes) (λ session.
      unless-only (other_digest task.session session.digests.assertions []) (Ok session) (digest-only task.session session.digests.assertions []) tt)

  pub agrees : Agree Same (script task)
  agrees = λ s. go_on-agrees (plural_session task s) _ (λ session.
      λ b. go_on-agrees (same_ballots task.ballots session b) _ (λ ballots.
      λ m. go_on-agrees (same_manifest task.ballots task.manifest session ballots m) _ (λ batches.
      won-agrees ballots (after_count task session ballots batches) (λ won.
      one_round-agrees task.session task.seen task.draws (has_facts session (length (cards_of batches)) ballots.contest won.margins) session (values_of won) batches
      (linked_of batches ballots) ballots.candidates))))

  pub kinds_are : AreOfKind kinds (script task)
  kinds_are = λ s. go_on-kinds kinds (plural_session task s) _ (plural-only s) (λ session.
      λ b. go_on-kinds kinds (same_ballots task.ballots session b) _ (ballots-only task.ballots session b) (λ ballots.
      λ m. go_on-kinds kinds (same_manifest task.ballots task.manifest session ballots m) _
      (manifest-only task.ballots task.manifest session ballots m) (λ batches.
      won-kinds kinds ballots (after_count task session ballots batches) (among kinds TieKind refl) (λ won.
      one_round-kinds task.session task.seen task.draws kinds (among kinds Done refl) (among kinds Unconfirmed refl)
      (has_facts session (length (cards_of batches)) ballots.contest won.margins) session (values_of won) batches (linked_of batches ballots) ballots.candidates))))
