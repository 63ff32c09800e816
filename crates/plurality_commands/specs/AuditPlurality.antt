-- `plurality SESSION BALLOTS MANIFEST SEEN`: the session of a plurality contest continues by a round.
use Rattle.std.specs.Prelude.{ℕ, List, [], ◌∷◌, length, Result, Ok}
use Rattle.ballots.specs.Ballots.{BallotFile}
use Rattle.manifest.specs.Cards.{Batches, cards_of}
use Rattle.manifest.specs.Linked.{linked_of}
use Rattle.session_state.specs.Content.{Content}
use Rattle.session_state.specs.Inputs.{has_facts}
use Rattle.command.specs.declared.audit_plurality.AuditPluralityTask.{AuditPluralityTask}
use Rattle.cli_base.specs.Outcome.{Verdict}
use Rattle.cli_base.specs.Script.{Script, Read}
use Rattle.cli_base.specs.declared.outcome.AnswerKind.{AnswerKind}
use Rattle.cli_base.specs.declared.outcome.AnswerKind.TheVariants.{Done, Tie, Unconfirmed}
use Rattle.input_files.specs.Judged.{then_judged, unless, go_on}
use Rattle.plurality.specs.Plural.{Outcome, values_of}
use Rattle.session_rounds.specs.Refusals.{other_digest}
use Rattle.session_rounds.specs.Rounds.{session_to_go_on, with_ballots, with_manifest, one_round}
use Rattle.plurality_commands.specs.Outcome.{if_won}

module _ (task : AuditPluralityTask) where
  -- the session continues, and has no assertion file: it has the digest of no bytes
  abbrev pub plural_session : List ℕ → Result Content Verdict
  plural_session bytes =
      then_judged (session_to_go_on task.session task.draws bytes) (λ session.
      unless (other_digest task.session session.digests.assertions []) (Ok session))

  -- ---- the files, the last one first

  -- the session must be one of the inputs, and continues by the claims of the outcome
  abbrev pub after_count : Content → BallotFile → Batches → Outcome → Script
  after_count session ballots batches outcome =
      one_round task.session task.seen task.draws
      (has_facts session (length (cards_of batches)) ballots.contest outcome.margins)
      session (values_of outcome) batches (linked_of batches ballots) ballots.candidates

  -- once the ballots have their cards, they are counted
  abbrev pub after_manifest : Content → BallotFile → Batches → Script
  after_manifest session ballots batches = if_won ballots (after_count session ballots batches)

  abbrev pub after_ballots : Content → BallotFile → Script
  after_ballots session =
      with_manifest task.ballots task.manifest session (after_manifest session)

  abbrev pub after_session : Content → Script
  after_session session =
      with_ballots task.ballots task.manifest session (after_manifest session)

  abbrev pub script : Script
  script = Read task.session (λ bytes. go_on (plural_session bytes) after_session)

-- the kinds of its answers
abbrev pub kinds : List AnswerKind
kinds = Done ∷ Tie ∷ Unconfirmed ∷ []
