-- An audit has one end.
use Rattle.std.proofs.Common.{Bool, true, false, List, length, ℕ, refl, ap}
use Rattle.budget.specs.declared.budget.Budget.{Budget}
use Rattle.ballots.specs.Ballots.{BallotFile}
use Rattle.manifest.specs.Cards.{cards_of}
use Rattle.manifest.specs.Linked.{linked_of}
use Rattle.assertion_file.specs.Content.{Content as FileContent, margins_of}
use Rattle.assertion_file.specs.Reading.{assertion_file_of}
use Rattle.session_state.specs.Claims.{values_of}
use Rattle.session_state.specs.Content.{Content}
use Rattle.session_state.specs.Inputs.{has_facts}
use Rattle.check_command.specs.Check as check
use Rattle.check_command.specs.Check.{Checks}
use Rattle.check_command.proofs.Checks.{checks-one, checks-kind}
use Rattle.cli_base.specs.Outcome.{Verdict, Refused, outcome}
use Rattle.cli_base.specs.Script.{Script, Ends, Agree, AreOfKind, IsOfKind, Same}
use Rattle.cli_base.specs.declared.outcome.AnswerKind.TheVariants.{Done, Tie, Spent, FullCount, Differs, Unconfirmed}
use Rattle.cli_base.proofs.AmongKinds.{among, not_among}
use Rattle.command.specs.declared.audit.AuditTask.{AuditTask}
use Rattle.input_files.specs.Refusals.{refused_assertions}
use Rattle.input_files.proofs.Going.{OnlyRefuses, go_on-agrees, go_on-kinds, told-only, unless-only}
use Rattle.session_commands.specs.Accepted.{if_accepted, is_accepted, on_if}
use Rattle.session_commands.specs.Audit.{kinds, after_check, same_assertions, script}
use Rattle.session_rounds.specs.Refusals.{other_digest}
use Rattle.session_rounds.specs.Rounds.{same_ballots, same_manifest, session_to_go_on}
use Rattle.session_rounds.proofs.OneRound.{ballots-only, digest-only, manifest-only, one_round-agrees, one_round-kinds, session-only}

-- ---- the files that are refused

module _ (task : AuditTask) where
  pub assertions-only : (session : Content) (bytes : List ℕ) → OnlyRefuses (same_assertions task session bytes)
  assertions-only session bytes =
      unless-only (other_digest task.assertions session.digests.assertions bytes) _ (digest-only task.assertions session.digests.assertions bytes)
      (told-only (refused_assertions task.assertions) (assertion_file_of bytes) (λ why. tt))

-- ---- if a check must accept

accepted-agrees : (budget : Budget) (ballots : BallotFile) (file : FileContent) (next : Script) → Agree Same next → Agree Same (if_accepted budget ballots file next)
accepted-agrees budget ballots file next agree = by (is_accepted budget ballots file) where
  by : (b : Bool) → Agree Same (on_if b next (Ends (Checks budget ballots file)))
  by true = agree
  by false = λ v w p q. ap outcome (checks-one budget ballots file v w p q)

wider : (v : Verdict) → IsOfKind check.kinds v → IsOfKind kinds v
wider (Verdict.Answered Done text) of = among kinds Done refl
wider (Verdict.Answered Spent text) of = among kinds Spent refl
wider (Verdict.Answered Differs text) of = among kinds Differs refl
wider (Verdict.Answered Unconfirmed text) of = among kinds Unconfirmed refl
wider (Verdict.Answered Tie text) of = absurd (not_among check.kinds Tie refl of)
wider (Verdict.Answered FullCount text) of = absurd (not_among check.kinds FullCount refl of)
wider (Refused name text) of = tt

accepted-kinds : (budget : Budget) (ballots : BallotFile) (file : FileContent) (next : Script) → AreOfKind kinds next →
    AreOfKind kinds (if_accepted budget ballots file next)
accepted-kinds budget ballots file next of = by (is_accepted budget ballots file) where
  by : (b : Bool) → AreOfKind kinds (on_if b next (Ends (Checks budget ballots file)))
  by true = of
  by false = λ v is. wider v (checks-kind budget ballots file v is)

-- ---- the chain

pub agrees : (task : AuditTask) → Agree Same (script task)
agrees task = λ s. go_on-agrees (session_to_go_on task.session task.draws s) _ (λ session.
    λ b. go_on-agrees (same_ballots task.ballots session b) _ (λ ballots.
    λ m. go_on-agrees (same_manifest task.ballots task.manifest session ballots m) _ (λ batches.
    λ a. go_on-agrees (same_assertions task session a) _ (λ file.
    accepted-agrees task.budget ballots file (after_check task session ballots batches file) (
    one_round-agrees task.session task.seen task.draws (has_facts session (length (cards_of batches)) file.contest (margins_of file)) session (values_of file) batches (linked_of batches ballots) file.candidates)))))

pub kinds_are : (task : AuditTask) → AreOfKind kinds (script task)
kinds_are task = λ s. go_on-kinds kinds (session_to_go_on task.session task.draws s) _ (session-only task.session task.draws s) (λ session.
    λ b. go_on-kinds kinds (same_ballots task.ballots session b) _ (ballots-only task.ballots session b) (λ ballots.
    λ m. go_on-kinds kinds (same_manifest task.ballots task.manifest session ballots m) _ (manifest-only task.ballots task.manifest session ballots m) (λ batches.
    λ a. go_on-kinds kinds (same_assertions task session a) _ (assertions-only task session a) (λ file.
    accepted-kinds task.budget ballots file (after_check task session ballots batches file) (
    one_round-kinds task.session task.seen task.draws kinds (among kinds Done refl) (among kinds Unconfirmed refl) (has_facts session (length (cards_of batches)) file.contest (margins_of file)) session
    (values_of file) batches (linked_of batches ballots) file.candidates)))))
