-- A poll with a look after each draw has one end.
use Rattle.std.proofs.Common.{ℕ, List, length, Option, None, Some, IfSome, option_map, sym, ap, subst, ◌∙◌}
use Rattle.sampler.specs.Draws.{drawn_card}
use Rattle.manifest.specs.Cards.{Batches, cards_of}
use Rattle.manifest.specs.Manifest.{manifest_of}
use Rattle.assertion_file.specs.Content.{Content}
use Rattle.assertion_file.specs.Reading.{assertion_file_of}
use Rattle.seen_file.specs.Reading.{seen_of}
use Rattle.seen_file.specs.Seen.{Entry}
use Rattle.audit_session.specs.Refusals.{unseen_draw}
use Rattle.cli_base.specs.Outcome.{Verdict, Refused, outcome}
use Rattle.cli_base.specs.Script.{Agree, AreOfKind, IsOfKind, Same}
use Rattle.command.specs.declared.poll_each.PollEachTask.{PollEachTask}
use Rattle.input_files.specs.Judged.{told}
use Rattle.input_files.specs.Refusals.{no_record_text, refused_assertions, refused_manifest, refused_seen}
use Rattle.input_files.proofs.Going.{go_on-agrees, go_on-kinds, told-only}
use Rattle.poll_command.specs.Each.{PollsEach, after_assertions, after_cover, after_manifest, answered, draws_asked, each_text, is_yes, script, unseen}
use Rattle.poll_command.specs.Poll.{kinds, uncovered}
use Rattle.poll_command.proofs.Polls.{ended-agrees, ended-kinds, or-kind, uncovered-kind, yes-kind}

module _ (task : PollEachTask) where
  -- ---- one end

  cover-agrees : (batches : Batches) (file : Content) → Agree Same (after_cover task batches file)
  cover-agrees batches file = λ bytes. go_on-agrees (told (refused_seen task.seen) (seen_of batches file.candidates bytes)) _
      (λ entries v w p q. ap outcome (p ∙ sym q))

  assertions-agree : (batches : Batches) (file : Content) → Agree Same (after_assertions task batches file)
  assertions-agree batches file = ended-agrees (uncovered task.nodes file) (after_cover task batches file) (cover-agrees batches file)

  manifest-agrees : (batches : Batches) → Agree Same (after_manifest task batches)
  manifest-agrees batches = λ bytes. go_on-agrees (told (refused_assertions task.assertions) (assertion_file_of bytes)) _ (assertions-agree batches)

  pub agrees : Agree Same (script task)
  agrees = λ bytes. go_on-agrees (told (refused_manifest task.manifest) (manifest_of bytes)) _ manifest-agrees

  -- ---- the kinds of its answers

  unseen-kind : (batches : Batches) (file : Content) (entries : List Entry) → IfSome (unseen task batches file entries) (IsOfKind kinds)
  unseen-kind batches file entries = by (unseen_draw task.seed (length (cards_of batches)) entries (draws_asked task batches file entries)) where
    by : (first : Option ℕ) →
        IfSome (option_map (λ k. Refused task.seen (no_record_text (drawn_card task.seed k (length (cards_of batches))) k)) first) (IsOfKind kinds)
    by None = tt
    by (Some k) = tt

  polls-kind : (batches : Batches) (file : Content) (entries : List Entry) (v : Verdict) → PollsEach task batches file entries v → IsOfKind kinds v
  polls-kind batches file entries v is =
      subst (IsOfKind kinds) (sym is)
      (or-kind (unseen task batches file entries) (answered task batches file entries) (unseen-kind batches file entries)
      (yes-kind (is_yes task batches file entries) (each_text task batches file entries)))

  cover-kinds : (batches : Batches) (file : Content) → AreOfKind kinds (after_cover task batches file)
  cover-kinds batches file = λ bytes. go_on-kinds kinds (told (refused_seen task.seen) (seen_of batches file.candidates bytes)) _
      (told-only (refused_seen task.seen) (seen_of batches file.candidates bytes) (λ why. tt)) (polls-kind batches file)

  assertions-kinds : (batches : Batches) (file : Content) → AreOfKind kinds (after_assertions task batches file)
  assertions-kinds batches file =
      ended-kinds (uncovered task.nodes file) (after_cover task batches file) (uncovered-kind task.nodes file) (cover-kinds batches file)

  manifest-kinds : (batches : Batches) → AreOfKind kinds (after_manifest task batches)
  manifest-kinds batches = λ bytes. go_on-kinds kinds (told (refused_assertions task.assertions) (assertion_file_of bytes)) _
      (told-only (refused_assertions task.assertions) (assertion_file_of bytes) (λ why. tt)) (assertions-kinds batches)

  pub kinds_are : AreOfKind kinds (script task)
  kinds_are = λ bytes. go_on-kinds kinds (told (refused_manifest task.manifest) (manifest_of bytes)) _
      (told-only (refused_manifest task.manifest) (manifest_of bytes) (λ why. tt)) manifest-kinds
