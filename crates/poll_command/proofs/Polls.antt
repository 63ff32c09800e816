-- A poll has one end.
use Rattle.std.proofs.Common.{ℕ, Bool, true, false, List, length, Option, None, Some, IfSome, option_map, unwrap_or, refl, sym, ap, subst, ◌∙◌}
use Rattle.std.specs.Option.{option_or}
use Rattle.sampler.specs.Draws.{drawn_card}
use Rattle.manifest.specs.Cards.{Batches, cards_of}
use Rattle.manifest.specs.Manifest.{manifest_of}
use Rattle.assertion_file.specs.Content.{Content, candidate_count}
use Rattle.assertion_file.specs.Reading.{assertion_file_of}
use Rattle.cover_checker.specs.Covers.{first_over, standing_order}
use Rattle.cover_checker.specs.Findings.{assertions_of}
use Rattle.seen_file.specs.Reading.{seen_of}
use Rattle.seen_file.specs.Seen.{Entry}
use Rattle.audit_session.specs.Refusals.{unseen_draw}
use Rattle.cli_base.specs.Confirmed.{confirmed_kind}
use Rattle.cli_base.specs.Outcome.{Verdict, Answered, Refused, outcome}
use Rattle.cli_base.specs.Script.{Script, Agree, AreOfKind, IsOfKind, Same}
use Rattle.cli_base.specs.declared.outcome.AnswerKind.TheVariants.{Done, Spent, Differs, Unconfirmed}
use Rattle.cli_base.proofs.AmongKinds.{among}
use Rattle.command.specs.declared.poll.PollTask.{PollTask}
use Rattle.input_files.specs.Judged.{told}
use Rattle.input_files.specs.Refusals.{no_record_text, refused_assertions, refused_manifest, refused_seen}
use Rattle.input_files.proofs.Going.{go_on-agrees, go_on-kinds, told-only}
use Rattle.poll_command.specs.Poll.{Polls, after_assertions, after_cover, after_manifest, answered, kinds, is_yes, poll_text, script, spent, standing, uncovered, unless_ended, unseen}

-- ---- one end

pub ended-agrees : (end : Option Verdict) (next : Script) → Agree Same next → Agree Same (unless_ended end next)
ended-agrees None next agree = agree
ended-agrees (Some verdict) next agree = λ v w p q. ap outcome (p ∙ sym q)

module _ (task : PollTask) where
  cover-agrees : (batches : Batches) (file : Content) → Agree Same (after_cover task batches file)
  cover-agrees batches file = λ bytes. go_on-agrees (told (refused_seen task.seen) (seen_of batches file.candidates bytes)) _
      (λ entries v w p q. ap outcome (p ∙ sym q))

  assertions-agree : (batches : Batches) (file : Content) → Agree Same (after_assertions task batches file)
  assertions-agree batches file = ended-agrees (uncovered task.nodes file) (after_cover task batches file) (cover-agrees batches file)

  manifest-agrees : (batches : Batches) → Agree Same (after_manifest task batches)
  manifest-agrees batches = λ bytes. go_on-agrees (told (refused_assertions task.assertions) (assertion_file_of bytes)) _ (assertions-agree batches)

  pub agrees : Agree Same (script task)
  agrees = λ bytes. go_on-agrees (told (refused_manifest task.manifest) (manifest_of bytes)) _ manifest-agrees

-- ---- the kinds of its answers

pub ended-kinds : (end : Option Verdict) (next : Script) → IfSome end (IsOfKind kinds) → AreOfKind kinds next → AreOfKind kinds (unless_ended end next)
ended-kinds None next own each = each
ended-kinds (Some verdict) next own each = λ v is. subst (IsOfKind kinds) (sym is) own

pub uncovered-kind : (nodes : ℕ) (file : Content) → IfSome (uncovered nodes file) (IsOfKind kinds)
uncovered-kind nodes file =
    by (first_over (candidate_count file) file.winner (assertions_of file) nodes) (standing_order (candidate_count file) file.winner (assertions_of file)) where
      by : (over : Option ℕ) (order : Option (List ℕ)) →
          IfSome (option_or (option_map (spent file) over) (option_map (standing file) order)) (IsOfKind kinds)
      by (Some last) order = among kinds Spent refl
      by None (Some order) = among kinds Differs refl
      by None None = tt

pub yes-kind : (yes : Bool) (text : List ℕ) → IsOfKind kinds (Answered (confirmed_kind yes) text)
yes-kind true text = among kinds Done refl
yes-kind false text = among kinds Unconfirmed refl

pub or-kind : (refused : Option Verdict) (verdict : Verdict) → IfSome refused (IsOfKind kinds) → IsOfKind kinds verdict → IsOfKind kinds (unwrap_or refused verdict)
or-kind None verdict own is = is
or-kind (Some other) verdict own is = own

module _ (task : PollTask) where
  unseen-kind : (batches : Batches) (file : Content) (entries : List Entry) → IfSome (unseen task batches file entries) (IsOfKind kinds)
  unseen-kind batches file entries = by (unseen_draw task.seed (length (cards_of batches)) entries task.draws) where
    by : (first : Option ℕ) →
        IfSome (option_map (λ k. Refused task.seen (no_record_text (drawn_card task.seed k (length (cards_of batches))) k)) first) (IsOfKind kinds)
    by None = tt
    by (Some k) = tt

  polls-kind : (batches : Batches) (file : Content) (entries : List Entry) (v : Verdict) → Polls task batches file entries v → IsOfKind kinds v
  polls-kind batches file entries v is =
      subst (IsOfKind kinds) (sym is)
      (or-kind (unseen task batches file entries) (answered task batches file entries) (unseen-kind batches file entries)
      (yes-kind (is_yes task batches file entries) (poll_text task batches file entries)))

  cover-kinds : (batches : Batches) (file : Content) → AreOfKind kinds (after_cover task batches file)
  cover-kinds batches file = λ bytes. go_on-kinds kinds (told (refused_seen task.seen) (seen_of batches file.candidates bytes)) _
      (told-only (refused_seen task.seen) (seen_of batches file.candidates bytes) (λ why. tt)) (polls-kind batches file)

  assertions-kinds : (batches : Batches) (file : Content) → AreOfKind kinds (after_assertions task batches file)
  assertions-kinds batches file =
      ended-kinds (uncovered task.nodes file) (after_cover task batches file) (uncovered-kind task.nodes file) (cover-kinds batches file)

  manifest-kinds : (batches : Batches) → AreOfKind kinds (after_manifest task batches)
  manifest-kinds batches = λ bytes. go_on-kinds kinds (told (refused_assertions task.assertions) (assertion_file_of bytes)) _
      (told-only (refused_assertions task.assertions) (assertion_file_of bytes) (λ why. tt)) (assertions-kinds batches)

  pub kinds_are : AreOfKind kinds (script task)
  kinds_are = λ bytes. go_on-kinds kinds (told (refused_manifest task.manifest) (manifest_of bytes)) _
      (told-only (refused_manifest task.manifest) (manifest_of bytes) (λ why. tt)) manifest-kinds
