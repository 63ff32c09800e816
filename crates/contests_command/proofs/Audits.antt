-- How an audit of all contests ends.
use Rattle.std.proofs.Common.{◌≡◌, inl, inr, ℕ, Bool, true, false, List, Result, Ok, Err, codes, refl, sym, ap, subst, ◌∙◌}
use Rattle.ballots.specs.Ballots.{BallotFile}
use Rattle.ballots.specs.Grammar.{contests_of}
use Rattle.manifest.specs.Cards.{Batches}
use Rattle.manifest.specs.Manifest.{manifest_of}
use Rattle.seen_file.specs.Seen.{Entry}
use Rattle.contest_set.specs.SeenBy.{seen_by}
use Rattle.cli_base.specs.Confirmed.{confirmed_kind}
use Rattle.cli_base.specs.Outcome.{Outcome, Verdict, Answered, Refused, broken_at, outcome}
use Rattle.cli_base.specs.Due.{IsOneOrMemory, IsOrMemory}
use Rattle.cli_base.specs.Script.{Script, Agree, AreOfKind, IsOfContests, IsOfKind, SameButContests}
use Rattle.cli_base.specs.declared.outcome.AnswerKind.TheVariants.{Done, Unconfirmed}
use Rattle.cli_base.proofs.AmongKinds.{among}
use Rattle.cli_base.proofs.Ended.{refused-kind}
use Rattle.command.specs.declared.contests.ContestsTask.{ContestsTask}
use Rattle.input_files.specs.Judged.{told, go_on}
use Rattle.input_files.specs.Refusals.{no_record_text, refused_ballots, refused_manifest, refused_seen}
use Rattle.input_files.proofs.Going.{go_on-kinds, told-only}
use Rattle.contests_command.specs.Table.{all_signed, contests_table}
use Rattle.contests_command.specs.Contests.{Audits, after_ballots, after_manifest, kinds, script}

-- ---- the kinds of its answers

all-kind : (all : Bool) (text : List ℕ) → IsOfKind kinds (Answered (confirmed_kind all) text)
all-kind true text = among kinds Done refl
all-kind false text = among kinds Unconfirmed refl

module _ (task : ContestsTask) where
  audits-kind : (list : List BallotFile) (batches : Batches) (seen : List (List Entry)) (v : Verdict) → Audits task list batches seen v → IsOfKind kinds v
  audits-kind list batches seen v (inl unplaced) =
      refused-kind kinds v task.ballots (broken_at (codes "M7") unplaced.at) unplaced.refused
  audits-kind list batches seen v (inr (inl unseen)) =
      refused-kind kinds v task.seen (no_record_text unseen.card unseen.k) unseen.refused
  audits-kind list batches seen v (inr (inr is)) =
      subst (IsOfKind kinds) (sym is.told) (all-kind (all_signed is.ends) (contests_table task.limit list is.ends))

  manifest-kinds : (list : List BallotFile) (batches : Batches) → AreOfKind kinds (after_manifest task list batches)
  manifest-kinds list batches = λ bytes. go_on-kinds kinds (told (refused_seen task.seen) (seen_by batches list bytes)) _
      (told-only (refused_seen task.seen) (seen_by batches list bytes) (λ why. tt)) (audits-kind list batches)

  ballots-kinds : (list : List BallotFile) → AreOfKind kinds (after_ballots task list)
  ballots-kinds list = λ bytes. go_on-kinds kinds (told (refused_manifest task.manifest) (manifest_of bytes)) _
      (told-only (refused_manifest task.manifest) (manifest_of bytes) (λ why. tt)) (manifest-kinds list)

  pub kinds_are : AreOfKind kinds (script task)
  kinds_are = λ bytes. go_on-kinds kinds (told (refused_ballots task.ballots) (contests_of bytes)) _
      (told-only (refused_ballots task.ballots) (contests_of bytes) (λ why. tt)) ballots-kinds

-- ---- its ends

go_on-agrees : {A : Type 0} (judged : Result A Verdict) (next : A → Script) → ((value : A) → Agree SameButContests (next value)) →
    Agree SameButContests (go_on judged next)
go_on-agrees (Ok value) next each = each value
go_on-agrees (Err verdict) next each = λ v w p q. inl (ap outcome (p ∙ sym q))

abbrev status_after : Verdict → ℕ
status_after verdict = (outcome verdict).status

told-status : (all : Bool) (text : List ℕ) → IsOfContests (status_after (Answered (confirmed_kind all) text))
told-status true text = inl refl
told-status false text = inr (inr refl)

module _ (task : ContestsTask) where
  audits-status : (list : List BallotFile) (batches : Batches) (seen : List (List Entry)) (v : Verdict) → Audits task list batches seen v →
      IsOfContests (status_after v)
  audits-status list batches seen v (inl unplaced) = subst (λ v. IsOfContests (status_after v)) (sym unplaced.refused) (inr (inl refl))
  audits-status list batches seen v (inr (inl unseen)) = subst (λ v. IsOfContests (status_after v)) (sym unseen.refused) (inr (inl refl))
  audits-status list batches seen v (inr (inr is)) =
      subst (λ v. IsOfContests (status_after v)) (sym is.told) (told-status (all_signed is.ends) (contests_table task.limit list is.ends))

  manifest-agrees : (list : List BallotFile) (batches : Batches) → Agree SameButContests (after_manifest task list batches)
  manifest-agrees list batches = λ bytes. go_on-agrees (told (refused_seen task.seen) (seen_by batches list bytes)) _
      (λ seen v w p q. inr (audits-status list batches seen v p, audits-status list batches seen w q))

  ballots-agrees : (list : List BallotFile) → Agree SameButContests (after_ballots task list)
  ballots-agrees list = λ bytes. go_on-agrees (told (refused_manifest task.manifest) (manifest_of bytes)) _ (manifest-agrees list)

  pub agrees : Agree SameButContests (script task)
  agrees = λ bytes. go_on-agrees (told (refused_ballots task.ballots) (contests_of bytes)) _ ballots-agrees

-- ---- a refusal

pub refused_as : (verdicts : Verdict → Type 0) (verdict : Verdict) (due : Outcome) → verdicts verdict → IsOrMemory (outcome verdict) due →
    IsOneOrMemory verdicts due
refused_as verdicts verdict due holds (inl is) = inl (verdict, holds, is)
refused_as verdicts verdict due holds (inr memory) = inr memory
