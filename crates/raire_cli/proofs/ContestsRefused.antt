-- An audit of all contests is refused whatever budget runs out, unless the refusal is that a drawn card has no record.
use Rattle.std.proofs.Common.{◌≡◌, ◌⊎◌, inl, inr, ⊎_elim, ℕ, List, Option, None, Some, IfSome, Result, Ok, Err, codes, sym, ap, subst, ◌∙◌}
use Rattle.std.specs.Prelude.{◌≢◌}
use Rattle.desk.specs.Desk.{File, held_bytes}
use Rattle.ballots.specs.Ballots.{BallotFile}
use Rattle.ballots.specs.Grammar.{contests_of}
use Rattle.manifest.specs.Cards.{Batches}
use Rattle.manifest.specs.Manifest.{manifest_of}
use Rattle.seen_file.specs.Seen.{Entry}
use Rattle.contest_set.specs.SeenBy.{seen_by}
use Rattle.cli_base.specs.Ends.{Writing}
use Rattle.cli_base.specs.Outcome.{Outcome, Verdict, Answered, Refused, outcome}
use Rattle.cli_base.specs.Script.{Script, Read, Bytes, AsHeld, Concludes, May, MayCome, ComesTo, reading_of, stop_of}
use Rattle.cli_base.specs.Statuses.{IsAnswered, IsUndone}
use Rattle.cli_base.specs.declared.outcome.AnswerKind.{AnswerKind}
use Rattle.cli_base.proofs.Statuses.{status_in}
use Rattle.command.specs.declared.contests.ContestsTask.{ContestsTask}
use Rattle.contests_command.specs.Contests.{Audits, after_ballots, after_manifest, script}
use Rattle.input_files.specs.Judged.{told, go_on}
use Rattle.input_files.specs.Refusals.{no_card, no_record_text, refused_ballots, refused_manifest, refused_seen}
use Rattle.command_line.specs.declared.commands.Command.TheVariants.{Contests}
use Rattle.raire_cli.specs.Asks.{Asks}
use Rattle.raire_cli.specs.Answers.{asked, asked_by}
use Rattle.raire_cli.specs.Contests.{IsRefusedAnyway}
use Rattle.raire_cli.proofs.Said.{none_is_some}

module _ (files : List File) where
  -- a file that is held has one reading
  reads : (name bytes : List ℕ) (next : List ℕ → Script) → AsHeld files name (Bytes bytes) → (due : Outcome) → May (AsHeld files) (Read name next) due →
      May (AsHeld files) (next bytes) due
  reads name bytes next there due (inl (reading, other, stops)) =
      absurd (none_is_some (subst (λ r. stop_of name r ≡ Some due) (other ∙ sym there) stops))
  reads name bytes next there due (inr (others, other, rest)) =
      let same : others ≡ bytes = let whole : Bytes others ≡ Bytes bytes = other ∙ sym there in cc in
      subst (λ b. May (AsHeld files) (next b) due) same rest

  module _ (name text : List ℕ) (seen_there : (card k : ℕ) → text ≢ no_record_text card k) (due : Outcome) where
    abbrev refused : Verdict
    refused = Refused name text

    abbrev IsAlone : Script → Type 0
    IsAlone script = Concludes (AsHeld files) script refused → May (AsHeld files) script due → due ≡ outcome refused

    -- a file is refused for one reason only
    judged_alone : {A Why : Type 0} (words : Why → Verdict) (judged : Result A Why) (next : A → Script) → ((value : A) → IsAlone (next value)) →
        IsAlone (go_on (told words judged) next)
    judged_alone words (Ok value) next each = each value
    judged_alone words (Err why) next each = λ is (v, same, ends). ends ∙ ap outcome (same ∙ sym is)

    read_alone : (file : List ℕ) (next : List ℕ → Script) → ((bytes : List ℕ) → IsAlone (next bytes)) → IsAlone (Read file next)
    read_alone file next each (bytes, there, rest) may = each bytes rest (reads file bytes next there due may)

    module _ (task : ContestsTask) where
      -- a ballot without a card comes first; otherwise the only thing missing is the record of a drawn card
      audit_alone : (list : List BallotFile) (batches : Batches) (seen : List (List Entry)) (v : Verdict) → Audits task list batches seen refused →
          Audits task list batches seen v → v ≡ refused
      audit_alone list batches seen v (inl unplaced) (inl other) =
          let both : Some other.at ≡ Some unplaced.at = sym other.first ∙ unplaced.first in
          let same : other.at ≡ unplaced.at = cc both in
          other.refused ∙ ap (no_card task.ballots) same ∙ sym unplaced.refused
      audit_alone list batches seen v (inl unplaced) (inr (inl other)) = absurd (none_is_some_at (sym other.placed ∙ unplaced.first)) where
        none_is_some_at : {at : ℕ} → None ≡ Some at → ⊥
        none_is_some_at e = cc e
      audit_alone list batches seen v (inl unplaced) (inr (inr other)) = absurd (none_is_some_at (sym other.placed ∙ unplaced.first)) where
        none_is_some_at : {at : ℕ} → None ≡ Some at → ⊥
        none_is_some_at e = cc e
      audit_alone list batches seen v (inr (inl unseen)) other = absurd (seen_there unseen.card unseen.k (text_of unseen.refused)) where
        text_of : {name' text' : List ℕ} → refused ≡ Refused name' text' → text ≡ text'
        text_of e = cc e
      audit_alone list batches seen v (inr (inr is)) other = absurd (no_answer is.told) where
        no_answer : {kind : AnswerKind} {t : List ℕ} → refused ≡ Answered kind t → ⊥
        no_answer e = cc e

      contests_alone : IsAlone (script task)
      contests_alone =
          read_alone task.ballots _ (λ b. judged_alone (refused_ballots task.ballots) (contests_of b) (after_ballots task) (λ list.
          read_alone task.manifest _ (λ m. judged_alone (refused_manifest task.manifest) (manifest_of m) (after_manifest task list) (λ batches.
          read_alone task.seen _ (λ s. judged_alone (refused_seen task.seen) (seen_by batches list s) _ (λ seen is (v, ends, same).
          same ∙ ap outcome (audit_alone list batches seen v is ends)))))))

pub refused_anyway : (words : List (List ℕ)) {held : Option (List File)} {failed : Type 0} {status : ℕ} {out err : Writing} →
    IsAnswered (asked words) held failed status out err → Asks Contests words →
    IfSome held (λ files. IsRefusedAnyway words files → (status ≡ 2) ⊎ IsUndone status)
refused_anyway words {held} {failed} {status} {out} {err} answered asks = by held answered where
  by : (h : Option (List File)) → IsAnswered (asked words) h failed status out err →
      IfSome h (λ files. IsRefusedAnyway words files → (status ≡ 2) ⊎ IsUndone status)
  by None answered = tt
  by (Some files) answered = λ (name, text, comes, seen). elim answered.otherwise [
    | inl undone ↦ inr undone
    | inr (to_out, to_err, may, took_out, took_err) ↦
        let due : Outcome = record { status = status; out = to_out; err = to_err } in
        let comes' = subst (λ c. ComesTo (AsHeld files) (asked_by c) (Refused name text)) asks.asked comes in
        let may' = subst (λ c. MayCome (AsHeld files) (asked_by c) due) asks.asked may in
        inl (ap status_in (contests_alone files name text seen due asks.task comes' may'))
  ]
