-- An audit of all contests has one end if the nodes are enough for each contest that is held.
use Rattle.std.proofs.Common.{◌≡◌, inl, inr, ℕ, List, All, Some, Result, Ok, Err, refl, sym, ap, subst, ◌∙◌}
use Rattle.desk.specs.Desk.{File, held_bytes}
use Rattle.ballots.specs.Ballots.{BallotFile}
use Rattle.ballots.specs.Grammar.{contests_of}
use Rattle.manifest.specs.Manifest.{manifest_of}
use Rattle.contest_set.specs.SeenBy.{seen_by}
use Rattle.cli_base.specs.Outcome.{Outcome, Verdict, outcome}
use Rattle.cli_base.specs.Script.{Script, Read, Ends, Bytes, Reading, AsHeld, May, reading_of, stop_of}
use Rattle.cli_base.proofs.Scripts.{some_is}
use Rattle.command.specs.declared.contests.ContestsTask.{ContestsTask}
use Rattle.input_files.specs.Judged.{told, go_on}
use Rattle.input_files.specs.Refusals.{refused_ballots, refused_manifest, refused_seen}
use Rattle.contests_command.specs.Contests.{SufficeFor, script}
use Rattle.contests_command.proofs.OneEnd.{audits_one}
use Rattle.raire_cli.specs.Contests.{HaveNodes}
use Rattle.raire_cli.proofs.Said.{held_whole, none_is_some, told_ok}

-- ---- what is held comes to one end

module _ (files : List File) where
  abbrev AgreeHeld : Script → Type 0
  AgreeHeld (Ends verdicts) = (v w : Verdict) → verdicts v → verdicts w → v ≡ w
  AgreeHeld (Read name next) = (bytes : List ℕ) → held_bytes name files ≡ Some bytes → AgreeHeld (next bytes)

  not-both : (name bytes : List ℕ) (reading : Reading) (d : Outcome) → AsHeld files name reading → AsHeld files name (Bytes bytes) →
      stop_of name reading ≡ Some d → ⊥
  not-both name bytes reading d there whole stop =
      let same : Bytes bytes ≡ reading = whole ∙ sym there in none_is_some (ap (stop_of name) same ∙ stop)

  held-determined : (script : Script) (d e : Outcome) → AgreeHeld script → May (AsHeld files) script d → May (AsHeld files) script e → d ≡ e
  held-determined (Ends verdicts) d e agree (v, may_v, is_d) (w, may_w, is_e) = is_d ∙ ap outcome (agree v w may_v may_w) ∙ sym is_e
  held-determined (Read name next) d e agree (inl (r, there_r, stop_d)) (inl (s, there_s, stop_e)) =
      some_is (sym stop_d ∙ ap (stop_of name) (there_r ∙ sym there_s) ∙ stop_e)
  held-determined (Read name next) d e agree (inl (r, there_r, stop_d)) (inr (bytes, there, rest)) = absurd (not-both name bytes r d there_r there stop_d)
  held-determined (Read name next) d e agree (inr (bytes, there, rest)) (inl (s, there_s, stop_e)) = absurd (not-both name bytes s e there_s there stop_e)
  held-determined (Read name next) d e agree (inr (bytes, there_d, rest_d)) (inr (others, there_e, rest_e)) =
      let is : Bytes bytes ≡ Bytes others = there_d ∙ sym there_e in
      let same : bytes ≡ others = cc is in
      held-determined (next others) d e (agree others (held_whole (held_bytes name files) others there_e))
      (subst (λ b. May (AsHeld files) (next b) d) same rest_d) rest_e

  go_on-held : {A : Type 0} (judged : Result A Verdict) (next : A → Script) → ((value : A) → judged ≡ Ok value → AgreeHeld (next value)) →
      AgreeHeld (go_on judged next)
  go_on-held (Ok value) next each = each value refl
  go_on-held (Err verdict) next each = λ v w p q. p ∙ sym q

  module _ (task : ContestsTask) (suffice : HaveNodes task files) where
    agree : AgreeHeld (script task)
    agree = λ bytes held. go_on-held (told (refused_ballots task.ballots) (contests_of bytes)) _ (λ list read.
        let own : All (SufficeFor task.nodes) list =
        suffice bytes list held (told_ok (refused_ballots task.ballots) (contests_of bytes) list read) in
        λ more there. go_on-held (told (refused_manifest task.manifest) (manifest_of more)) _ (λ batches said.
        λ last found. go_on-held (told (refused_seen task.seen) (seen_by batches list last)) _ (λ seen is.
        λ v w p q. audits_one task list batches seen own v w p q)))

    pub contests_once : (d e : Outcome) → May (AsHeld files) (script task) d → May (AsHeld files) (script task) e → d ≡ e
    contests_once d e may_d may_e = held-determined (script task) d e agree may_d may_e
