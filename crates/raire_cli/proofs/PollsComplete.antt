-- A poll of files that are held and accepted, whose assertions are known to cover, prints its result.
use Rattle.std.proofs.Common.{◌≡◌, ◌⊎◌, inl, inr, ℕ, List, Option, None, Bool, true, false, sym, ap, subst}
use Rattle.std.specs.Prelude.{option_map, unwrap_or}
use Rattle.desk.specs.Desk.{File}
use Rattle.sampler.specs.Draws.{drawn_card}
use Rattle.manifest.specs.Manifest.{manifest_of}
use Rattle.assertion_file.specs.Reading.{assertion_file_of}
use Rattle.seen_file.specs.Reading.{seen_of}
use Rattle.cli_base.specs.Confirmed.{confirmed_kind}
use Rattle.cli_base.specs.Outcome.{Verdict, Refused, status_of}
use Rattle.cli_base.specs.Script.{Script, Ends, AsHeld, ComesTo, Concludes}
use Rattle.cli_base.specs.Statuses.{HasAnswer}
use Rattle.input_files.specs.Refusals.{no_record_text, refused_assertions, refused_manifest, refused_seen}
use Rattle.poll_command.specs.Poll as poll
use Rattle.poll_command.specs.Each as each
use Rattle.raire_cli.specs.Answers.{asked, asked_by}
use Rattle.raire_cli.specs.PollsComplete.{IsEachPollable, IsPollable}
use Rattle.raire_cli.proofs.Said.{saying}

-- it ends in one of the two ways
pub record HasEnd (words : List (List ℕ)) (files : List File) : Type 0 where
  pub confirmed : Bool
  pub answer : HasAnswer (asked words) files (confirmed_kind confirmed)

pub confirmed_status : (confirmed : Bool) (status : ℕ) → status ≡ status_of (confirmed_kind confirmed) → (status ≡ 0) ⊎ (status ≡ 10)
confirmed_status true status is = inl is
confirmed_status false status is = inr is

-- if nothing is left open before the seen file, the call continues
goes_on : (files : List File) (end : Option Verdict) (next : Script) (verdict : Verdict) → end ≡ None → Concludes (AsHeld files) next verdict →
    Concludes (AsHeld files) (poll.unless_ended end next) verdict
goes_on files end next verdict none comes = subst (λ end. Concludes (AsHeld files) (poll.unless_ended end next) verdict) (sym none) comes

module _ (words : List (List ℕ)) (files : List File) where
  pub has_poll : IsPollable words files → HasEnd words files
  has_poll ok =
      let task = ok.asks.task in
      let batches = ok.inputs.batches in
      let file = ok.inputs.file in
      let entries = ok.inputs.entries in
      let m = ok.are.of_manifest in
      let a = ok.are.of_assertions in
      let s = ok.are.of_seen in
      let verdict : Verdict = poll.answered task batches file entries in
      let last : poll.Polls task batches file entries verdict =
      sym (ap (λ k. unwrap_or (option_map (λ k. Refused task.seen
      (no_record_text (drawn_card task.seed k (poll.cards task batches file entries)) k)) k) verdict) ok.all_told) in
      let of_seen = saying files task.seen (refused_seen task.seen) (seen_of batches file.candidates)
      (λ bytes entries. Ends (poll.Polls task batches file entries)) s.bytes s.held s.is_short entries s.is verdict last in
      let of_cover = goes_on files (poll.uncovered task.nodes file) (poll.after_cover task batches file) verdict ok.are.covered of_seen in
      let of_assertions = saying files task.assertions (refused_assertions task.assertions) assertion_file_of
      (λ bytes file. poll.after_assertions task batches file) a.bytes a.held a.is_short file a.is verdict of_cover in
      let of_manifest = saying files task.manifest (refused_manifest task.manifest) manifest_of
      (λ bytes batches. poll.after_manifest task batches) m.bytes m.held m.is_short batches m.is verdict of_assertions in
      record {
        confirmed = poll.is_yes task batches file entries;
        answer = (
          poll.poll_text task batches file entries,
          subst (λ command. ComesTo (AsHeld files) (asked_by command) verdict) (sym ok.asks.asked) of_manifest,
        );
      }

  pub has_each_poll : IsEachPollable words files → HasEnd words files
  has_each_poll ok =
      let task = ok.asks.task in
      let batches = ok.inputs.batches in
      let file = ok.inputs.file in
      let entries = ok.inputs.entries in
      let m = ok.are.of_manifest in
      let a = ok.are.of_assertions in
      let s = ok.are.of_seen in
      let verdict : Verdict = each.answered task batches file entries in
      let last : each.PollsEach task batches file entries verdict =
      sym (ap (λ k. unwrap_or (option_map (λ k. Refused task.seen
      (no_record_text (drawn_card task.seed k (each.cards task batches file entries)) k)) k) verdict) ok.all_told) in
      let of_seen = saying files task.seen (refused_seen task.seen) (seen_of batches file.candidates)
      (λ bytes entries. Ends (each.PollsEach task batches file entries)) s.bytes s.held s.is_short entries s.is verdict last in
      let of_cover = goes_on files (poll.uncovered task.nodes file) (each.after_cover task batches file) verdict ok.are.covered of_seen in
      let of_assertions = saying files task.assertions (refused_assertions task.assertions) assertion_file_of
      (λ bytes file. each.after_assertions task batches file) a.bytes a.held a.is_short file a.is verdict of_cover in
      let of_manifest = saying files task.manifest (refused_manifest task.manifest) manifest_of
      (λ bytes batches. each.after_manifest task batches) m.bytes m.held m.is_short batches m.is verdict of_assertions in
      record {
        confirmed = each.is_yes task batches file entries;
        answer = (
          each.each_text task batches file entries,
          subst (λ command. ComesTo (AsHeld files) (asked_by command) verdict) (sym ok.asks.asked) of_manifest,
        );
      }
