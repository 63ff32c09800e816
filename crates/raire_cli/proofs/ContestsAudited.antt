-- Statuses 0 and 10 of an audit of all contests come with the end of each contest.
use Rattle.std.proofs.Common.{◌≡◌, inl, inr, ℕ, List, subst}
use Rattle.desk.specs.Desk.{File}
use Rattle.ballots.specs.Ballots.{BallotFile}
use Rattle.ballots.specs.Grammar.{contests_of}
use Rattle.manifest.specs.Cards.{Batches}
use Rattle.manifest.specs.Manifest.{manifest_of}
use Rattle.seen_file.specs.Seen.{Entry}
use Rattle.contest_set.specs.SeenBy.{seen_by}
use Rattle.cli_base.specs.Confirmed.{confirmed_kind}
use Rattle.cli_base.specs.Outcome.{Answered}
use Rattle.cli_base.specs.Script.{Ends, AsHeld, ComesTo}
use Rattle.cli_base.specs.declared.outcome.AnswerKind.{AnswerKind}
use Rattle.cli_base.specs.declared.outcome.AnswerKind.TheVariants.{Done, Unconfirmed}
use Rattle.command.specs.declared.contests.ContestsTask.{ContestsTask}
use Rattle.input_files.specs.Refusals.{refused_ballots, refused_manifest, refused_seen}
use Rattle.contests_command.specs.Contests.{Audits, IsTold, after_ballots, after_manifest}
use Rattle.contests_command.specs.Table.{all_signed, contests_table}
use Rattle.command_line.specs.declared.commands.Command.TheVariants.{Contests}
use Rattle.raire_cli.specs.Asks.{Asks}
use Rattle.raire_cli.specs.Answers.{asked, asked_by}
use Rattle.raire_cli.specs.Contests.{AuditsContests, blocks_of}
use Rattle.raire_cli.proofs.Said.{said}

-- an answer says how each contest ends
told_of : (task : ContestsTask) (list : List BallotFile) (batches : Batches) (seen : List (List Entry)) (kind : AnswerKind) (text : List ℕ) →
    Audits task list batches seen (Answered kind text) →
    (is : IsTold task list batches seen (Answered kind text)) × (kind ≡ confirmed_kind (all_signed is.ends)) × (text ≡ contests_table task.limit list is.ends)
told_of task list batches seen kind text (inl unplaced) = let e = unplaced.refused in absurd (cc e)
told_of task list batches seen kind text (inr (inl unseen)) = let e = unseen.refused in absurd (cc e)
told_of task list batches seen kind text (inr (inr is)) = let e = is.told in (is, cc e, cc e)

module _ (words : List (List ℕ)) (files : List File) (asks : Asks Contests words) (kind : AnswerKind) (text : List ℕ) where
  pub audited_by : ComesTo (AsHeld files) (asked words) (Answered kind text) →
      (audit : AuditsContests words files) × (text ≡ blocks_of audit) × (kind ≡ confirmed_kind (all_signed audit.ends))
  audited_by comes =
      let task = asks.task in
      let b = said files task.ballots (refused_ballots task.ballots) contests_of (λ bytes list. after_ballots task list) kind text (λ why. tt)
      (subst (λ command. ComesTo (AsHeld files) (asked_by command) (Answered kind text)) asks.asked comes) in
      let m = said files task.manifest (refused_manifest task.manifest) manifest_of (λ bytes batches. after_manifest task b.value batches) kind text
      (λ why. tt) b.rest in
      let s = said files task.seen (refused_seen task.seen) (seen_by m.value b.value)
      (λ bytes seen. Ends (Audits task b.value m.value seen)) kind text (λ why. tt) m.rest in
      let (is, kind-is, text-is) = told_of task b.value m.value s.value kind text s.rest in (
        record {
          asks = asks;
          bytes = record { cards = record { ballots = b.bytes; manifest = m.bytes }; seen = s.bytes };
          held = record { cards = record { held_ballots = b.held; held_manifest = m.held }; seen = s.held };
          inputs = record { list = b.value; batches = m.value; seen = s.value };
          say = record { ballots = b.is; manifest = m.is; seen = s.is };
          placed = is.placed;
          ends = is.ends;
          are = is.are;
        },
        text-is,
        kind-is,
      )
