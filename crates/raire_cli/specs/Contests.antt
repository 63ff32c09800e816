-- What it means for all contests of a ballot file to be audited on one sample of cards.
use Rattle.std.specs.Prelude.{◌≡◌, ◌≢◌, ◌⊎◌, ◌↔◌, ℕ, List, All, Option, None, Some, IfSome, Ok, IsTrue}
use Rattle.desk.specs.Desk.{File, held_bytes}
use Rattle.ballots.specs.Ballots.{BallotFile}
use Rattle.ballots.specs.Grammar.{contests_of}
use Rattle.manifest.specs.Cards.{Batches}
use Rattle.manifest.specs.Manifest.{manifest_of}
use Rattle.seen_file.specs.Seen.{Entry}
use Rattle.contest_set.specs.Ends.{AreEnds}
use Rattle.contest_set.specs.Refusals.{first_without_card_of_all}
use Rattle.contest_set.specs.SeenBy.{seen_by}
use Rattle.contest_set.specs.declared.end.ContestEnd.{ContestEnd}
use Rattle.cli_base.specs.Ends.{Writing, Took}
use Rattle.cli_base.specs.Outcome.{Refused}
use Rattle.cli_base.specs.Script.{AsHeld, ComesTo}
use Rattle.command.specs.declared.contests.ContestsTask.{ContestsTask}
use Rattle.command_line.specs.declared.commands.Command.TheVariants.{Contests}
use Rattle.contests_command.specs.Contests.{SufficeFor, terms_of}
use Rattle.contests_command.specs.Table.{all_signed, contests_table}
use Rattle.input_files.specs.Refusals.{no_record_text}
use Rattle.raire_cli.specs.Asks.{Asks}
use Rattle.raire_cli.specs.CardFiles.{AreCardFiles, CardBytes}
use Rattle.raire_cli.specs.Answers.{asked}

-- ---- the files

-- the bytes of the three files
pub record ContestsBytes : Type 0 where
  pub cards : CardBytes
  pub seen : List ℕ

-- the files that the words name are held, and have these bytes
pub record AreContestsFiles (task : ContestsTask) (files : List File)
    (bytes : ContestsBytes) : Type 0 where
  pub cards : AreCardFiles task.ballots task.manifest files bytes.cards
  pub seen : held_bytes task.seen files ≡ Some bytes.seen

-- the ballots of each contest, the cards, and what is seen of some cards for each contest
pub record ContestsInputs : Type 0 where
  pub list : List BallotFile
  pub batches : Batches
  pub seen : List (List Entry)

-- the bytes say this
pub record SayContests (bytes : ContestsBytes) (inputs : ContestsInputs) : Type 0 where
  pub ballots : contests_of bytes.cards.ballots ≡ Ok inputs.list
  pub manifest : manifest_of bytes.cards.manifest ≡ Ok inputs.batches
  pub seen : seen_by inputs.batches inputs.list bytes.seen ≡ Ok inputs.seen

-- ---- enough nodes

-- there are as many nodes as may be needed in each contest of the ballot file
abbrev pub HaveNodes : ContestsTask → List File → Type 0
HaveNodes task files =
    (bytes : List ℕ) (list : List BallotFile) → held_bytes task.ballots files ≡ Some bytes →
    contests_of bytes ≡ Ok list → All (SufficeFor task.nodes) list

-- ---- the audit

-- the audit that the words ask for
pub record AuditsContests (words : List (List ℕ)) (files : List File) : Type 0 where
  pub asks : Asks Contests words
  pub bytes : ContestsBytes
  pub held : AreContestsFiles asks.task files bytes
  pub inputs : ContestsInputs
  pub say : SayContests bytes inputs
  -- each ballot of each contest has a card
  pub placed : first_without_card_of_all inputs.batches inputs.list ≡ None
  -- each contest ends this way, based on its own ballots, what is seen for it, the manifest and the terms that the words give
  pub ends : List ContestEnd
  pub are : AreEnds inputs.batches (terms_of asks.task) inputs.list inputs.seen ends

-- a block for each contest, and whether all are signed off
abbrev pub blocks_of : {words : List (List ℕ)} {files : List File} →
    AuditsContests words files → List ℕ
blocks_of audit = contests_table audit.asks.task.limit audit.inputs.list audit.ends

-- ---- a refusal

-- a rule refuses what a file that the words name holds, and not because a drawn card has no record
abbrev pub IsRefusedAnyway : List (List ℕ) → List File → Type 0
IsRefusedAnyway words files =
    (name text : List ℕ) × ComesTo (AsHeld files) (asked words) (Refused name text)
    × ((card k : ℕ) → text ≢ no_record_text card k)

-- ---- what `run` promises

-- Statuses 0 and 10 of an audit of all contests: `out` says how each contest of the file ends. The status is 0 exactly when each contest is
-- signed off.
abbrev pub IsAuditedByContest : Option (List File) → List (List ℕ) → ℕ → Writing → Type 0
IsAuditedByContest held words status out =
    IfSome held (λ files. Asks Contests words → (status ≡ 0) ⊎ (status ≡ 10) →
    (audit : AuditsContests words files) × Took out (blocks_of audit)
    × ((status ≡ 0) ↔ IsTrue (all_signed audit.ends)))
