-- The block of a contest among others and by itself: two calls of `run`.
use Rattle.std.specs.Prelude.{◌≡◌, ℕ, List, ◌++◌, All, Some}
use Rattle.std.specs.List.{slice_get}
use Rattle.desk.specs.Desk.{File}
use Rattle.csv_rows.specs.Fields.{numbered_records}
use Rattle.irv_base.specs.Names.{Id}
use Rattle.ballots.specs.Ballots.{BallotFile}
use Rattle.contest_set.specs.Laws.{records_about}
use Rattle.contest_set.specs.declared.end.ContestEnd.{ContestEnd}
use Rattle.command.specs.declared.contests.ContestsTask.{ContestsTask}
use Rattle.contests_command.specs.Alone.{alone}
use Rattle.contests_command.specs.Contests.{IsUnspent}
use Rattle.contests_command.specs.Table.{block, is_signed, last_line}
use Rattle.raire_cli.specs.Contests.{AuditsContests, ContestsBytes, blocks_of}

-- the same seed, draws, limit, gamma and nodes, and any number of workers
pub record HaveSameTerms (task other : ContestsTask) : Type 0 where
  pub seed : other.seed ≡ task.seed
  pub draws : other.draws ≡ task.draws
  pub limit : other.limit ≡ task.limit
  pub gamma : other.gamma ≡ task.gamma
  pub nodes : other.nodes ≡ task.nodes

-- the records of the files without those of the other contests, if `1` is the first record of the ballot file
pub record AreAlone (contest : Id) (bytes other : ContestsBytes) : Type 0 where
  pub ballots : numbered_records other.cards.ballots
      ≡ alone contest (numbered_records bytes.cards.ballots)
  pub manifest : other.cards.manifest ≡ bytes.cards.manifest
  pub seen : numbered_records other.seen ≡ records_about contest (numbered_records bytes.seen)

-- If neither budget runs out, the block of a contest among others is what the same command prints for it by itself.
abbrev pub BlockAlone : Type 0
BlockAlone =
    (words others : List (List ℕ)) (files more : List File) (audit : AuditsContests words files)
    (single : AuditsContests others more) (place : ℕ) (ballots : BallotFile) (end : ContestEnd) →
    slice_get audit.inputs.list place ≡ Some ballots → slice_get audit.ends place ≡ Some end →
    HaveSameTerms audit.asks.task single.asks.task →
    AreAlone ballots.contest audit.bytes single.bytes →
    IsUnspent end → All IsUnspent single.ends →
    blocks_of single
    ≡ block audit.asks.task.limit ballots end ++ last_line (is_signed end)
