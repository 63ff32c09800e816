-- What has been read so far of the votes in a file that comes in pieces.
use Rattle.std.specs.Prelude.{◌≡◌, ◌≤◌, ℕ, List, ◌++◌, length, IsTrue, Option, Some, Ok}
use Rattle.std.specs.List.{slice_get}
use Rattle.csv_rows.specs.Rows.{Fields}
use Rattle.irv_base.specs.Names.{Id, all_differ}
use Rattle.ballots.specs.Grammar.{Ballot, Contest, ballots_after, ballots_from, file_of, then_on}
use Rattle.ballot_reader.specs.Kept.{IsKeptUpTo, KeptBallots, contest_ids}
use Rattle.ballots.specs.declared.limits.TheConstants.{MOST_CONTESTS}
use Rattle.ballot_reader.specs.declared.wanted.Wanted.TheVariants.{VotesOf}

-- the contests of a file, the place of the one whose votes are kept, the data kept for the ballots, and the number of the record that comes next
pub record BegunFile : Type 0 where
  pub contests : List Contest
  pub audited : ℕ
  pub kept : KeptBallots
  pub at : ℕ

-- the contests are of one file, and some ballots are kept
pub record IsBegun (begun : BegunFile) : Type 0 where
  pub few : length begun.contests ≤ MOST_CONTESTS
  pub differ : IsTrue (all_differ (contest_ids begun.contests))
  pub there : (chosen : Contest) × (slice_get begun.contests begun.audited ≡ Some chosen)
  pub kept : (ballots : List Ballot)
      × IsKeptUpTo begun.contests (VotesOf begun.audited) ballots begun.at begun.kept

-- The contests are read from these records, and then these ballots. Whatever records follow, what the file says of the chosen contest is
-- what these ballots and the ones that follow say.
pub record IsReadSoFar
    (asked : Option Id) (rows : List Fields) (begun : BegunFile) (chosen : Contest)
    (ballots : List Ballot) : Type 0 where
  pub there : slice_get begun.contests begun.audited ≡ Some chosen
  pub up_to : IsKeptUpTo begun.contests (VotesOf begun.audited) ballots begun.at begun.kept
  pub says : (more : List Fields) → ballots_from asked (rows ++ more)
      ≡ then_on (ballots_after begun.contests ballots begun.at more)
      (λ ballots. Ok (file_of chosen ballots))

-- some ballots have been read in this way
abbrev pub HasBegun : Option Id → List Fields → BegunFile → Type 0
HasBegun asked rows begun =
    (chosen : Contest) × (ballots : List Ballot) × IsReadSoFar asked rows begun chosen ballots
