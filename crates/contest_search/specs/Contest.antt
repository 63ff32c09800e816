-- The contest that is searched: its winner, and its first tie.
use Rattle.std.specs.Prelude.{◌≢◌, ◌≤◌, ◌<◌, ℕ, length}
use Rattle.irv_base.specs.Tabulation.{AllElect, IsDecided, IsFirstTie}
use Rattle.ballots.specs.Ballots.{BallotFile}
use Rattle.cover_checker.specs.Outcomes.{IsWinner}

abbrev pub candidate_count : BallotFile → ℕ
candidate_count ballots = length ballots.candidates

-- ---- a winner

-- the tabulated order elects this candidate
abbrev pub IsWon : BallotFile → ℕ → Type 0
IsWon ballots winner = IsWinner (candidate_count ballots) ballots.rankings winner

-- each way of breaking the ties of the contest elects this candidate
abbrev pub IsElected : BallotFile → ℕ → Type 0
IsElected ballots winner = AllElect (candidate_count ballots) ballots.rankings winner

-- some ways of breaking the ties of the contest elect one candidate, and some elect another
abbrev pub IsUndecided : BallotFile → Type 0
IsUndecided ballots = IsDecided (candidate_count ballots) ballots.rankings → ⊥

-- a candidate who isn't the winner
pub record IsOther (ballots : BallotFile) (winner c : ℕ) : Type 0 where
  pub candidate : c < candidate_count ballots
  pub other : c ≢ winner

-- ---- a tie

-- the contest isn't decided; its first tie is in this round, among this set of candidates who share the smallest tally, with that tally
pub record IsTie (ballots : BallotFile) (round tied votes : ℕ) : Type 0 where
  pub counted : 1 ≤ round
  pub first : IsFirstTie (candidate_count ballots) ballots.rankings round tied votes
  pub undecided : IsUndecided ballots
