-- What a file that the words name holds and says.
use Rattle.std.specs.Prelude.{◌≡◌, ◌≤◌, ℕ, List, length, Option, Some, Result, Ok}
use Rattle.desk.specs.Desk.{File, held_bytes}
use Rattle.irv_base.specs.Names.{Id}
use Rattle.ballots.specs.Ballots.{BallotFile}
use Rattle.ballots.specs.Grammar.{ballots_of}
use Rattle.assertion_file.specs.Content.{Content}
use Rattle.assertion_file.specs.Reading.{assertion_file_of}
use Rattle.claims_file.specs.Claimed.{Claimed}
use Rattle.claims_file.specs.Reading.{claims_of}
use Rattle.cli_base.specs.Script.{limit}

-- a file with this name is held and not too long, and this value is read from it
pub record Says {A Why : Type 0} (files : List File) (name : List ℕ)
    (read : List ℕ → Result A Why) (value : A) : Type 0 where
  pub bytes : List ℕ
  pub held : held_bytes name files ≡ Some bytes
  pub is_short : length bytes ≤ limit
  pub is : read bytes ≡ Ok value

-- a ballot file says this about the contest
abbrev pub AreBallots : List File → List ℕ → Option Id → BallotFile → Type 0
AreBallots files name contest ballots =
    Says files name (λ bytes. ballots_of bytes contest) ballots

-- the two files of a check or a trim say this
pub record AreChecked (files : List File) (name assertions : List ℕ) (contest : Option Id)
    (ballots : BallotFile) (file : Content) : Type 0 where
  pub of_ballots : AreBallots files name contest ballots
  pub of_assertions : Says files assertions assertion_file_of file

-- the two files of an adoption say this
pub record AreClaimed (files : List File) (name claims : List ℕ) (contest : Option Id)
    (ballots : BallotFile) (claimed : Claimed) : Type 0 where
  pub of_ballots : AreBallots files name contest ballots
  pub of_claims : Says files claims (claims_of ballots.contest ballots.candidates) claimed
