-- How far a ballot file that comes in pieces has been read.
use Rattle.std.specs.Prelude.{◌≡◌, ◌≤◌, ℕ, List, [], ◌++◌, length, IsTrue, Option, Err, ⊤}
use Rattle.csv_rows.specs.Fields.{numbered_records}
use Rattle.csv_rows.specs.Pieces.{AtHand, IsBehind, can_be_read}
use Rattle.csv_rows.specs.Rows.{Fields}
use Rattle.file_fault.specs.Refusals.{Refusal, Refuses}
use Rattle.file_fault.specs.declared.fault.Fault.TheVariants.{Memory}
use Rattle.irv_base.specs.Names.{Id}
use Rattle.ballot_reader.specs.Begun.{HasBegun}
use Rattle.ballots.specs.Grammar.{ballots_from, ballots_of}
use Rattle.ballots.specs.declared.fault.BRule.{BRule}
use Rattle.ballot_reader.specs.declared.stage.Stage.{Stage}
use Rattle.ballot_reader.specs.declared.stage.TheConstants.{MOST_OF_CONTESTS}
use Rattle.ballot_reader.specs.declared.stage.Stage.TheVariants.{Contests, Ballots, Refused}

-- These records were read. Once one of them is refused, so is the file, whatever follows.
abbrev pub HasReached : Option Id → List Fields → Stage → Type 0
HasReached asked rows Contests = rows ≡ []
HasReached asked rows (Ballots begun) = HasBegun asked rows begun
HasReached asked rows (Refused fault) =
    (more : List Fields) → Refuses (ballots_from asked (rows ++ more)) fault

-- memory has run out
abbrev pub IsShort : Stage → Type 0
IsShort stage = stage ≡ Refused Memory

-- the contest that is asked for, the number of bytes of whole lines that may wait for more, the available part of the file, and how far the
-- file has been read
pub record VotesSoFar : Type 0 where
  pub asked : Option Id
  pub holds : ℕ
  pub at_hand : AtHand
  pub stage : Stage

-- some records of these bytes were read, and the available part comes after these
abbrev pub HasRead : VotesSoFar → List ℕ → Type 0
HasRead reader bytes =
    (rows : List Fields) × IsBehind bytes rows reader.at_hand
    × HasReached reader.asked rows reader.stage

abbrev IsAt : VotesSoFar → List ℕ → Stage → Type 0
IsAt reader bytes Contests = HasRead reader bytes
IsAt reader bytes (Ballots begun) = HasRead reader bytes
IsAt reader bytes (Refused fault) =
    (more : List ℕ) → Refuses (ballots_of (bytes ++ more) reader.asked) fault

-- these bytes were taken; if they are refused, the available part is unknown
abbrev pub HasTaken : VotesSoFar → List ℕ → Type 0
HasTaken reader bytes = IsAt reader bytes reader.stage

-- ---- what is held of the file

-- a file of only these records would be refused: a record of a contest is still to come, or a record is refused
abbrev pub LacksContests : Option Id → List Fields → Type 0
LacksContests asked rows = (refusal : Refusal BRule) × (ballots_from asked rows ≡ Err refusal)

-- Of the whole lines that can be read, only these are held: before the contests are read, lines that would be refused as a file, or many lines;
-- after that, a few lines, which wait for more. If the file is refused, this says nothing.
abbrev pub HoldsLittle : Option Id → ℕ → List ℕ → Stage → Type 0
HoldsLittle asked holds lines Contests =
    IsTrue (can_be_read lines) → length lines ≤ MOST_OF_CONTESTS →
    LacksContests asked (numbered_records lines)
HoldsLittle asked holds lines (Ballots begun) =
    IsTrue (can_be_read lines) → length lines ≤ holds
HoldsLittle asked holds lines (Refused fault) = ⊤

-- little is held of the whole lines that can be read
abbrev pub HasPassed : VotesSoFar → Type 0
HasPassed reader = HoldsLittle reader.asked reader.holds reader.at_hand.lines reader.stage
