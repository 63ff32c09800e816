-- A command as the files that it reads, in order, and what it ends with.
use Rattle.std.specs.Prelude.{◌≡◌, ◌⊎◌, ℕ, suc, List, length, Contains, Option, None, Some, MatchOption, ◌≢◌, nat_le, if◌then◌else◌, ⊤}
use Rattle.irv_base.specs.declared.limits.TheConstants.{MOST_FILE_BYTES}
use Rattle.desk.specs.Desk.{File, held_bytes}
use Rattle.cli_base.specs.Outcome.{Outcome, Verdict, Answered, Refused, outcome, bad_words, read_fault, out_of_memory, too_long, no_such_file}
use Rattle.cli_base.specs.declared.outcome.AnswerKind.{AnswerKind}

-- how the reading of a file ends
pub data Reading : Type 0 where
  Bytes : List ℕ → Reading
  Missing : Reading
  TooLong : Reading
  Fault : Reading

-- Reads a file whole and continues with its bytes, or ends with one of these verdicts.
pub data Script : Type 1 where
  Read : List ℕ → (List ℕ → Script) → Script
  Ends : (Verdict → Type 0) → Script

-- the script that ends with this verdict
abbrev pub ends : Verdict → Script
ends verdict = Ends (λ v. v ≡ verdict)

-- the greatest length of a file
abbrev pub limit : ℕ
limit = MOST_FILE_BYTES

-- how the reading of what a desk holds ends
abbrev pub reading_of : Option (List ℕ) → Reading
reading_of None = Missing
reading_of (Some bytes) = if nat_le (length bytes) limit then Bytes bytes else TooLong

-- the possible readings of a name
abbrev pub Readings : Type 1
Readings = List ℕ → Reading → Type 0

-- the readings of a desk that reports which files it holds; there is one for each name, held or not
abbrev pub AsHeld : List File → Readings
AsHeld files name reading = reading ≡ reading_of (held_bytes name files)

-- the readings of the files that a desk reports it holds; if it doesn't report them, any reading except a fault
abbrev pub AsTold : Option (List File) → Readings
AsTold held name reading = MatchOption held (reading ≢ Fault) (λ files. AsHeld files name reading)

-- the readings of a desk, which may have failed
abbrev pub ByDesk : Option (List File) → Type 0 → Readings
ByDesk held failed name reading = AsTold held name reading ⊎ ((reading ≡ Fault) × failed)

-- the outcome of a reading that isn't of bytes
abbrev pub stop_of : List ℕ → Reading → Option Outcome
stop_of name (Bytes bytes) = None
stop_of name Missing = Some (no_such_file name)
stop_of name TooLong = Some (too_long name)
stop_of name Fault = Some (read_fault name)

-- a file may be read, and may stop the call with this outcome
abbrev pub MayStop : Readings → List ℕ → Outcome → Type 0
MayStop readings name due =
    (reading : Reading) × readings name reading × (stop_of name reading ≡ Some due)

-- A script may end with this outcome, given the possible readings.
abbrev pub May : Readings → Script → Outcome → Type 0
May readings (Ends verdicts) due = (verdict : Verdict) × verdicts verdict × (due ≡ outcome verdict)
May readings (Read name next) due =
    MayStop readings name due
    ⊎ ((bytes : List ℕ) × readings name (Bytes bytes) × May readings (next bytes) due)

-- A script may end with this outcome once it has begun this many files, each once. Either all of them are read, or the last one stops it.
abbrev pub MayAfter : Readings → Script → ℕ → Outcome → Type 0
MayAfter readings (Ends verdicts) files due = (files ≡ 0) × May readings (Ends verdicts) due
MayAfter readings (Read name next) files due =
    ((files ≡ 1) × MayStop readings name due)
    ⊎ ((more : ℕ) × (files ≡ suc more) × (bytes : List ℕ) × readings name (Bytes bytes)
    × MayAfter readings (next bytes) more due)

-- A script gets to read this file, after it has read all files before it.
abbrev pub Reaches : Readings → Script → List ℕ → Type 0
Reaches readings (Ends verdicts) name = ⊥
Reaches readings (Read first next) name =
    (first ≡ name)
    ⊎ ((bytes : List ℕ) × readings first (Bytes bytes) × Reaches readings (next bytes) name)

-- A script gets to read this file as its n-th, after it has read all files before it.
abbrev pub ReachesAs : Readings → Script → ℕ → List ℕ → Type 0
ReachesAs readings (Ends verdicts) n name = ⊥
ReachesAs readings (Read first next) n name =
    ((n ≡ 1) × (first ≡ name))
    ⊎ ((more : ℕ) × (n ≡ suc more) × (bytes : List ℕ) × readings first (Bytes bytes)
    × ReachesAs readings (next bytes) more name)

-- A script reads all its files, and may end with this verdict.
abbrev pub Concludes : Readings → Script → Verdict → Type 0
Concludes readings (Ends verdicts) verdict = verdicts verdict
Concludes readings (Read name next) verdict =
    (bytes : List ℕ) × readings name (Bytes bytes) × Concludes readings (next bytes) verdict

-- ---- what the words of a call ask for

-- the words aren't a line, or a command is run
pub data Asked : Type 1 where
  Nothing : Asked
  Runs : Script → Asked

-- What is asked for may end with this outcome, given the possible readings.
abbrev pub MayCome : Readings → Asked → Outcome → Type 0
MayCome readings Nothing due = due ≡ bad_words
MayCome readings (Runs script) due = May readings script due

-- What is asked for may end with this outcome, once this many files are begun.
abbrev pub MayComeAfter : Readings → Asked → ℕ → Outcome → Type 0
MayComeAfter readings Nothing files due = (files ≡ 0) × (due ≡ bad_words)
MayComeAfter readings (Runs script) files due = MayAfter readings script files due

-- what is asked for may end with this outcome, or memory runs out
abbrev pub IsDue : Readings → Asked → Outcome → Type 0
IsDue readings asked due = MayCome readings asked due ⊎ (due ≡ out_of_memory)

-- a command is run that gets to read this file, after it has read all files before it
abbrev pub ComesToRead : Readings → Asked → List ℕ → Type 0
ComesToRead readings Nothing name = ⊥
ComesToRead readings (Runs script) name = Reaches readings script name

-- a command is run that gets to read this file as its n-th, after it has read all files before it
abbrev pub ComesToReadAs : Readings → Asked → ℕ → List ℕ → Type 0
ComesToReadAs readings Nothing n name = ⊥
ComesToReadAs readings (Runs script) n name = ReachesAs readings script n name

-- a command is run that reads all its files, and may end with this verdict
abbrev pub ComesTo : Readings → Asked → Verdict → Type 0
ComesTo readings Nothing verdict = ⊥
ComesTo readings (Runs script) verdict = Concludes readings script verdict

-- ---- one end

-- any two verdicts that a script may conclude with agree by R
abbrev pub Agree : (Outcome → Outcome → Type 0) → Script → Type 0
Agree R (Ends verdicts) = (v w : Verdict) → verdicts v → verdicts w → R (outcome v) (outcome w)
Agree R (Read name next) = (bytes : List ℕ) → Agree R (next bytes)

abbrev pub AgreeOn : (Outcome → Outcome → Type 0) → Asked → Type 0
AgreeOn R Nothing = ⊤
AgreeOn R (Runs script) = Agree R script

abbrev pub Same : Outcome → Outcome → Type 0
Same due other = due ≡ other

-- the outcomes have the same status, whatever is written
abbrev pub SameStatus : Outcome → Outcome → Type 0
SameStatus due other = due.status ≡ other.status

-- an answer, a tie, a full count, or a budget that ran out before one of these was found
abbrev pub IsBudgeted : ℕ → Type 0
IsBudgeted status = (status ≡ 0) ⊎ (status ≡ 3) ⊎ (status ≡ 4) ⊎ (status ≡ 5)

-- a budget made one end differ from the other
abbrev pub OneIsSpent : Outcome → Outcome → Type 0
OneIsSpent due other =
    IsBudgeted due.status × IsBudgeted other.status × ((due.status ≡ 4) ⊎ (other.status ≡ 4))

-- both ends are the same, except for a budget
abbrev pub SameButBudget : Outcome → Outcome → Type 0
SameButBudget due other = Same due other ⊎ OneIsSpent due other

-- both ends have the same status, except for a budget
abbrev pub SameStatusButBudget : Outcome → Outcome → Type 0
SameStatusButBudget due other = SameStatus due other ⊎ OneIsSpent due other

-- what an audit of several contests may end with, once its files are read
abbrev pub IsOfContests : ℕ → Type 0
IsOfContests status = (status ≡ 0) ⊎ (status ≡ 2) ⊎ (status ≡ 10)

-- both ends are the same, except that a budget may run out in some contest
abbrev pub SameButContests : Outcome → Outcome → Type 0
SameButContests due other =
    Same due other ⊎ (IsOfContests due.status × IsOfContests other.status)

-- ---- the kinds of answer that a script may conclude with

abbrev pub IsOfKind : List AnswerKind → Verdict → Type 0
IsOfKind kinds (Answered kind text) = Contains kinds kind
IsOfKind kinds (Refused name text) = ⊤

abbrev pub AreOfKind : List AnswerKind → Script → Type 0
AreOfKind kinds (Ends verdicts) = (v : Verdict) → verdicts v → IsOfKind kinds v
AreOfKind kinds (Read name next) = (bytes : List ℕ) → AreOfKind kinds (next bytes)
