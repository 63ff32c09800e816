-- When a call ends with each status, and what the sinks took in that case.
use Rattle.std.specs.Prelude.{◌≡◌, ◌≢◌, ◌⊎◌, ℕ, List, Option, IfSome, ⊤}
use Rattle.desk.specs.Desk.{File}
use Rattle.desk.specs.declared.served.Served.{Served}
use Rattle.cli_base.specs.Begun.{HasBegun, HasCome}
use Rattle.cli_base.specs.Outcome.{Outcome, status_of, Answered, Refused, read_fault, out_of_memory}
use Rattle.cli_base.specs.Script.{Asked, Nothing, Runs, Readings, Reading, TooLong, Missing, ByDesk, AsHeld, AsTold, MayCome, ComesToRead, ComesToReadAs, ComesTo, IsOfContests}
use Rattle.cli_base.specs.Ends.{Writing, Took, TookPrefix, Failed, HasNewFaults}
use Rattle.cli_base.specs.declared.outcome.AnswerKind.{AnswerKind}
use Rattle.cli_base.specs.declared.outcome.AnswerKind.TheVariants.{Done, Tie, Spent, FullCount, Differs, Unconfirmed}

-- 7, 8 and 9: a fault of the desk, a fault of a sink, or memory ran out
abbrev pub IsUndone : ℕ → Type 0
IsUndone status = (status ≡ 7) ⊎ (status ≡ 8) ⊎ (status ≡ 9)

-- the statuses whose text goes only to `err`
abbrev pub IsForErr : ℕ → Type 0
IsForErr status =
    (status ≡ 1) ⊎ (status ≡ 2) ⊎ (status ≡ 7) ⊎ (status ≡ 9) ⊎ (status ≡ 11) ⊎ (status ≡ 12)

-- the possible statuses
abbrev pub IsStatus : ℕ → Type 0
IsStatus status = IsForErr status ⊎ (status ≡ 8) ⊎ ((kind : AnswerKind) × (status ≡ status_of kind))

-- no count of faults rose during the call, and no count is at the last u64
pub record IsQuiet (failed : Type 0) (out err : Writing) : Type 0 where
  pub desk : failed → ⊥
  pub sink_out : Failed out → ⊥
  pub sink_err : Failed err → ⊥

-- ---- what is defined

-- The status is defined for what is asked and for the files, and the sinks took texts that are defined together with it. If the desk
-- doesn't report its files, they are some files that it may have given.
abbrev pub IsDefined : Asked → Option (List File) → ℕ → Writing → Writing → Type 0
IsDefined asked held status out err =
    (to_out to_err : List ℕ)
    × MayCome (AsTold held) asked (record { status = status; out = to_out; err = to_err })
    × Took out to_out × Took err to_err

-- The call ends with the defined status and texts, or undone. If no count of faults rose, it is undone only if memory ran out.
pub record IsAnswered (asked : Asked) (held : Option (List File)) (failed : Type 0) (status : ℕ)
    (out err : Writing) : Type 0 where
  pub quiet : IsQuiet failed out err → status ≢ 9 → IsDefined asked held status out err
  pub otherwise : IsUndone status ⊎ IsDefined asked held status out err

-- ---- causes

-- The call ends with this status only if the cause holds. If the cause holds, the call ends with this status or undone.
abbrev pub Exactly : ℕ → ℕ → Type 0 → Type 0
Exactly status result cause =
    (result ≡ status → cause) × (cause → (result ≡ status) ⊎ IsUndone result)

-- The call ends with this status only if the cause holds. If the cause holds, the call ends with this status, undone, or out of budget.
abbrev pub ExactlyInBudget : ℕ → ℕ → Type 0 → Type 0
ExactlyInBudget status result cause =
    (result ≡ status → cause) × (cause → (result ≡ status) ⊎ (result ≡ 4) ⊎ IsUndone result)

-- The same for an audit of several contests. If the cause holds, the budget of a contest may run out, so the call may end with any status
-- that an audit of several contests may end with, or undone.
abbrev pub ExactlyInContests : ℕ → ℕ → Type 0 → Type 0
ExactlyInContests status result cause =
    (result ≡ status → cause) × (cause → IsOfContests result ⊎ IsUndone result)

abbrev pub IsNothing : Asked → Type 0
IsNothing Nothing = ⊤
IsNothing (Runs script) = ⊥

-- a file that the command gets to read has this reading
abbrev pub HasFile : Asked → List File → Reading → Type 0
HasFile asked files reading =
    (name : List ℕ) × ComesToRead (AsHeld files) asked name × AsHeld files name reading

-- a rule refuses what a file holds
abbrev pub IsRefused : Asked → List File → Type 0
IsRefused asked files = (name text : List ℕ) × ComesTo (AsHeld files) asked (Refused name text)

-- there is an answer of this kind
abbrev pub HasAnswer : Asked → List File → AnswerKind → Type 0
HasAnswer asked files kind = (text : List ℕ) × ComesTo (AsHeld files) asked (Answered kind text)

-- the sinks took the texts of an outcome
abbrev pub TookTexts : Outcome → Writing → Writing → Type 0
TookTexts due out err = Took out due.out × Took err due.err

-- The desk failed at a file that the command reads, which is the last one that was begun. If the desk reports its files, it holds all files
-- before this one, and the command continued after each of them.
pub record IsReadFault (asked : Asked) (held : Option (List File)) (failed : Type 0)
    (before after : Served) (out err : Writing) : Type 0 where
  pub cause : failed
  pub files : ℕ
  pub begun : HasBegun files before after
  pub name : List ℕ
  pub reached : ComesToReadAs (AsTold held) asked files name
  pub texts : TookTexts (read_fault name) out err

-- A write failed. The sinks took prefixes of what was due.
pub record IsWriteFault (readings : Readings) (before after : Served) (asked : Asked)
    (out err : Writing) : Type 0 where
  pub cause : Failed out ⊎ Failed err
  pub due : Outcome
  pub come : HasCome readings before after asked due
  pub to_out : TookPrefix out due.out
  pub to_err : TookPrefix err due.err

pub record Statuses (asked : Asked) (held : Option (List File)) (failed : Type 0)
    (before after : Served) (status : ℕ) (out err : Writing) : Type 0 where
  -- there is no other status
  pub known : IsStatus status
  pub done : IfSome held (λ files. ExactlyInBudget 0 status (HasAnswer asked files Done))
  pub bad_words : Exactly 1 status (IsNothing asked)
  pub refused : IfSome held (λ files. Exactly 2 status (IsRefused asked files))
  pub tie : IfSome held (λ files. ExactlyInBudget 3 status (HasAnswer asked files Tie))
  pub spent : IfSome held (λ files. status ≡ 4 → HasAnswer asked files Spent)
  pub full_count : IfSome held (λ files. ExactlyInBudget 5 status (HasAnswer asked files FullCount))
  pub differs : IfSome held (λ files. Exactly 6 status (HasAnswer asked files Differs))
  pub read_fault : status ≡ 7 → IsReadFault asked held failed before after out err
  pub write_fault : status ≡ 8 → IsWriteFault (ByDesk held failed) before after asked out err
  -- no failed write is ignored
  pub write_told : HasNewFaults out ⊎ HasNewFaults err → status ≡ 8
  -- memory may run out at any time
  pub memory : status ≡ 9 → TookTexts out_of_memory out err
  pub unconfirmed : IfSome held (λ files. Exactly 10 status (HasAnswer asked files Unconfirmed))
  pub too_long : IfSome held (λ files. Exactly 11 status (HasFile asked files TooLong))
  pub missing : IfSome held (λ files. Exactly 12 status (HasFile asked files Missing))

-- For a command whose answer no budget leaves open, each kind of answer is given exactly if it follows from the files.
abbrev pub IsExact : Asked → Option (List File) → ℕ → Type 0
IsExact asked held status =
    IfSome held (λ files. (kind : AnswerKind) →
    Exactly (status_of kind) status (HasAnswer asked files kind))

-- The statuses of an audit of several contests.
pub record ContestsStatuses (asked : Asked) (held : Option (List File)) (failed : Type 0)
    (before after : Served) (status : ℕ) (out err : Writing) : Type 0 where
  pub known : IsStatus status
  pub done : IfSome held (λ files. ExactlyInContests 0 status (HasAnswer asked files Done))
  pub refused : IfSome held (λ files. ExactlyInContests 2 status (IsRefused asked files))
  pub unconfirmed : IfSome held (λ files.
      ExactlyInContests 10 status (HasAnswer asked files Unconfirmed))
  pub read_fault : status ≡ 7 → IsReadFault asked held failed before after out err
  pub write_fault : status ≡ 8 → IsWriteFault (ByDesk held failed) before after asked out err
  pub write_told : HasNewFaults out ⊎ HasNewFaults err → status ≡ 8
  pub memory : status ≡ 9 → TookTexts out_of_memory out err
  pub too_long : IfSome held (λ files. Exactly 11 status (HasFile asked files TooLong))
  pub missing : IfSome held (λ files. Exactly 12 status (HasFile asked files Missing))
