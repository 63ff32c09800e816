-- Ballots that are read at the same time: parts of a file, each read as if no ballots came before it.
use Rattle.std.specs.Prelude.{◌≡◌, ◌≤◌, ◌+◌, ◌++◌, [], ℕ, List, length, IsTrue, Option, None, Some, option_map, Result, Ok, IfOk, IfErr}
use Rattle.std.specs.List.{slice_get}
use Rattle.csv_rows.specs.Rows.{Fields}
use Rattle.file_fault.specs.Refusals.{Refuses}
use Rattle.file_fault.specs.declared.fault.Fault.{Fault}
use Rattle.irv_base.specs.Names.{Id, all_differ}
use Rattle.irv_base.specs.declared.limits.TheConstants.{MOST_RECORDS}
use Rattle.ballots.specs.Grammar.{Ballot, Contest, ballots_after}
use Rattle.ballot_reader.specs.Kept.{IsKept, IsKeptUpTo, KeptBallots, KeptPart, WantsAudited, contest_ids}
use Rattle.ballot_ids.specs.Noted.{AreNoted}
use Rattle.ballot_ids.specs.Joined.{ArePagesApart}
use Rattle.ballots.specs.declared.fault.BRule.{BRule}
use Rattle.ballots.specs.declared.limits.TheConstants.{MOST_CONTESTS}
use Rattle.ballot_ids.specs.declared.noted.Noted.{Noted}
use Rattle.ballot_reader.specs.declared.wanted.Wanted.{Wanted}
use Rattle.ballot_reader.specs.declared.wanted.Wanted.TheVariants.{VotesOf}

-- ---- what is read

-- these contests are a file's, and the votes of the contest at a place can be kept
pub record CanBeRead (contests : List Contest) (audited : ℕ) : Type 0 where
  pub few : length contests ≤ MOST_CONTESTS
  pub differ : IsTrue (all_differ (contest_ids contests))
  pub sized : WantsAudited contests (VotesOf audited)

-- these records are ballots, if nothing comes before them, and this is the data kept for them
abbrev pub IsReadAlone : List Contest → Wanted → List Fields → KeptBallots → Type 0
IsReadAlone contests wanted rows kept =
    (ballots : List Ballot)
    × (ballots_after contests [] (2 + length contests) rows ≡ Ok ballots)
    × IsKept contests wanted ballots kept

-- after these ballots, the records from number at on are ballots, and this is the data kept for all of them, up to record next
abbrev pub IsReadBehind :
    List Contest → Wanted → List Ballot → ℕ → List Fields → ℕ → KeptBallots → Type 0
IsReadBehind contests wanted earlier at rows next kept =
    (ballots : List Ballot)
    × (ballots_after contests earlier at rows ≡ Ok ballots)
    × IsKeptUpTo contests wanted ballots next kept

-- whatever ballots were kept up to record number first, the ballots in these records come after them
abbrev pub ComeBehind :
    List Contest → Wanted → ℕ → List Fields → KeptBallots → ℕ → KeptBallots → Type 0
ComeBehind contests wanted first rows before next after =
    (earlier : List Ballot) → IsKeptUpTo contests wanted earlier first before →
    IsReadBehind contests wanted earlier first rows next after

-- after them a record is refused
abbrev pub IsRefusedBehind :
    List Contest → Wanted → ℕ → List Fields → KeptBallots → Fault BRule → Type 0
IsRefusedBehind contests wanted first rows before fault =
    (earlier : List Ballot) → IsKeptUpTo contests wanted earlier first before →
    Refuses (ballots_after contests earlier first rows) fault

-- the result of keeping the ballots in these records after those that were kept: the number of the record that comes next, or why a record
-- is refused
abbrev pub IsAnswer :
    List Contest → ℕ → ℕ → List Fields → KeptBallots → KeptBallots → Result ℕ (Fault BRule) → Type 0
IsAnswer contests audited first rows before after answer =
    IfOk answer (λ next. ComeBehind contests (VotesOf audited) first rows before next after)
    × IfErr answer (λ fault. IsRefusedBehind contests (VotesOf audited) first rows before fault)

-- this is the data kept for ballots that were read on their own, put after the data kept for others: if the others went up to a record, these
-- come after them
abbrev pub IsKeptBehind : KeptBallots → KeptBallots → KeptBallots → Type 0
IsKeptBehind before part after =
    (contests : List Contest) (audited : ℕ) (earlier : List Ballot) (at : ℕ) (rows : List Fields) →
    IsKeptUpTo contests (VotesOf audited) earlier at before →
    IsReadAlone contests (VotesOf audited) rows part →
    IsReadBehind contests (VotesOf audited) earlier at rows (at + part.count) after

-- ---- what can be put together

-- for each contest, it is known that no id was met in both
abbrev pub AreMetApart : List Noted → List Noted → Type 0
AreMetApart own its =
    (place : ℕ) (met more : Noted) → slice_get own place ≡ Some met →
    slice_get its place ≡ Some more → ArePagesApart met more

-- the number of candidates for which ballots are counted, if there is a part and they are
abbrev pub form_of : Option KeptPart → Option ℕ
form_of None = None
form_of (Some part) = part.counted

-- for each contest, ballots are counted in both for the same number of candidates, or in neither
abbrev pub AreAlike : List (Option KeptPart) → List (Option KeptPart) → Type 0
AreAlike own its =
    (place : ℕ) (before part : Option KeptPart) → slice_get own place ≡ Some before →
    slice_get its place ≡ Some part → form_of part ≡ form_of before

-- the data kept for some ballots can be put after the data kept for others
pub record CanJoin (kept part : KeptBallots) : Type 0 where
  pub met_each : length part.met ≡ length kept.met
  pub part_each : length part.parts ≡ length kept.parts
  pub apart : AreMetApart kept.met part.met
  pub alike : AreAlike kept.parts part.parts
  pub few : kept.count + part.count ≤ MOST_RECORDS

-- ---- what is put together

-- each element is put together with the one at the same place in another list
pub record AreTogether
    (X : Type 0) (Both : X → X → X → Type 0) (own its all : List X) : Type 0 where
  pub same : length all ≡ length own
  pub each : (place : ℕ) (before part both : X) → slice_get own place ≡ Some before →
      slice_get its place ≡ Some part → slice_get all place ≡ Some both → Both before part both

-- the ids of both were met
abbrev pub IsJoined : Noted → Noted → Noted → Type 0
IsJoined before part both =
    (own its : List Id) → AreNoted own before → AreNoted its part → AreNoted (own ++ its) both

-- for each contest, the ids of both were met
abbrev pub AreJoined : List Noted → List Noted → List Noted → Type 0
AreJoined own its all = AreTogether Noted IsJoined own its all

-- with these rankings after its own
abbrev pub with_rankings : KeptPart → List (List ℕ) → KeptPart
with_rankings part rankings =
    record { origins = part.origins; counted = part.counted; rankings = part.rankings ++ rankings }

-- the data kept for more ballots of a contest, if their origin isn't kept, put after the data kept for others
abbrev pub part_behind : Option KeptPart → Option KeptPart → Option KeptPart
part_behind None before = before
part_behind (Some part) before = option_map (λ own. with_rankings own part.rankings) before

abbrev pub IsPutBehind : Option KeptPart → Option KeptPart → Option KeptPart → Type 0
IsPutBehind before part both = both ≡ part_behind part before

-- each contest's part, put after another one of the same contest
abbrev pub ArePutBehind :
    List (Option KeptPart) → List (Option KeptPart) → List (Option KeptPart) → Type 0
ArePutBehind own its all = AreTogether (Option KeptPart) IsPutBehind own its all
