-- The laws of the grammar. A file of one contest that is spelled record by record is read as what it spells. All contests of a file are
-- read as each of them is.
use Rattle.std.specs.Prelude.{◌≡◌, ◌≤◌, ℕ, List, [], ◌∷◌, map, length, slice_index_or, Option, Some, None, Result, Ok, Err, IsTrue, codes, decimal}
use Rattle.std.specs.List.{Contains, list_all, range_with_len}
use Rattle.csv_rows.specs.Fields.{numbered_records}
use Rattle.csv_rows.specs.Rows.{Fields}
use Rattle.irv_base.specs.Names.{Id, is_name}
use Rattle.ballots.specs.Ballots.{BallotFile, IsSound}
use Rattle.ballots.specs.Grammar.{Contest, ballots_from, ballots_of, contest_count, contests_in, contests_of}
use Rattle.file_fault.specs.Refusals.{Refusal, refused}
use Rattle.ballots.specs.declared.fault.BRule.{BRule}
use Rattle.ballots.specs.declared.fault.BRule.TheVariants.{B1, B5}

abbrev pub id_of : List Id → ℕ → Id
id_of candidates c = slice_index_or candidates c []

-- each ballot is a record of the contest's id, its own id, and the ids of the candidates that it ranks
abbrev pub ballot_records : Id → List Id → List Id → List (List ℕ) → List Fields
ballot_records contest candidates [] rankings = []
ballot_records contest candidates (id ∷ ids) [] = []
ballot_records contest candidates (id ∷ ids) (ranking ∷ rankings) =
    (contest ∷ id ∷ map (id_of candidates) ranking) ∷ ballot_records contest candidates ids rankings

abbrev pub spelling : BallotFile → List Fields
spelling file =
    (decimal 1 ∷ [])
    ∷ (codes "Contest" ∷ file.contest ∷ decimal (length file.candidates) ∷ file.candidates)
    ∷ ballot_records file.contest file.candidates file.ids file.rankings

-- the first ballot is in the third record
pub record HasSpelling (file : BallotFile) : Type 0 where
  pub sound : IsSound file
  pub contest_named : IsTrue (is_name file.contest)
  pub candidates_named : IsTrue (list_all is_name file.candidates)
  pub ids_named : IsTrue (list_all is_name file.ids)
  pub in_order : file.places ≡ range_with_len 3 (length file.ids)

abbrev pub WhatIsSpelledIsRead : Type 0
WhatIsSpelledIsRead =
    (file : BallotFile) → HasSpelling file → ballots_from None (spelling file) ≡ Ok file

-- ---- all contests of a file

abbrev pub listed_behind : Option ℕ → List Fields → Result (List Contest) (Refusal BRule)
listed_behind None rows = refused B1 1
listed_behind (Some n) rows = contests_in n [] 2 rows

abbrev pub listed_from : List Fields → Result (List Contest) (Refusal BRule)
listed_from [] = refused B1 1
listed_from (first ∷ rows) = listed_behind (contest_count first) rows

-- the contests that a file lists in front of its ballots
abbrev pub contests_listed : List ℕ → Result (List Contest) (Refusal BRule)
contests_listed bytes = listed_from (numbered_records bytes)

-- the refusal of one of these contests, none of which is refused at an earlier record
pub record IsFirstRefusal
    (said : Option Id → Result BallotFile (Refusal BRule)) (contests : List Contest)
    (refusal : Refusal BRule) : Type 0 where
  pub contest : Contest
  pub there : Contains contests contest
  pub refuses : said (Some contest.id) ≡ Err refusal
  pub first : (other : Contest) (later : Refusal BRule) → Contains contests other →
      said (Some other.id) ≡ Err later → refusal.at ≤ later.at

-- What a file says of all contests is what it says of each by its id: the files in order, or the first refusal. If the contests aren't
-- listed, it is the refusal of their list.
abbrev pub IsOfEach :
    (Option Id → Result BallotFile (Refusal BRule)) → Result (List Contest) (Refusal BRule) →
    Result (List BallotFile) (Refusal BRule) → Type 0
IsOfEach said (Err refusal) all =
    (all ≡ Err refusal) × ((asked : Option Id) → said asked ≡ Err refusal)
IsOfEach said (Ok contests) (Ok files) =
    map (λ contest. said (Some contest.id)) contests ≡ map Ok files
IsOfEach said (Ok contests) (Err refusal) = IsFirstRefusal said contests refusal

abbrev pub ContestsAreEach : Type 0
ContestsAreEach =
    (bytes : List ℕ) → IsOfEach (ballots_of bytes) (contests_listed bytes) (contests_of bytes)

-- no contest that the file lists is missed
abbrev pub NoneIsMissed : Type 0
NoneIsMissed = (bytes : List ℕ) (at : ℕ) → contests_of bytes ≡ refused B5 at → ⊥
