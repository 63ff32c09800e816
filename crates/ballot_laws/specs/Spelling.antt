-- What the records of a ballot file spell.
use Rattle.std.specs.Prelude.{◌≡◌, ◌↔◌, ◌≤◌, ◌<◌, ℕ, List, [], ◌∷◌, ◌++◌, map, length, slice_index_or, Option, Some, Ok, All, IsTrue, codes}
use Rattle.std.specs.List.{list_all, slice_get}
use Rattle.csv_rows.specs.Numbers.{number_of}
use Rattle.csv_rows.specs.Rows.{Fields}
use Rattle.irv_base.specs.Names.{Id, is_name, all_differ}
use Rattle.irv_base.specs.Records.{firsts}
use Rattle.irv_base.specs.declared.limits.TheConstants.{FEWEST_CANDIDATES, MOST_CANDIDATES, MOST_RECORDS}
use Rattle.ballots.specs.Ballots.{BallotFile}
use Rattle.ballots.specs.Grammar.{ballots_from}
use Rattle.ballot_reader.specs.Laws.{id_of}
use Rattle.ballots.specs.declared.limits.TheConstants.{MOST_CONTESTS, MOST_LISTED}
use Rattle.ballot_laws.specs.Rows.{record_at, field, contest_id, candidates_in, ballot_id, preferences, ballots_for, contests, ballots, places_of, asked_place}

-- ---- contests

-- the word, the contest's id, the number of its candidates, their ids, and whatever follows
pub record IsContest (row : Fields) (id : Id) (candidates : List Id) : Type 0 where
  pub number : List ℕ
  pub more : Fields
  pub is : row ≡ codes "Contest" ∷ id ∷ number ∷ candidates ++ more
  pub counted : number_of number ≡ Some (length candidates)
  pub some : 1 ≤ length candidates
  pub few : length candidates ≤ MOST_LISTED
  pub named : IsTrue (is_name id)
  pub all_named : IsTrue (list_all is_name candidates)
  pub differ : IsTrue (all_differ candidates)

-- the first record counts the contests, and no two of them have the same id
pub record AreContests (rows : List Fields) : Type 0 where
  pub counted : number_of (field (record_at rows 1) 0) ≡ Some (length (contests rows))
  pub some : 1 ≤ length (contests rows)
  pub few : length (contests rows) ≤ MOST_CONTESTS
  pub each : (k : ℕ) (row : Fields) → slice_get (contests rows) k ≡ Some row →
      IsContest row (contest_id row) (candidates_in row)
  pub differ : IsTrue (all_differ (map contest_id (contests rows)))

-- ---- ballots

-- the preferences name candidates, and each candidate counts at its first place
pub record Ranks (candidates : List Id) (preferences : List Id) (ranking : List ℕ) : Type 0 where
  pub choices : List ℕ
  pub below : All (λ c. c < length candidates) choices
  pub named : preferences ≡ map (id_of candidates) choices
  pub first : ranking ≡ firsts choices

-- the id of its contest, its own id, and its preferences
pub record IsBallot
    (row : Fields) (contest : Id) (candidates : List Id) (id : Id) (ranking : List ℕ) : Type 0 where
  pub more : Fields
  pub is : row ≡ contest ∷ id ∷ more
  pub named : IsTrue (is_name id)
  pub ranks : Ranks candidates (preferences row) ranking

-- the record is a ballot of one of these contests
pub record IsOfOne (contests : List Fields) (row : Fields) : Type 0 where
  pub place : ℕ
  pub contest : Fields
  pub there : slice_get contests place ≡ Some contest
  pub ranking : List ℕ
  pub is : IsBallot row (contest_id contest) (candidates_in contest) (ballot_id row) ranking

-- there are not too many, each is of some contest, and no id occurs twice in one contest
pub record AreBallotRows (rows : List Fields) : Type 0 where
  pub few : length (ballots rows) ≤ MOST_RECORDS
  pub each : (k : ℕ) (row : Fields) → slice_get (ballots rows) k ≡ Some row →
      IsOfOne (contests rows) row
  pub differ : (contest : Id) →
      IsTrue (all_differ (map ballot_id (ballots_for contest (ballots rows))))

-- ---- the file

-- the file has the contest in record own and the ballots of that contest, each as its record says
pub record Has (rows : List Fields) (own : ℕ) (file : BallotFile) : Type 0 where
  pub contest : file.contest ≡ contest_id (record_at rows own)
  pub candidates : file.candidates ≡ candidates_in (record_at rows own)
  pub fewest : FEWEST_CANDIDATES ≤ length file.candidates
  pub most : length file.candidates ≤ MOST_CANDIDATES
  pub places : file.places ≡ places_of file.contest rows
  pub an_id_each : length file.ids ≡ length file.places
  pub a_ranking_each : length file.rankings ≡ length file.places
  pub each : (i : ℕ) → i < length file.places →
      IsBallot (record_at rows (slice_index_or file.places i 0)) file.contest file.candidates
      (slice_index_or file.ids i []) (slice_index_or file.rankings i [])

-- the contest is the requested one, or the only one if none is requested
pub record Spells (asked : Option Id) (rows : List Fields) (file : BallotFile) : Type 0 where
  pub contests_are : AreContests rows
  pub own : ℕ
  pub asked_for : asked_place asked (contests rows) ≡ Some own
  pub ballots_are : AreBallotRows rows
  pub has : Has rows own file

-- ---- the law

abbrev pub RecordsSpellFile : Type 0
RecordsSpellFile =
    (asked : Option Id) (rows : List Fields) (file : BallotFile) →
    (ballots_from asked rows ≡ Ok file) ↔ Spells asked rows file
