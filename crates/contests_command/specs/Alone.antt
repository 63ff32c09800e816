-- One contest of a ballot file and of a seen file by itself: the records without those of all other contests.
use Rattle.std.specs.Prelude.{◌≡◌, ℕ, Bool, false, List, [], ◌∷◌, ◌++◌, filter, take, drop, slice_get, Option, None, Some, Ok, codes}
use Rattle.csv_rows.specs.Rows.{Fields}
use Rattle.irv_base.specs.Names.{Id, is_same}
use Rattle.ballots.specs.Ballots.{BallotFile}
use Rattle.ballots.specs.Grammar.{contest_count, contests_from}

-- the record is the contest's own record
abbrev pub lists : Id → Fields → Bool
lists contest [] = false
lists contest (word ∷ []) = false
lists contest (word ∷ id ∷ rest) = is_same id contest

-- the record is a ballot of the contest
abbrev pub is_ballot_of : Id → Fields → Bool
is_ballot_of contest [] = false
is_ballot_of contest (of ∷ rest) = is_same of contest

-- after n contest records
abbrev pub alone_behind : Id → Option ℕ → List Fields → List Fields
alone_behind contest None rows = []
alone_behind contest (Some n) rows =
    (codes "1" ∷ [])
    ∷ (filter (lists contest) (take n rows) ++ filter (is_ballot_of contest) (drop n rows))

-- the records of a ballot file, with `1` as the first, and without the records of all other contests
abbrev pub alone : Id → List Fields → List Fields
alone contest [] = []
alone contest (first ∷ rows) = alone_behind contest (contest_count first) rows

-- ---- the law

-- these records say of the contest what the whole file says of it, except for the places of its ballots
abbrev pub SaidAlone : Type 0
SaidAlone =
    (rows : List Fields) (list : List BallotFile) (place : ℕ) (ballots : BallotFile) →
    contests_from rows ≡ Ok list → slice_get list place ≡ Some ballots →
    (places : List ℕ)
    × (contests_from (alone ballots.contest rows) ≡ Ok (record ballots { places = places } ∷ []))
