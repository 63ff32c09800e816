-- A small ballot file of two contests.
use Rattle.std.specs.Prelude.{ℕ, List, [], ◌∷◌, ◌++◌, codes}
use Rattle.csv_rows.specs.Rows.{Fields}
use Rattle.irv_base.specs.Names.{Id}
use Rattle.ballots.specs.Ballots.{BallotFile}

abbrev pub count_of : List ℕ → Fields
count_of number = number ∷ []

-- Ash and Birch run for mayor
abbrev pub mayor : Fields
mayor = codes "Contest" ∷ codes "mayor" ∷ codes "2" ∷ codes "Ash" ∷ codes "Birch" ∷ []

-- and three run for the board; whatever follows their ids is skipped
abbrev pub board : Fields
board =
    codes "Contest" ∷ codes "board" ∷ codes "3" ∷ codes "Cedar" ∷ codes "Elm" ∷ codes "Fir"
    ∷ codes "winner" ∷ codes "Fir" ∷ []

abbrev pub vote : Id → Id → List Id → Fields
vote contest id preferences = contest ∷ id ∷ preferences

-- the second ballot has a blank preference, and names Fir twice; the third names nobody
abbrev pub two_contests : List Fields
two_contests =
    count_of (codes "2") ∷ mayor ∷ board
    ∷ vote (codes "mayor") (codes "1") (codes "Birch" ∷ codes "Ash" ∷ [])
    ∷ vote (codes "board") (codes "1") (codes "Fir" ∷ [] ∷ codes "Cedar" ∷ codes "Fir" ∷ [])
    ∷ vote (codes "mayor") (codes "2") []
    ∷ []

abbrev pub for_mayor : BallotFile
for_mayor = record {
  contest = codes "mayor";
  candidates = codes "Ash" ∷ codes "Birch" ∷ [];
  ids = codes "1" ∷ codes "2" ∷ [];
  places = 4 ∷ 6 ∷ [];
  rankings = (1 ∷ 0 ∷ []) ∷ [] ∷ [];
}

abbrev pub for_board : BallotFile
for_board = record {
  contest = codes "board";
  candidates = codes "Cedar" ∷ codes "Elm" ∷ codes "Fir" ∷ [];
  ids = codes "1" ∷ [];
  places = 5 ∷ [];
  rankings = (2 ∷ 0 ∷ []) ∷ [];
}

-- the file with a seventh record
abbrev pub and_then_comes : Fields → List Fields
and_then_comes row = two_contests ++ row ∷ []

-- there is one candidate for the board, which is too few; nobody voted
abbrev pub one_too_small : List Fields
one_too_small =
    count_of (codes "2") ∷ mayor
    ∷ (codes "Contest" ∷ codes "board" ∷ codes "1" ∷ codes "Cedar" ∷ [])
    ∷ []

abbrev pub nobody_for_mayor : BallotFile
nobody_for_mayor = record {
  contest = codes "mayor";
  candidates = codes "Ash" ∷ codes "Birch" ∷ [];
  ids = [];
  places = [];
  rankings = [];
}
