-- The worked examples.
use Rattle.std.specs.Prelude.{List, [], ◌∷◌, ◌++◌, codes, replicate}
use Rattle.irv_base.specs.Names.{Id}
use Rattle.ballots.specs.Ballots.{BallotFile}
use Rattle.km_risk.specs.declared.draws.Counts.{Counts}

abbrev pub three_names : List Id
three_names = codes "1" ∷ codes "2" ∷ codes "3" ∷ []

-- five ballots rank 1, four rank 2,3 and three rank 3,2
abbrev pub three_candidates : BallotFile
three_candidates = record {
  contest = codes "1";
  candidates = three_names;
  ids = [];
  places = [];
  rankings = replicate 5 (0 ∷ []) ++ replicate 4 (1 ∷ 2 ∷ []) ++ replicate 3 (2 ∷ 1 ∷ []);
}

-- four ballots rank B, three rank C, one ranks D,C, one ranks D, and one ranks A,B
abbrev pub county : BallotFile
county = record {
  contest = codes "county";
  candidates = codes "A" ∷ codes "B" ∷ codes "C" ∷ codes "D" ∷ [];
  ids = [];
  places = [];
  rankings =
      replicate 4 (1 ∷ []) ++ replicate 3 (2 ∷ []) ++ (3 ∷ 2 ∷ []) ∷ (3 ∷ []) ∷ (0 ∷ 1 ∷ []) ∷ [];
}

-- five draws, of which two have discrepancy 1
abbrev pub two_of_five : Counts
two_of_five = record { n0 = 0; n1 = 2; n2 = 3; n3 = 0; n4 = 0 }
