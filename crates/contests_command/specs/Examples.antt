-- The contests of the worked examples.
use Rattle.std.specs.Prelude.{ℕ, List, [], ◌∷◌, codes}
use Rattle.ballots.specs.Ballots.{BallotFile}
use Rattle.irv_base.specs.Names.{Id}

-- a contest with this id, whose ballots don't matter to what is printed
abbrev pub of_two_candidates : Id → BallotFile
of_two_candidates id = record {
  contest = id;
  candidates = codes "1" ∷ codes "2" ∷ [];
  ids = [];
  places = [];
  rankings = [];
}
