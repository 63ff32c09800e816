-- The contests of the worked examples.
use Rattle.std.specs.Prelude.{ℕ, List, [], ◌∷◌, codes}
use Rattle.ballots.specs.Ballots.{BallotFile}
use Rattle.manifest.specs.Cards.{Batches}
use Rattle.manifest.specs.declared.recorded.Recorded.{Recorded}
use Rattle.manifest.specs.declared.recorded.Recorded.TheVariants.{Ranked}
use Rattle.assorters.specs.declared.seen.Seen.{Seen}
use Rattle.assorters.specs.declared.seen.Seen.TheVariants.{Found}
use Rattle.plurality.specs.Plural.{Outcome}

-- the first preferences are 3, 2 and 1; one ballot has none
abbrev pub three_two_one : List (List ℕ)
three_two_one =
    (0 ∷ 2 ∷ []) ∷ (0 ∷ []) ∷ (0 ∷ []) ∷ (1 ∷ 2 ∷ []) ∷ (1 ∷ 2 ∷ []) ∷ (2 ∷ 1 ∷ []) ∷ [] ∷ []

-- candidate 0 against two whom nobody ranks first
abbrev pub two_for_one : List (List ℕ)
two_for_one = (0 ∷ 1 ∷ []) ∷ (0 ∷ 2 ∷ []) ∷ []

-- ---- two cards are recorded for candidate 0, and in truth the second is for 1

abbrev pub two_batches : Batches
two_batches = record { ids = codes "b" ∷ []; counts = 2 ∷ [] }

abbrev pub two_ballots : BallotFile
two_ballots = record {
  contest = codes "7";
  candidates = codes "1" ∷ codes "2" ∷ [];
  ids = codes "b_1" ∷ codes "b_2" ∷ [];
  places = 3 ∷ 4 ∷ [];
  rankings = (0 ∷ []) ∷ (0 ∷ []) ∷ [];
}

abbrev pub two_records : List Recorded
two_records = Ranked (0 ∷ []) ∷ Ranked (0 ∷ []) ∷ []

abbrev pub two_outcome : Outcome
two_outcome = record { winner = 0; losers = 1 ∷ []; margins = 2 ∷ [] }

abbrev pub two_actual : List (List ℕ)
two_actual = (0 ∷ []) ∷ (1 ∷ []) ∷ []

abbrev pub two_seen : List Seen
two_seen = Found (0 ∷ []) ∷ Found (1 ∷ []) ∷ []
