-- What a ballot file says of its contest.
use Rattle.std.specs.Prelude.{◌≡◌, ◌<◌, ◌≤◌, ℕ, List, [], length, All, IsTrue}
use Rattle.irv_base.specs.Candidates.{is_distinct}
use Rattle.irv_base.specs.Names.{Id, all_differ}
use Rattle.irv_base.specs.declared.limits.TheConstants.{FEWEST_CANDIDATES, MOST_CANDIDATES, MOST_RECORDS}

-- ---- ballots

-- the ballot with number i has the id ids i and the ranking rankings i, and is in record places i of the file, counted from 1
pub record BallotFile : Type 0 where
  pub contest : Id
  pub candidates : List Id
  pub ids : List Id
  pub places : List ℕ
  pub rankings : List (List ℕ)

-- with these ids and places instead of its own
abbrev pub with_ids : BallotFile → List Id → List ℕ → BallotFile
with_ids file ids places = record {
  contest = file.contest;
  candidates = file.candidates;
  ids = ids;
  places = places;
  rankings = file.rankings;
}

-- what a file says, without the ids and places of ballots
abbrev pub votes_with : Id → List Id → List (List ℕ) → BallotFile
votes_with contest candidates rankings = record {
  contest = contest;
  candidates = candidates;
  ids = [];
  places = [];
  rankings = rankings;
}

abbrev pub votes_of : BallotFile → BallotFile
votes_of file = votes_with file.contest file.candidates file.rankings

pub record AreCandidates (candidates : List Id) : Type 0 where
  pub fewest : FEWEST_CANDIDATES ≤ length candidates
  pub most : length candidates ≤ MOST_CANDIDATES
  pub differ : IsTrue (all_differ candidates)

-- for n candidates
pub record AreBallots
    (n : ℕ) (ids : List Id) (places : List ℕ) (rankings : List (List ℕ)) : Type 0 where
  pub most : length rankings ≤ MOST_RECORDS
  pub an_id_each : length ids ≡ length rankings
  pub a_place_each : length places ≡ length rankings
  pub differ : IsTrue (all_differ ids)
  pub below : All (λ ranking. All (λ c. c < n) ranking) rankings
  pub distinct : All (λ ranking. IsTrue (is_distinct ranking)) rankings

pub record IsSound (file : BallotFile) : Type 0 where
  pub candidates : AreCandidates file.candidates
  pub ballots : AreBallots (length file.candidates) file.ids file.places file.rankings

pub record AreVotes (votes : BallotFile) : Type 0 where
  pub candidates : AreCandidates votes.candidates
  pub most : length votes.rankings ≤ MOST_RECORDS
  pub below : All (λ ranking. All (λ c. c < length votes.candidates) ranking) votes.rankings
