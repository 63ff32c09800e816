-- The canonical certificate of a contest that is decided.
use Rattle.std.specs.Prelude.{◌≡◌, ℕ, List, length, Option, None, Some}
use Rattle.assertions.specs.Certificate.{certificate_claims, certificate_order}
use Rattle.assertions.specs.Hardness.{low, best_margin}
use Rattle.ballots.specs.Ballots.{BallotFile}
use Rattle.assertion_file.specs.Content.{Content}
use Rattle.contest_search.specs.Contest.{candidate_count, IsWon, IsElected}

-- the hardness of an order over the records of the contest
abbrev pub low_of : BallotFile → List ℕ → ℕ
low_of ballots = low (candidate_count ballots) ballots.rankings

abbrev pub margin_of : BallotFile → ℕ → ℕ
margin_of ballots winner = best_margin (candidate_count ballots) winner (low_of ballots)

-- among the orders that elect another candidate, the one that is printed; no true assertion with a larger margin refutes it
abbrev pub order_of : BallotFile → ℕ → Option (List ℕ)
order_of ballots winner =
    certificate_order (candidate_count ballots) winner (low_of ballots) (margin_of ballots winner)

-- the file for the contest that this candidate has won, with that order
abbrev pub certificate_of : BallotFile → ℕ → List ℕ → Content
certificate_of ballots winner order = record {
  contest = ballots.contest;
  candidates = ballots.candidates;
  records = length ballots.rankings;
  winner = winner;
  margin = margin_of ballots winner;
  order = Some order;
  claims = certificate_claims (candidate_count ballots) ballots.rankings winner;
  plan = None;
}

-- the contest is decided, and the file is its certificate
pub record IsCertificateOfDecided (ballots : BallotFile) (file : Content) : Type 0 where
  pub winner : ℕ
  pub won : IsWon ballots winner
  pub decided : IsElected ballots winner
  pub order : List ℕ
  pub least : order_of ballots winner ≡ Some order
  pub is : file ≡ certificate_of ballots winner order
