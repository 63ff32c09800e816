-- What a search for the fewest NENs of a contest finds.
use Rattle.std.specs.Prelude.{◌≡◌, ◌≤◌, ◌<◌, ◌==◌, ℕ, List, if◌then◌else◌, Some, None}
use Rattle.irv_base.specs.Tabulation.{least}
use Rattle.budget.specs.declared.budget.Budget.TheVariants.{Sets}
use Rattle.assertions.specs.Hardness.{first_bound, start_order}
use Rattle.ballots.specs.Ballots.{BallotFile}
use Rattle.assertion_file.specs.Content.{Content, margins_of}
use Rattle.fewest_search.specs.Answers.{AreFewest}
use Rattle.fewest_search.specs.Gap.{least_margin}
use Rattle.fewest_search.specs.Sets.{fewest_sets}
use Rattle.contest_search.specs.Budget.{IsTold}
use Rattle.contest_search.specs.Certificate.{margin_of, order_of, certificate_of}
use Rattle.contest_search.specs.Contest.{candidate_count, IsWon, IsElected, IsTie}
use Rattle.contest_search.specs.declared.found.Found.{Found}
use Rattle.contest_search.specs.declared.found.Found.TheVariants.{Certificate as CertificateFound, Tie, Spent, SpentSets}

-- the number of sets needed: those for the certificate's order, or those that all true NEBs with at least the best margin leave standing
abbrev pub fewest_sets_of : BallotFile → ℕ → ℕ
fewest_sets_of ballots winner = fewest_sets (candidate_count ballots) ballots.rankings winner

-- the contest is decided, and the file is its certificate except for the claims; the claims have the fewest NENs at the smallest margin that
-- the gap allows
pub record IsFewestFoundIn (sets gap : ℕ) (ballots : BallotFile) (file : Content) : Type 0 where
  pub winner : ℕ
  pub won : IsWon ballots winner
  pub decided : IsElected ballots winner
  pub order : List ℕ
  pub hardest : order_of ballots winner ≡ Some order
  pub is : file ≡ record (certificate_of ballots winner order) { claims = file.claims }
  pub claims : AreFewest (candidate_count ballots) ballots.rankings winner sets
      (least_margin gap (margin_of ballots winner)) file.claims
  pub within : fewest_sets_of ballots winner ≤ sets

-- more sets are needed than the budget has; the search gives the order that it starts with and that order's hardness, which isn't 0
pub record IsSpentFewest (sets : ℕ) (ballots : BallotFile) (order : List ℕ) (margin : ℕ) : Type 0 where
  pub winner : ℕ
  pub won : IsWon ballots winner
  pub above : sets < fewest_sets_of ballots winner
  pub start : order ≡ start_order won.order
  pub hardness : margin ≡ first_bound (candidate_count ballots) ballots.rankings won.order
  pub some : 1 ≤ margin

-- the file as it is printed: its margin is the smallest margin of its claims, and it has the order only if that is the best margin
abbrev pub with_own_margin : Content → Content
with_own_margin file =
    let own = least (margins_of file) in
    record file { margin = own; order = if own == file.margin then file.order else None }

-- a contest that isn't decided is reported as it is by a search by sets
abbrev pub FoundFewestIn : ℕ → ℕ → BallotFile → Found → Type 0
FoundFewestIn sets gap ballots (CertificateFound file) = IsFewestFoundIn sets gap ballots file
FoundFewestIn sets gap ballots (Tie round tied votes) =
    IsTie ballots round tied votes × IsTold (Sets sets) ballots
FoundFewestIn sets gap ballots (Spent last order margin) = ⊥
FoundFewestIn sets gap ballots (SpentSets told order margin) =
    (told ≡ sets) × IsSpentFewest sets ballots order margin
