-- The number of nodes or sets that a search needs, and when a search runs out of budget.
use Rattle.std.specs.Prelude.{◌≡◌, ◌⊎◌, ◌≤◌, ◌<◌, ℕ, max, List, Option, None, Some, ⊤}
use Rattle.budget.specs.declared.budget.Budget.{Budget}
use Rattle.budget.specs.declared.budget.Budget.TheVariants.{Nodes, Sets}
use Rattle.assertions.specs.Certificate.{cover_count, order_count}
use Rattle.assertions.specs.Hardness.{first_bound, start_order}
use Rattle.assertions.specs.Suffixes.{IsAlternative}
use Rattle.bound_search.specs.Race.{work_for}
use Rattle.set_search.specs.Sets.{sets_for}
use Rattle.ballots.specs.Ballots.{BallotFile}
use Rattle.contest_search.specs.Contest.{candidate_count, IsWon, IsOther}
use Rattle.contest_search.specs.Certificate.{low_of, margin_of, order_of}

-- ---- the nodes that are needed

-- the order count of c, if there is an order
abbrev pub order_count_of : BallotFile → ℕ → Option (List ℕ) → ℕ → ℕ
order_count_of ballots margin None c = 0
order_count_of ballots margin (Some order) c =
    order_count (candidate_count ballots) (low_of ballots) margin order c

-- the nodes that the certificate needs for c: its cover count or its order count
abbrev pub certificate_nodes : BallotFile → ℕ → ℕ → ℕ
certificate_nodes ballots winner c =
    max (cover_count (candidate_count ballots) (low_of ballots) (margin_of ballots winner) c)
    (order_count_of ballots (margin_of ballots winner) (order_of ballots winner) c)

-- the maximum number of nodes that a search may need for c, if this is the tabulated order
abbrev pub nodes_for : BallotFile → List ℕ → ℕ → ℕ → ℕ
nodes_for ballots tabulated winner c =
    max (work_for (candidate_count ballots) ballots.rankings tabulated c)
    (certificate_nodes ballots winner c)

-- ---- the sets that are needed

-- the sets that the certificate needs for its claims or for its order, for all orders together
abbrev pub sets_of : BallotFile → ℕ → ℕ
sets_of ballots winner = sets_for (candidate_count ballots) ballots.rankings winner

-- ---- a budget that suffices

abbrev pub IsInBudget : BallotFile → ℕ → Budget → Type 0
IsInBudget ballots winner (Nodes nodes) =
    (c : ℕ) → IsOther ballots winner c → certificate_nodes ballots winner c ≤ nodes
IsInBudget ballots winner (Sets sets) = sets_of ballots winner ≤ sets

-- a search by sets reports that a contest isn't decided if the budget is enough, or if the order that the search starts with has hardness 0
pub record IsToldBySets (sets : ℕ) (ballots : BallotFile) : Type 0 where
  pub winner : ℕ
  pub won : IsWon ballots winner
  pub within : 1 ≤ first_bound (candidate_count ballots) ballots.rankings won.order →
      sets_of ballots winner ≤ sets

abbrev pub IsTold : Budget → BallotFile → Type 0
IsTold (Nodes nodes) ballots = ⊤
IsTold (Sets sets) ballots = IsToldBySets sets ballots

-- ---- a search that runs out of budget

-- the race runs out of budget at this candidate: a piece whose orders elect the candidate takes more work than the budget has nodes
pub record IsRaceSpent (nodes : ℕ) (ballots : BallotFile) (tabulated : List ℕ)
    (last : ℕ) : Type 0 where
  pub above : nodes < work_for (candidate_count ballots) ballots.rankings tabulated last

-- the certificate runs out of budget at this candidate, the lowest-numbered of those who didn't win for whom it needs more nodes; the margin
-- is then the best one
pub record IsCertificateSpent (nodes : ℕ) (ballots : BallotFile)
    (winner last margin : ℕ) : Type 0 where
  pub above : nodes < certificate_nodes ballots winner last
  pub least : (c : ℕ) → IsOther ballots winner c → c < last →
      certificate_nodes ballots winner c ≤ nodes
  pub best : margin ≡ margin_of ballots winner

-- a search runs out of budget at this candidate, in the race or afterwards in the certificate. It has an order that elects a candidate other
-- than the winner and is no harder than the first order tried. The hardness isn't 0, which would show that the contest isn't decided
pub record IsSpent (nodes : ℕ) (ballots : BallotFile) (last : ℕ) (order : List ℕ)
    (margin : ℕ) : Type 0 where
  pub winner : ℕ
  pub won : IsWon ballots winner
  pub named : IsOther ballots winner last
  pub cause : IsRaceSpent nodes ballots won.order last
      ⊎ IsCertificateSpent nodes ballots winner last margin
  pub alternative : IsAlternative (candidate_count ballots) winner order
  pub hardness : margin ≡ low_of ballots order
  pub within : margin ≤ first_bound (candidate_count ballots) ballots.rankings won.order
  pub some : 1 ≤ margin

-- more sets are needed than the budget has; the search gives the order that it starts with and that order's hardness, which isn't 0
pub record IsSpentBySets (sets : ℕ) (ballots : BallotFile) (order : List ℕ) (margin : ℕ)
    : Type 0 where
  pub winner : ℕ
  pub won : IsWon ballots winner
  pub above : sets < sets_of ballots winner
  pub start : order ≡ start_order won.order
  pub hardness : margin ≡ first_bound (candidate_count ballots) ballots.rankings won.order
  pub some : 1 ≤ margin

-- a budget of nodes is printed as nodes, and a budget of sets as sets
abbrev pub IsSpentIn : Budget → BallotFile → ℕ → List ℕ → ℕ → Type 0
IsSpentIn (Nodes nodes) ballots last order margin = IsSpent nodes ballots last order margin
IsSpentIn (Sets sets) ballots last order margin = ⊥

abbrev pub IsSpentBySetsIn : Budget → BallotFile → ℕ → List ℕ → ℕ → Type 0
IsSpentBySetsIn (Nodes nodes) ballots told order margin = ⊥
IsSpentBySetsIn (Sets sets) ballots told order margin =
    (told ≡ sets) × IsSpentBySets sets ballots order margin
