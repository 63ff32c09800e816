-- The number of nodes that suffice for a search, and that a search that is out of budget needs more than it has.
use Rattle.std.proofs.Common.{◌⊎◌, inl, inr, ℕ, [], ◌<◌, ◌≤◌, ◌-◌, ◌*◌, List, Option, None, Some, arith}
use Rattle.assertions.specs.Suffixes.{factorial}
use Rattle.assertions.specs.Certificate.{cover_count}
use Rattle.assertions.proofs.Few.{parts_are_few, counts_are_few}
use Rattle.bound_search.specs.Race.{work_for}
use Rattle.bound_search.proofs.Fewness.{work_few}
use Rattle.ballots.specs.Ballots.{BallotFile}
use Rattle.contest_search.specs.Budget.{order_count_of, certificate_nodes, nodes_for, IsRaceSpent, IsCertificateSpent, IsSpent}
use Rattle.contest_search.specs.Certificate.{low_of, margin_of, order_of}
use Rattle.contest_search.specs.Contest.{candidate_count, IsOther}

work-few : (n : ℕ) (records : List (List ℕ)) (order : List ℕ) (c : ℕ) → c < n → work_for n records order c ≤ 2 * factorial (n - 1)
work-few n records order c below =
    let counted = work_few n records order c below in
    let few = parts_are_few n c below in
    omega (arith, counted, few)

order-few : (ballots : BallotFile) (margin : ℕ) (order : Option (List ℕ)) (c : ℕ) → c < candidate_count ballots →
    order_count_of ballots margin order c ≤ 2 * factorial (candidate_count ballots - 1)
order-few ballots margin None c below = omega arith
order-few ballots margin (Some order) c below = (counts_are_few (candidate_count ballots) c margin (low_of ballots) order below).1

cover-few : (ballots : BallotFile) (margin c : ℕ) → c < candidate_count ballots →
    cover_count (candidate_count ballots) (low_of ballots) margin c ≤ 2 * factorial (candidate_count ballots - 1)
cover-few ballots margin c below = (counts_are_few (candidate_count ballots) c margin (low_of ballots) [] below).0

pub nodes_are_few : (ballots : BallotFile) (tabulated : List ℕ) (winner c : ℕ) → IsOther ballots winner c →
    nodes_for ballots tabulated winner c ≤ 2 * factorial (candidate_count ballots - 1)
nodes_are_few ballots tabulated winner c other =
    let a = work-few (candidate_count ballots) ballots.rankings tabulated c other.candidate in
    let b = cover-few ballots (margin_of ballots winner) c other.candidate in
    let d = order-few ballots (margin_of ballots winner) (order_of ballots winner) c other.candidate in
    omega (arith, a, b, d)

by-cause : (nodes : ℕ) (ballots : BallotFile) (tabulated : List ℕ) (winner last margin : ℕ) →
    IsRaceSpent nodes ballots tabulated last ⊎ IsCertificateSpent nodes ballots winner last margin → nodes < nodes_for ballots tabulated winner last
by-cause nodes ballots tabulated winner last margin (inl race) =
    let above : nodes < work_for (candidate_count ballots) ballots.rankings tabulated last = race.above in omega (arith, above)
by-cause nodes ballots tabulated winner last margin (inr it) =
    let above : nodes < certificate_nodes ballots winner last = it.above in omega (arith, above)

pub spent_above : (nodes : ℕ) (ballots : BallotFile) (last : ℕ) (order : List ℕ) (margin : ℕ) (is : IsSpent nodes ballots last order margin) →
    nodes < nodes_for ballots is.won.order is.winner last
spent_above nodes ballots last order margin is = by-cause nodes ballots is.won.order is.winner last margin is.cause
