-- A contest has one winner, who is one of its candidates.
use Rattle.std.proofs.Common.{◌≡◌, ℕ, ◌<◌, sym, subst, arith}
use Rattle.irv_base.proofs.Members.{Member, here, member-append_right}
use Rattle.irv_base.proofs.Orders.{order_facts}
use Rattle.irv_base.proofs.Tabulated.{tabulated_exists, tabulated_is_one}
use Rattle.assertions.proofs.Decided.{some-last}
use Rattle.ballots.specs.Ballots.{BallotFile}
use Rattle.cover_checker.proofs.OneAnswer.{one_winner}
use Rattle.contest_search.specs.Contest.{candidate_count, IsWon}

pub same_tabulated : (ballots : BallotFile) (w v : ℕ) (a : IsWon ballots w) (b : IsWon ballots v) → a.order ≡ b.order
same_tabulated ballots w v a b = tabulated_is_one (candidate_count ballots) ballots.rankings a.order b.order a.permutation a.tabulated b.permutation b.tabulated

pub winner-one : (ballots : BallotFile) (w v : ℕ) → IsWon ballots w → IsWon ballots v → w ≡ v
winner-one ballots = one_winner (candidate_count ballots) ballots.rankings

pub winner-below : (ballots : BallotFile) (winner : ℕ) → IsWon ballots winner → winner < candidate_count ballots
winner-below ballots winner won =
    let (before, e) = won.elects in
    (order_facts (candidate_count ballots) won.order won.permutation).below winner (subst (Member winner) (sym e) (member-append_right before here))

pub winner_exists : (ballots : BallotFile) → 1 < candidate_count ballots → (winner : ℕ) × IsWon ballots winner
winner_exists ballots two =
    let (order, o, t) = tabulated_exists (candidate_count ballots) ballots.rankings in
    let (winner, ends) = some-last (candidate_count ballots) order (omega (arith, two)) o in
    (winner, record { order = order; permutation = o; tabulated = t; elects = ends })
