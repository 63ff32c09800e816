-- A race that is to find out whether a tie matters, and runs out of budget.
use Rattle.std.proofs.Common.{ℕ, ◌<◌, List, sym}
use Rattle.irv_base.specs.Tabulation.{HasNoTie}
use Rattle.set_tallies.specs.Bags.{Kept, IsOf}
use Rattle.irv_tabulator.specs.declared.tabulated.Tabulated.{Tabulated}
use Rattle.bound_search.specs.Race.{work_for, IsTooMuch}
use Rattle.ballots.specs.Ballots.{BallotFile}
use Rattle.contest_search.specs.Contest.{candidate_count}
use Rattle.contest_search.specs.Found.{IsCounted}
use Rattle.contest_search.proofs.Findings.{of_ballots, tabulated_there, won_by}
use Rattle.search_commands.specs.Tabulate.{IsStopped}

pub race_is_stopped : (ballots : BallotFile) (bag : Kept) (t : Tabulated) (counted : IsCounted ballots bag t) (nodes last upper : ℕ) (order : List ℕ) →
    (HasNoTie ballots.rankings t.order → ⊥) →
    ((records : List (List ℕ)) → IsOf bag records → IsTooMuch bag.n records t nodes last upper order) → IsStopped nodes ballots last order upper
race_is_stopped ballots bag t counted nodes last upper order tied much =
    let m = of_ballots ballots bag t counted (λ n records. IsTooMuch n records t nodes last upper order) much in
    let more : nodes < work_for (candidate_count ballots) ballots.rankings t.order last = m.more in
    record {
      winner = t.winner;
      won = won_by ballots t (tabulated_there ballots bag t counted);
      tied = tied;
      named = record { candidate = m.candidate; other = m.other };
      cause = record { above = more };
      alternative = m.alternative;
      hardness = sym m.hardness;
      within = m.reached;
      some = m.some;
    }
