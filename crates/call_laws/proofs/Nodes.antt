-- The default number of nodes is enough for contests of up to nine candidates.
use Rattle.std.proofs.Common.{ℕ, zero, suc, ◌≤◌, ◌-◌, ◌*◌, List, arith}
use Rattle.assertions.specs.Suffixes.{factorial}
use Rattle.ballots.specs.Ballots.{BallotFile}
use Rattle.budget.specs.declared.limits.TheConstants.{DEFAULT_NODES}
use Rattle.contest_search.specs.Budget.{nodes_for}
use Rattle.contest_search.specs.Contest.{candidate_count, IsOther}
use Rattle.contest_search.proofs.Nodes.{nodes_are_few}

few_for_nine : (k : ℕ) → k ≤ 8 → 2 * factorial k ≤ DEFAULT_NODES
few_for_nine zero h = omega arith
few_for_nine (suc zero) h = omega arith
few_for_nine (suc (suc zero)) h = omega arith
few_for_nine (suc (suc (suc zero))) h = omega arith
few_for_nine (suc (suc (suc (suc zero)))) h = omega arith
few_for_nine (suc (suc (suc (suc (suc zero))))) h = omega arith
few_for_nine (suc (suc (suc (suc (suc (suc zero)))))) h = omega arith
few_for_nine (suc (suc (suc (suc (suc (suc (suc zero))))))) h = omega arith
few_for_nine (suc (suc (suc (suc (suc (suc (suc (suc zero)))))))) h = omega arith
few_for_nine (suc (suc (suc (suc (suc (suc (suc (suc (suc k))))))))) h = absurd (omega (arith, h))

pub default_suffices : (ballots : BallotFile) (tabulated : List ℕ) (winner c : ℕ) → IsOther ballots winner c → candidate_count ballots ≤ 9 →
    nodes_for ballots tabulated winner c ≤ DEFAULT_NODES
default_suffices ballots tabulated winner c other nine =
    let few = nodes_are_few ballots tabulated winner c other in
    let enough = few_for_nine (candidate_count ballots - 1) (omega (arith, nine)) in
    omega (arith, few, enough)
