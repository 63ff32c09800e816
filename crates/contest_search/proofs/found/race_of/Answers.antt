use Rattle.std.proofs.Common.{subst}
use Rattle.budget.specs.declared.budget.Budget.TheVariants.{Nodes}
use Rattle.bound_search.specs.Race.{IsSpent}
use Rattle.contest_search.proofs.Findings.{race_is_spent, undecided_at_0}
use Rattle.contest_search.proofs.found.race_of.Goals as goal

pub returns-in-Spent : goal.returns-in-Spent
returns-in-Spent g c =
    let t = c.args.tabulated.now in
    let bag = c.args.counted.now.bag in
    race_is_spent c.args.votes.now bag t c.requires.counted c.args.nodes _ _ _
    (λ records h. subst (IsSpent bag.n records t c.args.nodes) c.in-Spent.is (c.in-Err.ensures.spent records h))

pub race-requires-clause-order : goal.race-requires-clause-order
race-requires-clause-order g c κs within = (c.requires.counted.tabulated c.args.votes.now.rankings c.requires.counted.records).order

pub race-requires-clause-winner : goal.race-requires-clause-winner
race-requires-clause-winner g c κs within = (c.requires.counted.tabulated c.args.votes.now.rankings c.requires.counted.records).winner

pub tie_of-requires-clause-undecided : goal.tie_of-requires-clause-undecided
tie_of-requires-clause-undecided g c =
    undecided_at_0 c.args.votes.now c.args.counted.now.bag c.args.tabulated.now c.requires.counted c.in-Ok.end c.in-Ok.ensures.best c.if-end-eq0.true

pub returns-then-end-eq0 : goal.returns-then-end-eq0
returns-then-end-eq0 g c = c.tie_of.ensures.found (Nodes c.args.nodes) tt
