use Rattle.std.proofs.Common.{subst, arith}
use Rattle.bound_search.specs.Race.{IsSpent}
use Rattle.contest_search.proofs.Findings.{tabulated_there, undecided_at_0, elected_above_0, undecided_tie, tied_not_untied}
use Rattle.search_commands.proofs.Stopped.{race_is_stopped}
use Rattle.search_commands.proofs.tabulate.decide.Goals as goal

pub tied_answer-requires : goal.tied_answer-requires
tied_answer-requires g c =
    undecided_tie c.args.votes.now c.args.tie.now c.requires.tie
    (undecided_at_0 c.args.votes.now c.args.counted.now.bag c.args.tabulated.now c.requires.counted c.in-Ok.end c.in-Ok.ensures.best c.if-end-eq0.true)

pub rounds-requires-clause-decided : goal.rounds-requires-clause-decided
rounds-requires-clause-decided g c =
    let apart = c.if-end-eq0.false in
    elected_above_0 c.args.votes.now c.args.counted.now.bag c.args.tabulated.now c.requires.counted c.in-Ok.end c.in-Ok.ensures.best (omega (arith, apart))

pub stopped_answer-requires : goal.stopped_answer-requires
stopped_answer-requires g c =
    let ballots = c.args.votes.now in
    let bag = c.args.counted.now.bag in
    let t = c.args.tabulated.now in
    race_is_stopped ballots bag t c.requires.counted c.args.nodes _ _ _
    (tied_not_untied ballots t (tabulated_there ballots bag t c.requires.counted) c.args.tie.now c.requires.tie)
    (λ records h. subst (IsSpent bag.n records t c.args.nodes) c.in-Spent.is (c.in-Err.ensures.spent records h))
