use Rattle.std.proofs.Common.{arith, sym, ◌∙◌}
use Rattle.bound_search.proofs.Starts.{start_reached}
use Rattle.bound_search.proofs.start.first_order.Goals as goal

pub returns-clause-reached : goal.returns-clause-reached
returns-clause-reached c =
    start_reached c.args.tallies.now.bag c.args.tab.now.order c.args.tab.now.winner c.start_tail-tail.result c.in_ok-scored.scored c.in-Some.order
    (omega (arith, c.candidates.ensures.same, c.candidates.ensures.fewest)) c.requires.order
    (c.start_tail-tail.ensures.number ∙ c.candidates.ensures.same) c.start_tail-tail.ensures.list c.in_ok-scored.ensures.tail c.in_ok-scored.ensures.scored
    (sym c.whole.ensures ∙ c.in-Some.is) c.requires.winner
