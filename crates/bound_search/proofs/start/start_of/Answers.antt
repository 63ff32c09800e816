use Rattle.bound_search.proofs.Raced.{start_for}
use Rattle.bound_search.proofs.start.start_of.Goals as goal

pub returns-clause-start : goal.returns-clause-start
returns-clause-start c =
    start_for c.args.counted.now.bag c.args.tab.now c.in_ok-tallies.tallies c.first_order.new.tallies c.candidates.result _ c.in_ok-tallies.ensures.bag
    c.in_ok-first.ensures.same c.candidates.ensures.same c.candidates.ensures.fewest
    c.in_ok-first.ensures.reached c.in_ok-first.ensures.order c.in_ok-tails.ensures.pieces
