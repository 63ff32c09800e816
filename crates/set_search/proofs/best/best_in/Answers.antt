use Rattle.std.proofs.Common.{◌≡◌, ◌<◌, ap, arith, subst, sym, ◌∙◌}
use Rattle.set_tallies.specs.Bags.{IsOf, Kept, Source}
use Rattle.bound_search.proofs.Raced.{elected_below}
use Rattle.set_search.specs.Answers.{IsUndecided}
use Rattle.set_search.specs.Parts.{IsOrder, IsOrderIn}
use Rattle.set_search.proofs.Deciding.{best-undecided, start-undecided, start-hardness}
use Rattle.set_search.proofs.best.best_in.Goals as goal

pub returns-then-start-eq0-clause-end : goal.returns-then-start-eq0-clause-end
returns-then-start-eq0-clause-end c = λ records of.
    start-undecided c.args.steps.now.tallies.bag records c.args.tab.now c.args.sets c.in_ok-start.start of c.in_ok-start.ensures.reached
    c.in_ok-start.ensures.order c.if-start-eq0.true

pub order_in-requires : goal.order_in-requires
order_in-requires c =
    let bag : c.first_order.new.tallies.bag ≡ c.args.steps.now.tallies.bag = ap (λ (t : Source). t.bag) c.first_order.ensures.same in
    subst (λ (b : Kept). c.args.tab.now.winner < b.n) (sym bag)
    (elected_below c.args.steps.now.tallies.bag.n c.args.tab.now.winner c.args.tab.now.order c.requires.order c.requires.winner)

pub returns-then-best-eq0-clause-end : goal.returns-then-best-eq0-clause-end
returns-then-best-eq0-clause-end c = λ records of.
    let tab = c.args.tab.now in
    let bag : c.first_order.new.tallies.bag ≡ c.args.steps.now.tallies.bag = ap (λ (t : Source). t.bag) c.first_order.ensures.same in
    let found = c.in_ok-best.ensures.order records (subst (λ b. IsOf b records) (sym bag) of) in
    let order = subst (IsOrderIn c.first_order.new.tallies.bag.n records tab.winner c.args.sets) c.in-Some.is found in
    subst (λ (b : Kept). IsUndecided b.n records tab c.args.sets) bag
    (best-undecided c.first_order.new.tallies.bag.n records tab c.args.sets c.in-Some.best order c.if-best-eq0.true)

pub returns-clause-end : goal.returns-clause-end
returns-clause-end c = λ records of.
    let tab = c.args.tab.now in
    let bag : c.first_order.new.tallies.bag ≡ c.args.steps.now.tallies.bag = ap (λ (t : Source). t.bag) c.first_order.ensures.same in
    let found = c.in_ok-best.ensures.order records (subst (λ b. IsOf b records) (sym bag) of) in
    let order = subst (IsOrderIn c.first_order.new.tallies.bag.n records tab.winner c.args.sets) c.in-Some.is found in
    record {
      best = subst (λ (b : Kept). IsOrder b.n records tab.winner c.args.sets c.in-Some.best) bag order;
      some = omega (arith, c.if-best-eq0.false);
      start = c.in_ok-start.ensures.order;
      hardness = start-hardness c.args.steps.now.tallies.bag records tab c.in_ok-start.start of c.in_ok-start.ensures.reached c.in_ok-start.ensures.order;
      some_start = omega (arith, c.if-start-eq0.false);
    }
