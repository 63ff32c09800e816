use Rattle.std.proofs.Common.{◌<◌, ◌∷◌, sym, ap, subst, arith, ◌∙◌}
use Rattle.irv_base.specs.Candidates.{is_in}
use Rattle.suffix_tree.specs.Suffixes.{Suffix}
use Rattle.bound_search.proofs.Starts.{first_below, first_two, next_one}
use Rattle.bound_search.proofs.start.start_tail.Goals as goal

pub last-requires-clause-below : goal.last-requires-clause-below
last-requires-clause-below c = first_below c.args.n c.args.order.now (omega (arith, c.requires.two)) c.requires.order c.candidates-list.result.now
    c.index-list-at.result c.candidates-list.ensures.same c.index-list-at.is

pub front-tail-requires-clause-below : goal.front-tail-requires-clause-below
front-tail-requires-clause-below c =
    let t = first_two c.args.n c.args.order.now (omega (arith, c.requires.two)) c.requires.order c.candidates-list.result.now c.index-list-at.result
    c.index-list-at-2.result c.candidates-list.ensures.same c.index-list-at.is c.index-list-at-2.is in
    subst (λ n. c.index-list-at-2.result < n) (sym c.last.ensures.number) t.1

pub front-tail-requires-clause-other : goal.front-tail-requires-clause-other
front-tail-requires-clause-other c =
    let t = first_two c.args.n c.args.order.now (omega (arith, c.requires.two)) c.requires.order c.candidates-list.result.now c.index-list-at.result
    c.index-list-at-2.result c.candidates-list.ensures.same c.index-list-at.is c.index-list-at-2.is in
    ap (λ list. is_in list c.index-list-at-2.result) c.last.ensures.alone ∙ t.2

pub loop-at-init : goal.loop-at-init
loop-at-init c =
    let t = first_two c.args.n c.args.order.now (omega (arith, c.requires.two)) c.requires.order c.candidates-list.result.now c.index-list-at.result
    c.index-list-at-2.result c.candidates-list.ensures.same c.index-list-at.is c.index-list-at-2.is in
    record {
      within = omega (arith, c.requires.two);
      number = ap (λ (s : Suffix). s.n) c.front-tail.ensures ∙ c.last.ensures.number;
      list = ap (λ (s : Suffix). s.list) c.front-tail.ensures ∙ ap (λ list. c.index-list-at-2.result ∷ list) c.last.ensures.alone ∙ t.3;
    }

pub front-tail-requires-in-loop-at-clause-below : goal.front-tail-requires-in-loop-at-clause-below
front-tail-requires-in-loop-at-clause-below c =
    let t = next_one c.args.n c.args.order.now (omega (arith, c.requires.two)) c.requires.order c.candidates-list.result.now c.loop-at.at
    c.index-list-at-in-loop-at.result c.candidates-list.ensures.same c.loop-at-test.true c.loop-at.invariant.within c.index-list-at-in-loop-at.is in
    subst (λ n. c.index-list-at-in-loop-at.result < n) (sym c.loop-at.invariant.number) t.0

pub front-tail-requires-in-loop-at-clause-other : goal.front-tail-requires-in-loop-at-clause-other
front-tail-requires-in-loop-at-clause-other c =
    let t = next_one c.args.n c.args.order.now (omega (arith, c.requires.two)) c.requires.order c.candidates-list.result.now c.loop-at.at
    c.index-list-at-in-loop-at.result c.candidates-list.ensures.same c.loop-at-test.true c.loop-at.invariant.within c.index-list-at-in-loop-at.is in
    ap (λ list. is_in list c.index-list-at-in-loop-at.result) c.loop-at.invariant.list ∙ t.1

pub loop-at-preserved : goal.loop-at-preserved
loop-at-preserved c =
    let t = next_one c.args.n c.args.order.now (omega (arith, c.requires.two)) c.requires.order c.candidates-list.result.now c.loop-at.at
    c.index-list-at-in-loop-at.result c.candidates-list.ensures.same c.loop-at-test.true c.loop-at.invariant.within c.index-list-at-in-loop-at.is in
    record {
      within = omega (arith, c.loop-at.invariant.within);
      number = ap (λ (s : Suffix). s.n) c.front-tail-in-loop-at.ensures ∙ c.loop-at.invariant.number;
      list = ap (λ (s : Suffix). s.list) c.front-tail-in-loop-at.ensures ∙ ap (λ list. c.index-list-at-in-loop-at.result ∷ list) c.loop-at.invariant.list ∙ t.2;
    }
