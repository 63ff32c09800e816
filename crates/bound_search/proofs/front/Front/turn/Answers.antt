use Rattle.std.proofs.Common.{refl, sym, ap, subst, arith, min, None, Some, ◌∙◌}
use Rattle.suffix_tree.specs.Suffixes.{Suffix}
use Rattle.set_tallies.specs.Bags.{Source}
use Rattle.bound_search.specs.Fronts.{Frontier, IsFound, IsTurn}
use Rattle.bound_search.specs.Sifted.{IsExpanded, IsNewlyFound}
use Rattle.bound_search.proofs.Turns.{front_lower, grows_lower, front_more, grows_more, front_taken, grows_taken, taken_found, taken_open, was_open, part_left}
use Rattle.bound_search.proofs.front.Front.turn.Goals as goal

pub loop-self-init : goal.loop-self-init
loop-self-init g c = record {
  front = front_lower c.args.tallies.now.bag c.args.self.now c.lower.new.self c.args.bound c.requires.falls c.lower.ensures c.requires.front;
  grows = grows_lower c.args.tallies.now.bag c.args.self.now c.lower.new.self c.args.bound c.requires.falls c.lower.ensures;
  piece = ap (λ (f : Frontier). f.piece) c.lower.ensures;
  bound = ap (λ (f : Frontier). f.bound) c.lower.ensures;
  least = ap (λ (f : Frontier). f.least) c.lower.ensures;
  expanded = omega (arith, ap (λ (f : Frontier). f.expanded) c.lower.ensures);
  stepped = omega arith;
  within = omega arith;
  few = omega arith;
  same = refl;
}

pub returns-in-Whole-clause-front : goal.returns-in-Whole-clause-front
returns-in-Whole-clause-front g c = front_taken c.args.tallies.now.bag c.loop-self.self c.take_whole-order.new.self c.take_whole-order.result
    c.in-Whole.ensures.1 c.take_whole-order.ensures c.loop-self.invariant.front

pub returns-in-Whole-clause-grows : goal.returns-in-Whole-clause-grows
returns-in-Whole-clause-grows g c =
    grows_taken c.args.tallies.now.bag c.loop-self.self c.take_whole-order.new.self c.take_whole-order.result c.in-Whole.ensures.1 c.take_whole-order.ensures
    c.args.bound c.args.self.now c.loop-self.invariant.grows

pub returns-in-Whole-clause-turn : goal.returns-in-Whole-clause-turn
returns-in-Whole-clause-turn g c =
    let order = c.take_whole-order.result in
    let t = c.take_whole-order.ensures in
    let f = taken_found c.args.tallies.now.bag c.loop-self.self c.take_whole-order.new.self order c.in-Whole.ensures.1 t c.loop-self.invariant.front in
    subst (IsTurn c.args.tallies.now.bag c.args.left c.args.self.now c.take_whole-order.new.self) (sym c.found.ensures) (
      subst (λ (p : Suffix). IsFound c.args.tallies.now.bag p.list order.tail.list order.low) c.loop-self.invariant.piece f.0,
      was_open c.args.tallies.now.bag c.args.bound c.args.self.now c.loop-self.self order.tail.list c.requires.front c.loop-self.invariant.grows
          (taken_open c.args.tallies.now.bag c.loop-self.self c.take_whole-order.new.self order c.in-Whole.ensures.1 t),
      (omega (arith, f.1, t.bound)),
      t.least ∙ ap (λ least. min least order.low) c.loop-self.invariant.least,
    )

pub returns-then-taken-eq-MOST_EXPANDED-clause-turn :
    goal.returns-then-taken-eq-MOST_EXPANDED-clause-turn
returns-then-taken-eq-MOST_EXPANDED-clause-turn g c = (
  c.loop-self.invariant.least,
  (omega (arith, c.loop-self.invariant.expanded, c.if-taken-eq-MOST_EXPANDED.true)),
  part_left c.args.tallies.now.bag c.loop-self.self c.loop-self.invariant.front c.in-Part.ensures.0 c.in-Part.ensures.1,
)

pub returns-then-taken-left-clause-turn : goal.returns-then-taken-left-clause-turn
returns-then-taken-left-clause-turn g c = (
  c.loop-self.invariant.least,
  (omega (arith, c.loop-self.invariant.expanded, c.if-taken-left.true)),
  (omega (arith, c.if-taken-left.true, c.if-taken-eq-MOST_EXPANDED.false, c.loop-self.invariant.few)),
  part_left c.args.tallies.now.bag c.loop-self.self c.loop-self.invariant.front c.in-Part.ensures.0 c.in-Part.ensures.1,
)

pub returns-in-Some-clause-turn : goal.returns-in-Some-clause-turn
returns-in-Some-clause-turn g c =
    let order = c.in-Some.order in
    let new = c.expand_first.new.self in
    let e : IsExpanded c.args.tallies.now.bag c.loop-self.self new c.in_ok-order-in-Part.field-0 =
    subst (λ (t : Source). IsExpanded t.bag c.loop-self.self new c.in_ok-order-in-Part.field-0) c.loop-self.invariant.same
    c.in_ok-order-in-Part.ensures.expanded in
    let f : IsNewlyFound c.args.tallies.now.bag c.loop-self.self new (Some order) =
    subst (IsNewlyFound c.args.tallies.now.bag c.loop-self.self new) c.in-Some.is e.newly in
    subst (IsTurn c.args.tallies.now.bag c.args.left c.args.self.now new) (sym c.found-in-Some.ensures) (
      subst (λ (p : Suffix). IsFound c.args.tallies.now.bag p.list order.tail.list order.low) c.loop-self.invariant.piece f.1,
      was_open c.args.tallies.now.bag c.args.bound c.args.self.now c.loop-self.self order.tail.list c.requires.front c.loop-self.invariant.grows f.2,
      (omega (arith, f.3, e.bound)),
      f.4 ∙ ap (λ least. min least order.low) c.loop-self.invariant.least,
    )

pub returns-in-Some-clause-grows : goal.returns-in-Some-clause-grows
returns-in-Some-clause-grows g c =
    grows_more c.args.tallies.now.bag c.args.bound c.args.self.now c.loop-self.self c.expand_first.new.self c.in_ok-order-in-Part.field-0
    c.loop-self.invariant.grows c.loop-self.invariant.bound
    (subst (λ (t : Source). IsExpanded t.bag c.loop-self.self c.expand_first.new.self c.in_ok-order-in-Part.field-0) c.loop-self.invariant.same
    c.in_ok-order-in-Part.ensures.expanded)
    c.loop-self.invariant.piece c.loop-self.invariant.least

pub loop-self-preserved : goal.loop-self-preserved
loop-self-preserved g c =
    let e : IsExpanded c.args.tallies.now.bag c.loop-self.self c.expand_first.new.self c.in_ok-order-in-Part.field-0 =
    subst (λ (t : Source). IsExpanded t.bag c.loop-self.self c.expand_first.new.self c.in_ok-order-in-Part.field-0) c.loop-self.invariant.same
    c.in_ok-order-in-Part.ensures.expanded in
    let least : IsNewlyFound c.args.tallies.now.bag c.loop-self.self c.expand_first.new.self None =
    subst (IsNewlyFound c.args.tallies.now.bag c.loop-self.self c.expand_first.new.self) c.in_default.is e.newly in
    record {
      front = front_more c.args.tallies.now.bag c.loop-self.self c.expand_first.new.self c.in_ok-order-in-Part.field-0 c.loop-self.invariant.front e;
      grows = grows_more c.args.tallies.now.bag c.args.bound c.args.self.now c.loop-self.self c.expand_first.new.self c.in_ok-order-in-Part.field-0
          c.loop-self.invariant.grows c.loop-self.invariant.bound e c.loop-self.invariant.piece c.loop-self.invariant.least;
      piece = e.piece ∙ c.loop-self.invariant.piece;
      bound = e.bound ∙ c.loop-self.invariant.bound;
      least = least ∙ c.loop-self.invariant.least;
      expanded = omega (arith, e.expanded, c.loop-self.invariant.expanded);
      stepped = omega (arith, c.in_ok-order-in-Part.ensures.step, c.loop-self.invariant.stepped);
      within = omega (arith, c.loop-self.invariant.within, c.if-taken-left.false);
      few = omega (arith, c.loop-self.invariant.few, c.if-taken-eq-MOST_EXPANDED.false);
      same = c.in_ok-order-in-Part.ensures.same ∙ c.loop-self.invariant.same;
    }
