use Rattle.std.proofs.Common.{◌≡◌, ◌++◌, length, ap, subst, arith, ◌∙◌}
use Rattle.std.proofs.lemmas.Bool.{eq-eqb, ne_eqb}
use Rattle.std.proofs.lemmas.List.{length_push}
use Rattle.bound_search.proofs.Cutting.{electing_below, electing_more, electing_same}
use Rattle.bound_search.proofs.pieces.add_pieces.Goals as goal

pub loop-other-preserved-then-other-own : goal.loop-other-preserved-then-other-own
loop-other-preserved-then-other-own c =
    let inv = c.loop-other.invariant in
    let same = eq-eqb c.loop-other.other c.args.last (omega (arith, c.if-other-own.true, c.from-own.ensures)) in
    record {
      added = inv.added ∙ ap (λ s. c.args.tails.now.items ++ s) (electing_same c.args.n c.args.last c.loop-other.other same);
      few = omega (arith, inv.few);
    }

pub loop-other-preserved : goal.loop-other-preserved
loop-other-preserved c =
    let inv = c.loop-other.invariant in
    let other = ne_eqb c.loop-other.other c.args.last (λ e. c.if-other-own.false (omega (arith, e, c.from-own.ensures))) in
    let items = c.in_ok-push.ensures.items in
    record {
      added = electing_more c.args.n c.args.last c.loop-other.other c.args.tails.now.items c.loop-other.tails.items _ c.last-end.result c.front.result
          inv.added other c.last-end.ensures.number c.last-end.ensures.alone c.front.ensures items;
      few = omega (arith, ap length items ∙ length_push c.loop-other.tails.items c.front.result, inv.few);
    }

pub returns-clause-added : goal.returns-clause-added
returns-clause-added c =
    let end : c.loop-other.other ≡ c.args.n = omega (arith, c.loop-other-test.false, c.loop-other.auto.other-end) in
    subst (λ k. c.loop-other.tails.items ≡ c.args.tails.now.items ++ electing_below c.args.n c.args.last k) end c.loop-other.invariant.added

pub returns-clause-few : goal.returns-clause-few
returns-clause-few c = omega (arith, c.loop-other.invariant.few, c.loop-other-test.false, c.loop-other.auto.other-end)
