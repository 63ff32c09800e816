use Rattle.std.proofs.Common.{◌≡◌, subst, arith, ◌∙◌}
use Rattle.std.proofs.lemmas.Bool.{eq-eqb, ne_eqb}
use Rattle.bound_search.proofs.Cutting.{pieces_below, pieces_more, pieces_same}
use Rattle.bound_search.proofs.pieces.tails_of.Goals as goal

pub loop-last-preserved-then-last-won : goal.loop-last-preserved-then-last-won
loop-last-preserved-then-last-won c =
    let inv = c.loop-last.invariant in
    let same = eq-eqb c.loop-last.last c.args.winner (omega (arith, c.if-last-won.true, c.from-won.ensures)) in
    record {
      all = inv.all ∙ pieces_same c.args.n c.args.winner c.loop-last.last same;
      few = omega (arith, inv.few);
    }

pub loop-last-preserved : goal.loop-last-preserved
loop-last-preserved c =
    let inv = c.loop-last.invariant in
    let other = ne_eqb c.loop-last.last c.args.winner (λ e. c.if-last-won.false (omega (arith, e, c.from-won.ensures))) in
    record {
      all = pieces_more c.args.n c.args.winner c.loop-last.last c.loop-last.tails.items _ inv.all other c.in_ok-add_pieces.ensures.added;
      few = omega (arith, c.in_ok-add_pieces.ensures.few, inv.few, c.requires);
    }

pub returns-clause-pieces : goal.returns-clause-pieces
returns-clause-pieces c =
    let end : c.loop-last.last ≡ c.args.n = omega (arith, c.loop-last-test.false, c.loop-last.auto.last-end) in
    subst (λ k. c.loop-last.tails.items ≡ pieces_below c.args.n c.args.winner k) end c.loop-last.invariant.all

pub returns-clause-few : goal.returns-clause-few
returns-clause-few c = omega (arith, c.loop-last.invariant.few, c.loop-last-test.false, c.loop-last.auto.last-end, c.requires)
