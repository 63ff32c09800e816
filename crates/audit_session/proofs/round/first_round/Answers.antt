use Rattle.std.proofs.Common.{◌∙◌, length, ap, refl, arith}
use Rattle.audit_session.specs.Going.{all_seen, drawn_cards}
use Rattle.audit_session.proofs.Advanced.{long-drawn}
use Rattle.audit_session.proofs.NextRound.{round-is, over-same}
use Rattle.audit_session.proofs.round.first_round.Goals as goal

pub round_over-requires-clause-most : goal.round_over-requires-clause-most
round_over-requires-clause-most g c =
    let n = length c.args.l.now in
    let drawn = ap length (c.deref.ensures.value ∙ c.in_ok-drawn.ensures.cards) in
    omega (arith, drawn, long-drawn c.args.l.now (all_seen c.args.seen.now n) c.args.seed.now n c.args.draws, c.requires.most)

pub returns : goal.returns
returns g c =
    let n = length c.args.l.now in
    let seen = all_seen c.args.seen.now n in
    let ds = drawn_cards c.args.seed.now n c.args.draws in
    let values = g.T.Claims.values c.args.claims.now in
    let over = c.in_ok-round.ensures ∙ over-same values _ _ c.args.gamma _ c.args.margins.now _ _ _ c.cards.ensures.all refl refl
    (c.deref.ensures.value ∙ c.in_ok-drawn.ensures.cards) in
    record {
      seen = c.in_ok-drawn.ensures.seen;
      round =
          over
          ∙ round-is c.args.gamma values c.args.margins.now c.args.l.now seen ds c.args.draws c.requires.each
          (long-drawn c.args.l.now seen c.args.seed.now n c.args.draws);
      refused = tt;
    }
