use Rattle.std.proofs.Common.{◌∙◌, ◌<◌, All, length, sym, ap, subst}
use Rattle.session_state.specs.Claims.{audited_by}
use Rattle.session_state.specs.Content.{Content, with_round}
use Rattle.session_state.specs.Draws.{IsSessionOf}
use Rattle.session_state.specs.Sessions.{Round, IsRound}
use Rattle.audit_session.specs.Going.{all_seen, drawn_cards}
use Rattle.audit_session.proofs.Advanced.{earlier, is-round, more, of-draws}
use Rattle.audit_session.proofs.next.advance_by.Goals as goal

pub add_round-requires-clause-round : goal.add_round-requires-clause-round
add_round-requires-clause-round g c =
    let content = c.args.s.now in
    let values = g.T.Claims.values c.args.claims.now in
    subst (IsRound content.session) (sym c.in_ok-round.ensures.round)
    (is-round content values c.args.l.now c.args.seen.now c.args.draws c.requires.cards c.requires.each c.count-count.ensures.assorters
    c.cards-cards.ensures.sound c.requires.some
    c.in_ok-round.ensures.not_refused)

pub add_round-requires-clause-later : goal.add_round-requires-clause-later
add_round-requires-clause-later g c =
    let content = c.args.s.now in
    let values = g.T.Claims.values c.args.claims.now in
    let sound = c.cards-cards.ensures.sound in
    subst (λ (round : Round). All (λ (before : Round). before.draws < round.draws) content.session.rounds) (sym c.in_ok-round.ensures.round)
    (earlier content values c.args.l.now c.args.seen.now c.args.draws c.requires.cards c.requires.each c.count-count.ensures.assorters sound c.requires.some
    (more content values c.args.l.now c.args.seen.now c.args.draws c.requires.cards c.requires.each c.count-count.ensures.assorters sound c.requires.some
    c.in_ok-round.ensures.not_refused))

pub returns-clause-of_draws : goal.returns-clause-of_draws
returns-clause-of_draws g c =
    let content = c.args.s.now in
    let values = g.T.Claims.values c.args.claims.now in
    let n = length c.args.l.now in
    let next = c.in_ok-add_round.ensures.added ∙ ap (with_round content) c.in_ok-round.ensures.round in
    subst (λ (s : Content). IsSessionOf content.session.limit content.session.gamma (audited_by values content.session.margins) c.args.l.now
    (all_seen c.args.seen.now n) (drawn_cards content.seed n c.args.draws) s.session) (sym next)
    (of-draws content values c.args.l.now c.args.seen.now c.args.draws c.requires.cards c.requires.each c.count-count.ensures.assorters
    c.cards-cards.ensures.sound c.requires.some
    c.in_ok-round.ensures.not_refused)
