use Rattle.std.proofs.Common.{rules, ◌≡◌, ◌∙◌, ◌<◌, ◌≤◌, All, IfErr, Err, List, length, map, take, sym, ap, subst, arith}
use Rattle.std.proofs.lemmas.List.Elements.{All-weaker}
use Rattle.audit_session.specs.declared.compared.Drawn.{Drawn}
use Rattle.audit_session.specs.Going.{all_counts, all_seen, drawn_at, drawn_cards}
use Rattle.audit_session.specs.Refusals.{Refuses, changed_from, last_draws, refusal, without_record}
use Rattle.audit_session.proofs.Advanced.{earlier, long-drawn, refusal-is}
use Rattle.audit_session.proofs.NextRound.{over-same, round-is, settings}
use Rattle.audit_session.proofs.next.next_round.Goals as goal

pub counts_before-requires-clause-few : goal.counts_before-requires-clause-few
counts_before-requires-clause-few g c =
    let n = length c.args.l.now in
    let drawn = ap length (c.deref.ensures.value ∙ c.in_ok-drawn.ensures.cards) in
    omega (arith, drawn, long-drawn c.args.l.now (all_seen c.args.seen.now n) c.seed.result.now n c.args.draws, c.requires.most)

pub counts_before-requires-clause-drawn : goal.counts_before-requires-clause-drawn
counts_before-requires-clause-drawn g c =
    let content = c.args.s.now in
    let n = length c.args.l.now in
    let drawn = ap length (c.deref.ensures.value ∙ c.in_ok-drawn.ensures.cards) in
    let long = long-drawn c.args.l.now (all_seen c.args.seen.now n) c.seed.result.now n c.args.draws in
    let more : last_draws content.session.rounds < c.args.draws = omega (arith, c.last_draws-had.ensures, ap last_draws c.rounds.ensures) in
    let before = earlier content (g.T.Claims.values c.args.claims.now) c.args.l.now c.args.seen.now c.args.draws c.requires.cards c.requires.each
    c.count-count.ensures.assorters c.cards-cards.ensures.sound c.requires.some more in
    subst (All (λ r. r.draws ≤ length c.deref.result.now)) (sym c.rounds-2.ensures)
    (All-weaker (λ r. r.draws < c.args.draws) (λ r. r.draws ≤ length c.deref.result.now) (λ r less. omega (arith, drawn, long)) content.session.rounds before)

pub counts_before-requires-clause-each : goal.counts_before-requires-clause-each
counts_before-requires-clause-each g c =
    subst (All (λ r. length r.counts ≡ length (g.T.Claims.values c.args.claims.now))) (sym c.rounds-2.ensures)
    (λ k d below. (c.cards-cards.ensures.sound.session.rounds k d below).each ∙ c.requires.each)

pub returns-in_err-before-clause-refused : goal.returns-in_err-before-clause-refused
returns-in_err-before-clause-refused g c =
    let content = c.args.s.now in
    let values = g.T.Claims.values c.args.claims.now in
    let n = length c.args.l.now in
    let fault = c.in_err-before.field-0.0 in
    let first = refusal content values c.args.l.now c.args.seen.now c.args.draws in
    let drawn : List Drawn = map (drawn_at c.args.l.now (all_seen c.args.seen.now n)) (drawn_cards content.seed n c.args.draws) in
    let more : last_draws content.session.rounds < c.args.draws = omega (arith, c.last_draws-had.ensures, ap last_draws c.rounds.ensures) in
    let none = ap (λ seed. without_record seed n c.args.seen.now c.args.draws) (sym c.seed.ensures) ∙ c.in_ok-drawn.ensures.seen in
    let cards : c.deref.result.now ≡ drawn = c.deref.ensures.value ∙ c.in_ok-drawn.ensures.cards
    ∙ ap (λ seed. map (drawn_at c.args.l.now (all_seen c.args.seen.now n)) (drawn_cards seed n c.args.draws)) c.seed.ensures in
    let moved : changed_from values c.deref.result.now 1 c.rounds-2.result.now ≡ changed_from values drawn 1 content.session.rounds =
    λ i. changed_from values (cards i) 1 (c.rounds-2.ensures i) in
    let is = moved ∙ sym (refusal-is content values c.args.l.now c.args.seen.now c.args.draws more none) in
    let given : c.from_residual-in_err-before.result ≡ Err fault = search rules in
    subst (λ r. IfErr r (Refuses first)) (sym given) (subst (λ o. Refuses o fault) is c.in_err-before.ensures.refused)

pub round_over-requires-clause-settings : goal.round_over-requires-clause-settings
round_over-requires-clause-settings g c =
    settings c.args.s.now c.cards.result c.gamma.result c.margins.result.now c.cards-cards.ensures.sound c.cards.ensures.same c.gamma.ensures
    c.margins.ensures

pub round_over-requires-clause-most : goal.round_over-requires-clause-most
round_over-requires-clause-most g c =
    let n = length c.args.l.now in
    let drawn = ap length (c.deref-2.ensures.value ∙ c.in_ok-drawn.ensures.cards) in
    omega (arith, drawn, long-drawn c.args.l.now (all_seen c.args.seen.now n) c.seed.result.now n c.args.draws, c.requires.most)

pub round_over-requires-clause-had : goal.round_over-requires-clause-had
round_over-requires-clause-had g c =
    let n = length c.args.l.now in
    let drawn = ap length (c.deref-2.ensures.value ∙ c.in_ok-drawn.ensures.cards) in
    omega (arith, drawn, long-drawn c.args.l.now (all_seen c.args.seen.now n) c.seed.result.now n c.args.draws, c.if-draws-had.false)

pub round_over-requires-clause-before : goal.round_over-requires-clause-before
round_over-requires-clause-before g c =
    let had = c.last_draws-had.result in
    let values = g.T.Claims.values c.args.claims.now in
    let same-had : last_draws c.rounds-2.result.now ≡ had = ap last_draws (c.rounds-2.ensures ∙ sym c.rounds.ensures) ∙ sym c.last_draws-had.ensures in
    let same-drawn : c.deref.result.now ≡ c.deref-2.result.now = c.deref.ensures.value ∙ sym c.deref-2.ensures.value in
    let moved : all_counts values (take (last_draws c.rounds-2.result.now) c.deref.result.now) ≡ all_counts values (take had c.deref-2.result.now) =
    λ i. all_counts values (take (same-had i) (same-drawn i)) in
    c.deref-3.ensures.value ∙ c.in_ok-before.ensures.counts ∙ moved

pub returns-clause-round : goal.returns-clause-round
returns-clause-round g c =
    let content = c.args.s.now in
    let values = g.T.Claims.values c.args.claims.now in
    let n = length c.args.l.now in
    let seen = all_seen c.args.seen.now n in
    let cards = c.deref-2.ensures.value ∙ c.in_ok-drawn.ensures.cards
    ∙ ap (λ seed. map (drawn_at c.args.l.now seen) (drawn_cards seed n c.args.draws)) c.seed.ensures in
    c.in_ok-round.ensures
    ∙ over-same values _ _ _ _ _ _ _ _ (c.cards.ensures.same ∙ c.requires.cards) c.gamma.ensures c.margins.ensures cards
    ∙ round-is content.session.gamma values content.session.margins c.args.l.now seen (drawn_cards content.seed n c.args.draws) c.args.draws c.requires.each
    (long-drawn c.args.l.now seen content.seed n c.args.draws)
