use Rattle.std.proofs.Common.{◌≡◌, ◌∙◌, ◌≤◌, All, IfOk, length, map, sym, ap, subst}
use Rattle.assertion_file.specs.Content.{IsSoundClaim}
use Rattle.irv_base.specs.declared.limits.TheConstants.{MOST_CARDS}
use Rattle.km_risk.specs.Factor.{IsSetting}
use Rattle.session_state.proofs.Claims.{audited-file}
use Rattle.session_state.specs.Claims.{audited_by, values_of}
use Rattle.session_state.specs.Draws.{round_to}
use Rattle.audit_session.specs.Going.{all_seen, drawn_cards}
use Rattle.contest_set.proofs.Rounds.{settings-of}
use Rattle.contest_set.proofs.one.round_of.Goals as goal

pub first_round-requires-clause-settings : goal.first_round-requires-clause-settings
first_round-requires-clause-settings c =
    let file = c.args.file.now in
    let terms = c.requires.terms in
    let cards = length c.args.linked.now in
    let sound = subst (All (IsSoundClaim (length file.candidates) file.records)) c.claims.ensures.same c.claims.ensures.sound in
    let margins = c.deref.ensures.value ∙ c.in_ok-margins.ensures ∙ ap (map (λ claim. claim.margin)) c.claims.ensures.same in
    subst (All (λ margin. IsSetting cards margin c.args.terms.now.gamma)) (sym margins)
    (settings-of cards c.args.terms.now.gamma (length file.candidates) file c.requires.records (subst (λ n. n ≤ MOST_CARDS) c.cards-cards.ensures.all
    c.cards-cards.ensures.most) terms.some_gamma terms.most_gamma sound)

pub returns-clause-round : goal.returns-clause-round
returns-clause-round c =
    let file = c.args.file.now in
    let terms = c.args.terms.now in
    let linked = c.args.linked.now in
    let cards = length linked in
    let margins = c.deref.ensures.value ∙ c.in_ok-margins.ensures ∙ ap (map (λ claim. claim.margin)) c.claims.ensures.same in
    subst (λ claims. IfOk c.first_round.result (λ round. round
    ≡ round_to terms.gamma claims linked (all_seen c.args.seen.now cards) (drawn_cards terms.seed cards terms.draws) terms.draws))
    (ap (audited_by (values_of file)) margins ∙ audited-file file) c.first_round.ensures.round
