use Rattle.std.proofs.Common.{◌∙◌, IfOk, length, ap, subst}
use Rattle.session_state.specs.Claims.{audited_by, values_of}
use Rattle.session_state.specs.Draws.{IsSessionOf}
use Rattle.session_state.proofs.Claims.{audited-file}
use Rattle.audit_session.specs.Going.{all_seen, drawn_cards}
use Rattle.audit_session.proofs.next.advance.Goals as goal

pub returns-clause-of_draws : goal.returns-clause-of_draws
returns-clause-of_draws c =
    let content = c.args.s.now in
    let file = c.args.f.now in
    let n = length c.args.l.now in
    subst (λ claims. IfOk c.advance_by.result (λ _. IsSessionOf content.session.limit content.session.gamma claims c.args.l.now
    (all_seen c.args.seen.now n) (drawn_cards content.seed n c.args.draws) c.advance_by.new.s.session))
    (ap (audited_by (values_of file)) c.requires.margins ∙ audited-file file) c.advance_by.ensures.of_draws
