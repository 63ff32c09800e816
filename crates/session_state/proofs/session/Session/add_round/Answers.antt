use Rattle.std.proofs.Common.{◌≡◌, ◌∙◌, ◌++◌, ◌∷◌, [], true, not, cond, is_ok, ap, sym, subst}
use Rattle.session_state.specs.Content.{IsSound, with_round}
use Rattle.session_state.proofs.Added.{added}
use Rattle.session_state.proofs.session.Session.add_round.Goals as goal

pub invariant_of-self-2 : goal.invariant_of-self-2
invariant_of-self-2 c =
    let rounds = c.self.inside.rounds.items in
    let ok : is_ok c.push.result ≡ true = c.is_err.ensures.negation ∙ ap not c.if-is_err.false in
    let items = c.push.ensures.items ∙ ap (λ b. cond b (rounds ++ c.args.round ∷ []) rounds) ok in
    let sound = subst IsSound c.self.view_is c.self.invariant in
    rw items (subst (λ now. IsSound (with_round now c.args.round)) (sym c.self.view_is)
    (added c.args.self.now c.args.round sound c.requires.round c.requires.later c.requires.most))
