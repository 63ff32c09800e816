use Rattle.std.proofs.Common.{◌∙◌, All, length, map, ap, subst, arith}
use Rattle.std.proofs.lemmas.List.{length-map}
use Rattle.assertion_file.specs.Content.{IsSoundClaim}
use Rattle.session_state.proofs.Added.{margins-fit}
use Rattle.session_state.proofs.begin.begin_session.Goals as goal

pub begin_plain-requires-clause-some : goal.begin_plain-requires-clause-some
begin_plain-requires-clause-some c =
    let margins = ap length (c.in_ok-margins.ensures ∙ ap (map (λ claim. claim.margin)) c.claims.ensures.same) in
    omega (arith, margins, length-map c.args.f.now.claims (λ claim. claim.margin), c.requires.some)

pub begin_plain-requires-clause-margins : goal.begin_plain-requires-clause-margins
begin_plain-requires-clause-margins c =
    let file = c.args.f.now in
    let sound = subst (All (IsSoundClaim (length file.candidates) file.records)) c.claims.ensures.same c.claims.ensures.sound in
    rw (c.in_ok-margins.ensures ∙ ap (map (λ claim. claim.margin)) c.claims.ensures.same)
    (margins-fit c.args.cards (length file.candidates) file.records file c.requires.margins sound)
