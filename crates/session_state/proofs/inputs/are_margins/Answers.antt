use Rattle.std.proofs.Common.{◌∙◌, ℕ, map, sym, arith}
use Rattle.std.proofs.lemmas.List.{get_or-map, get_or_default, length-map, same_lists}
use Rattle.assertions.specs.declared.assertion.Assertion.TheVariants.{Neb}
use Rattle.assertions.specs.declared.assertion.Claim.{Claim}
use Rattle.session_state.proofs.inputs.are_margins.Goals as goal

pub returns-clause-same : goal.returns-clause-same
returns-clause-same c =
    let margins = c.args.margins.now in
    let claims = c.args.claims.now in
    let margin : Claim → ℕ = λ claim. claim.margin in
    same_lists margins (map margin claims) (omega (arith, length-map claims margin))
    (λ k d below.
    let same = get_or_default margins k d 0 below in
    same ∙ c.loop-i.invariant k (omega arith) (record { assertion = Neb 0 0; margin = 0 })
    ∙ sym (get_or-map margin claims k (record { assertion = Neb 0 0; margin = 0 }) d (omega arith)))
