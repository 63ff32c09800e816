use Rattle.std.proofs.Common.{◌≡◌, ◌<◌, ◌^◌, not, ◌==◌, bit_or, get_or, length, arith, rules, ap, ap₂, subst, ◌∙◌}
use Rattle.std.proofs.lemmas.List.{get_or_default}
use Rattle.irv_base.specs.declared.limits.TheConstants.{ROOM}
use Rattle.cover_checker.proofs.Indexes.{outside_is}
use Rattle.cover_checker.proofs.refuting.is_beaten.Goals as goal

pub returns-clause-beaten : goal.returns-clause-beaten
returns-clause-beaten c =
    let winners = c.args.winners.now in
    let it = c.index-winners-index in
    let long : length winners ≡ ROOM = search rules in
    let mask : c.number-mask.result ≡ get_or c.args.winners.now c.args.first 0 =
    c.number-mask.ensures ∙ get_or_default winners c.index.result it.result 0 (omega (arith, c.index.ensures.below, long))
    ∙ ap (λ f. get_or winners f 0) c.index.ensures.same in
    ap₂ (λ a b. not (bit_or a b == b)) mask c.number-other.ensures
    ∙ outside_is (get_or winners c.args.first 0) c.args.set (subst (λ x. x < 2 ^ ROOM) mask c.number-mask.type_inv)

pub returns-clause-fits : goal.returns-clause-fits
returns-clause-fits c =
    let winners = c.args.winners.now in
    let it = c.index-winners-index in
    let long : length winners ≡ ROOM = search rules in
    let mask : c.number-mask.result ≡ get_or c.args.winners.now c.args.first 0 =
    c.number-mask.ensures ∙ get_or_default winners c.index.result it.result 0 (omega (arith, c.index.ensures.below, long))
    ∙ ap (λ f. get_or winners f 0) c.index.ensures.same in
    subst (λ x. x < 2 ^ ROOM) mask c.number-mask.type_inv
