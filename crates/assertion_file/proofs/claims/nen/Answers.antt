use Rattle.std.proofs.Common.{ap, sym, refl, ◌∙◌, Ok}
use Rattle.assertions.specs.declared.assertion.Assertion.TheVariants.{Nen}
use Rattle.irv_base.specs.Candidates.{has}
use Rattle.irv_base.proofs.Distinct.{distinct-from_test}
use Rattle.irv_base.proofs.Sets.{has-set_of}
use Rattle.assertion_file.proofs.Judged.{both-hold}
use Rattle.assertion_file.specs.Ids.{numbers_of}
use Rattle.assertion_file.proofs.Listed.{texts}
use Rattle.assertion_file.proofs.claims.nen.Goals as goal

pub returns-then-not-has : goal.returns-then-not-has
returns-then-not-has c =
    let b = both-hold _ _ _ _ _ _ (sym c.in_ok-rest.ensures) in
    let in_w = sym (has-set_of (numbers_of c.args.names.now (texts c.args.rest.now)) c.args.w (distinct-from_test _ b.second))
    ∙ ap (λ s. has s c.args.w) b.same ∙ sym c.has.ensures ∙ c.if-not-has.true in
    rw (b.first, b.second, in_w) refl

pub returns-then-not-has-2 : goal.returns-then-not-has-2
returns-then-not-has-2 c =
    let b = both-hold _ _ _ _ _ _ (sym c.in_ok-rest.ensures) in
    let numbers = numbers_of c.args.names.now (texts c.args.rest.now) in
    let in_w = sym (has-set_of numbers c.args.w (distinct-from_test _ b.second)) ∙ ap (λ s. has s c.args.w) b.same ∙ sym c.has.ensures ∙ c.if-not-has.false in
    let in_l = sym (has-set_of numbers c.args.l (distinct-from_test _ b.second)) ∙ ap (λ s. has s c.args.l) b.same ∙ sym c.has-2.ensures
    ∙ c.if-not-has-2.true in
    rw (b.first, b.second, in_w, in_l) refl

pub returns : goal.returns
returns c =
    let b = both-hold _ _ _ _ _ _ (sym c.in_ok-rest.ensures) in
    let numbers = numbers_of c.args.names.now (texts c.args.rest.now) in
    let in_w = sym (has-set_of numbers c.args.w (distinct-from_test _ b.second)) ∙ ap (λ s. has s c.args.w) b.same ∙ sym c.has.ensures ∙ c.if-not-has.false in
    let in_l = sym (has-set_of numbers c.args.l (distinct-from_test _ b.second)) ∙ ap (λ s. has s c.args.l) b.same ∙ sym c.has-2.ensures
    ∙ c.if-not-has-2.false in
    rw (b.first, b.second, in_w, in_l) (ap (λ s. Ok (Nen c.args.w c.args.l s)) (sym b.same))
