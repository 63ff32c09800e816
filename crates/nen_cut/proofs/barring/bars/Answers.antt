use Rattle.std.proofs.Common.{◌≡◌, Bool, true, false, not, ◌&&◌, is_some, refl, sym, ap, ◌∙◌}
use Rattle.irv_base.specs.Candidates.{has}
use Rattle.assertions.specs.declared.assertion.Assertion.TheVariants.{Neb}
use Rattle.fewest.specs.Nens.{is_enough}
use Rattle.nen_cut.proofs.Enough.{margin-test}
use Rattle.nen_cut.proofs.barring.bars.Goals as goal

and-yes : (b : Bool) → b ≡ (b && true)
and-yes true = refl
and-yes false = refl

pub returns : goal.returns
returns c = λ records of.
    let n = c.args.ahead.now.n in
    let enough = is_enough n records c.args.least (Neb c.args.w c.args.c) in
    let out : has c.args.with c.args.w ≡ false = sym c.has.ensures ∙ c.if-has.false in
    c.is_some.ensures ∙ ap is_some (c.margin_of.ensures records of) ∙ margin-test n records c.args.least (Neb c.args.w c.args.c)
    ∙ and-yes enough ∙ ap (λ b. enough && not b) (sym out)
