use Rattle.std.proofs.Common.{Some, sym, ap, arith, eqb-true, ◌∙◌}
use Rattle.std.proofs.lemmas.Bool.{eqb-false}
use Rattle.assertions.specs.declared.assertion.Assertion.TheVariants.{Neb}
use Rattle.nen_cut.proofs.Enough.{margin-none, margin-some, neb-enough, neb-same, not-enough}
use Rattle.nen_cut.proofs.barring.margin_of.Goals as goal

pub returns-then-eq : goal.returns-then-eq
returns-then-eq c = λ records of.
    let n = c.args.ahead.now.n in
    sym (margin-none n records c.args.least (Neb c.args.w c.args.l)
    (neb-same n c.args.w c.args.l records c.args.least (eqb-true c.args.w c.args.l (sym c.eq.ensures ∙ c.if-eq.true))))

pub returns-then-margin-max : goal.returns-then-margin-max
returns-then-margin-max c = λ records of.
    let n = c.args.ahead.now.n in
    let m = c.neb_margin-margin.ensures records of in
    let low = c.if-margin-max.true in
    let e = c.max.ensures in
    sym (margin-none n records c.args.least (Neb c.args.w c.args.l)
    (not-enough n records c.args.least (Neb c.args.w c.args.l) (omega (arith, m, low, e))))

pub returns : goal.returns
returns c = λ records of.
    let n = c.args.ahead.now.n in
    let m = c.neb_margin-margin.ensures records of in
    let low = c.if-margin-max.false in
    let e = c.max.ensures in
    let differ = eqb-false c.args.w c.args.l (sym c.eq.ensures ∙ c.if-eq.false) in
    ap Some m
    ∙ sym (margin-some n records c.args.least (Neb c.args.w c.args.l)
    (neb-enough n c.args.w c.args.l records c.args.least c.requires.winner c.requires.loser differ (omega (arith, m, low, e))))
