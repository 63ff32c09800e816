use Rattle.std.proofs.Common.{◌≡◌, ◌&&◌, not, drop, sym, ap, arith, ◌∙◌}
use Rattle.std.specs.List.{list_any}
use Rattle.std.proofs.lemmas.List.{drop_all, get_or_default}
use Rattle.irv_base.specs.Candidates.{has}
use Rattle.assertions.specs.declared.assertion.Assertion.TheVariants.{Neb}
use Rattle.assertions.specs.Steps.{more}
use Rattle.fewest.specs.Nens.{is_enough}
use Rattle.nen_cut.proofs.ByWinners.{bars, by-winners, one-bars, bars-not}
use Rattle.nen_cut.proofs.barring.is_barred.Goals as goal

pub returns-then-bars : goal.returns-then-bars
returns-then-bars c = λ records of.
    let n = c.args.ahead.now.n in
    let winners = c.neb_winners-w-items.result.now in
    let i = c.loop-w.w-index in
    let w = c.w-item.result in
    let at = get_or_default winners i 0 w c.loop-w-test.true ∙ sym c.w-item.is in
    let number = c.with-with.ensures.number c.requires.outside in
    let same : c.with-with.result ≡ more c.args.set c.args.c = omega (arith, number) in
    let t = ap (λ s. is_enough n records c.args.least (Neb w c.args.c) && not (has s w)) (sym same) ∙ sym (c.bars.ensures records of) ∙ c.if-bars.true in
    sym (sym (by-winners n records c.args.least c.args.set c.args.c)
    ∙ ap (list_any (bars n records c.args.least c.args.set c.args.c)) (sym (c.neb_winners-w-items.ensures.winners records of))
    ∙ c.loop-w.invariant records of
    ∙ one-bars n records c.args.least c.args.set c.args.c winners i w c.loop-w-test.true at t)

pub loop-w-preserved : goal.loop-w-preserved
loop-w-preserved c = λ records of.
    let n = c.args.ahead.now.n in
    let winners = c.neb_winners-w-items.result.now in
    let i = c.loop-w.w-index in
    let w = c.w-item.result in
    let at = get_or_default winners i 0 w c.loop-w-test.true ∙ sym c.w-item.is in
    let number = c.with-with.ensures.number c.requires.outside in
    let same : c.with-with.result ≡ more c.args.set c.args.c = omega (arith, number) in
    let f = ap (λ s. is_enough n records c.args.least (Neb w c.args.c) && not (has s w)) (sym same) ∙ sym (c.bars.ensures records of) ∙ c.if-bars.false in
    c.loop-w.invariant records of ∙ bars-not n records c.args.least c.args.set c.args.c winners i w c.loop-w-test.true at f

pub returns : goal.returns
returns c = λ records of.
    let n = c.args.ahead.now.n in
    let winners = c.neb_winners-w-items.result.now in
    let none = drop_all c.loop-w.w-index winners (omega (arith, c.loop-w-test.false)) in
    sym (sym (by-winners n records c.args.least c.args.set c.args.c)
    ∙ ap (list_any (bars n records c.args.least c.args.set c.args.c)) (sym (c.neb_winners-w-items.ensures.winners records of))
    ∙ c.loop-w.invariant records of
    ∙ ap (list_any (bars n records c.args.least c.args.set c.args.c)) none)
