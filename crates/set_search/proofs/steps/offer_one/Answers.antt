use Rattle.std.proofs.Common.{◌-◌, get_or, ap₂, sym, ◌∙◌}
use Rattle.set_search.proofs.Offering.{nen-offered}
use Rattle.set_search.proofs.steps.offer_one.Goals as goal

pub returns-then-has : goal.returns-then-has
returns-then-has c = λ records of tallied.
    nen-offered records c.args.row.now c.args.ahead.now.n c.args.set c.args.c c.args.other c.with-rest.result
    c.saturating_sub-margin.result c.args.score c.offer.result
    c.requires.outside (sym c.has.ensures ∙ c.if-has.true) c.requires.below c.requires.other (c.with-rest.ensures.number c.requires.outside) tallied
    (c.saturating_sub-margin.ensures ∙ ap₂ (λ x y. get_or c.args.row.now x 0 - get_or c.args.row.now y 0) c.index.ensures.same c.index-then-has.ensures.same)
    c.offer.ensures
