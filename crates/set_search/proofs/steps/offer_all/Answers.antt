use Rattle.std.proofs.Common.{◌+◌, ap, subst, sym, ◌∙◌}
use Rattle.assertions.specs.Scores.{all_offered}
use Rattle.set_tallies.specs.Bags.{HasTallies}
use Rattle.assertions.specs.Steps.{more}
use Rattle.set_search.proofs.Offering.{offers_from, offer-taken, offer-left}
use Rattle.set_search.proofs.steps.offer_all.Goals as goal
use Rattle.set_search.proofs.steps.offer_all.Goals.{then-ne, else-ne}

pub loop-d-preserved : goal.loop-d-preserved
loop-d-preserved c = λ records of tallied.
    elim c.if-ne.branch [
      | then-ne w ↦
          let own = subst (λ k. HasTallies records k (more c.args.set c.args.c) c.args.row.now) c.requires.same tallied in
          ap (λ s. all_offered records s (offers_from c.args.set c.args.c (c.loop-d.d + 1) c.args.n)) (w.score-is ∙ w.offer_one-score.ensures records of own)
          ∙ offer-taken records c.args.set c.args.c c.loop-d.d c.args.n c.loop-d.score c.loop-d-test.true (sym c.ne.ensures ∙ w.if-ne.true)
          ∙ c.loop-d.invariant records of tallied
      | else-ne w ↦
          ap (λ s. all_offered records s (offers_from c.args.set c.args.c (c.loop-d.d + 1) c.args.n)) w.score-is
          ∙ offer-left records c.args.set c.args.c c.loop-d.d c.args.n c.loop-d.score c.loop-d-test.true (sym c.ne.ensures ∙ w.if-ne.false)
          ∙ c.loop-d.invariant records of tallied
    ]
