use Rattle.std.proofs.Common.{ap, sym, arith, ◌+◌, ◌∙◌, drop}
use Rattle.std.proofs.lemmas.List.{drop_all, get_or_default}
use Rattle.assertions.specs.declared.assertion.Assertion.TheVariants.{Neb}
use Rattle.assertions.specs.Scores.{offered, all_offered}
use Rattle.suffix_tree.proofs.Offered.{nebs_of, neb-taken, neb-left, untrue-left}
use Rattle.suffix_tree.proofs.offers.offer_nebs.Goals as goal
use Rattle.suffix_tree.proofs.offers.offer_nebs.Goals.{then-not-has, else-not-has}

pub loop-w-preserved : goal.loop-w-preserved
loop-w-preserved c = λ records h.
    let winners = c.neb_winners-w-items.result.now in
    let i = c.loop-w.w-index in
    let w = c.w-item.result in
    let at = get_or_default winners i 0 w c.loop-w-test.true ∙ sym c.w-item.is in
    elim c.if-not-has.branch [
      | then-not-has t ↦
          ap (λ s. all_offered records s (nebs_of c.args.set c.args.c (drop (i + 1) winners)))
          (t.score-is ∙ t.offer-score.ensures ∙ ap (λ m. offered c.loop-w.score m (Neb w c.args.c)) (t.neb_margin.ensures records h))
          ∙ neb-taken records c.args.set c.args.c i w winners c.loop-w.score c.loop-w-test.true at (sym c.has.ensures ∙ t.if-not-has.true)
          ∙ c.loop-w.invariant records h
      | else-not-has t ↦
          ap (λ s. all_offered records s (nebs_of c.args.set c.args.c (drop (i + 1) winners))) t.score-is
          ∙ neb-left records c.args.set c.args.c i w winners c.loop-w.score c.loop-w-test.true at (sym c.has.ensures ∙ t.if-not-has.false)
          ∙ c.loop-w.invariant records h
    ]

pub returns : goal.returns
returns c = λ records h some.
    let winners = c.neb_winners-w-items.result.now in
    let none = drop_all c.loop-w.w-index winners (omega (arith, c.loop-w-test.false)) in
    sym (ap (λ xs. all_offered records c.loop-w.score (nebs_of c.args.set c.args.c xs)) none)
    ∙ c.loop-w.invariant records h
    ∙ ap (λ xs. all_offered records c.args.start (nebs_of c.args.set c.args.c xs)) (c.neb_winners-w-items.ensures.winners records h)
    ∙ untrue-left records c.args.set c.args.c _ c.args.start some
