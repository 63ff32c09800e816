use Rattle.std.proofs.Common.{ap, arith, sym, ◌∙◌}
use Rattle.std.proofs.lemmas.List.{drop_all, get_or_default}
use Rattle.suffix_tree.specs.Offers.{with_nens, with_standing}
use Rattle.suffix_tree.proofs.Weakest.{of-loser, next-counts, min-bounded}
use Rattle.suffix_tree.proofs.offers.least_standing.Goals as goal

pub loop-l-init : goal.loop-l-init
loop-l-init c = record {
  votes = omega (arith, c.standing-least.ensures.votes);
  loser = c.standing-least.ensures.candidate;
  best = λ d set start winner.
      ap (λ s. with_nens c.args.row.now d set s c.args.others.now)
      (of-loser d set c.args.for_winner c.args.row.now start c.standing-least.result c.args.first winner c.standing-least.ensures.votes
      c.standing-least.ensures.loser);
}

pub loop-l-preserved : goal.loop-l-preserved
loop-l-preserved c =
    let others = c.args.others.now in
    let i = c.loop-l.l-index in
    let l = c.l-item.result in
    record {
      votes = omega (arith, c.loop-l.invariant.votes, c.min-least.ensures);
      loser = min-bounded c.loop-l.least c.standing.result c.min-least.result c.loop-l.invariant.loser c.standing.ensures.candidate c.min-least.ensures;
      best = λ d set start winner.
          next-counts c.args.row.now others d set c.args.for_winner i l c.loop-l.least c.standing.result c.min-least.result start c.loop-l-test.true
          (get_or_default others i 0 l c.loop-l-test.true ∙ sym c.l-item.is) winner c.loop-l.invariant.votes c.standing.ensures.votes
          c.standing.ensures.loser c.min-least.ensures
          ∙ c.loop-l.invariant.best d set start winner;
    }

pub returns-clause-best : goal.returns-clause-best
returns-clause-best c = λ d set start winner.
    sym (ap (with_nens c.args.row.now d set (with_standing c.args.for_winner d set start c.loop-l.least))
    (drop_all c.loop-l.l-index c.args.others.now (omega (arith, c.loop-l-test.false))))
    ∙ c.loop-l.invariant.best d set start winner
