use Rattle.std.proofs.Common.{◌≤◌, refl, subst}
use Rattle.suffix_tree.specs.Offers.{with_nens}
use Rattle.suffix_tree.proofs.Limited.{nens-reached}
use Rattle.suffix_tree.proofs.offers.offer_nens_below.Goals as goal

pub returns-then-start-limit : goal.returns-then-start-limit
returns-then-start-limit c =
    nens-reached c.args.row.now c.args.c c.args.set c.args.limit c.args.behind.now c.args.start
    (with_nens c.args.row.now c.args.c c.args.set c.args.start c.args.behind.now)
    (subst (λ s. c.args.limit ≤ s.low) c.start.view_is c.if-start-limit.true) refl
