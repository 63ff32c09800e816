use Rattle.std.proofs.Common.{◌≡◌, true, sym, ap, subst, ◌∙◌}
use Rattle.irv_base.specs.Orders.{is_order}
use Rattle.irv_tabulator.specs.Results.{IsTabulation}
use Rattle.assertions.specs.Hardness.{low, best_margin}
use Rattle.set_tallies.specs.Bags.{IsOf}
use Rattle.contest_tests.proofs.Bags.{lows-same}
use Rattle.contest_tests.proofs.certifier_tests.answer.Goals as goal

pub certify-requires-clause-best : goal.certify-requires-clause-best
certify-requires-clause-best g c κs within =
    let bag = c.in_ok-counted.counted.bag in
    let tab = c.in-Ok.tab in
    let own : IsOf c.in_ok-counted.counted.bag c.args.rankings.now = c.in_ok-counted.ensures.records in
    let t : IsTabulation c.in_ok-counted.counted.bag.n c.args.rankings.now c.in-Ok.tab =
    subst (λ b. IsTabulation b.n c.args.rankings.now c.in-Ok.tab) c.in_ok-tallies.ensures.bag
    (c.in-Ok.ensures.tabulated c.args.rankings.now (subst (λ b. IsOf b c.args.rankings.now) (sym c.in_ok-tallies.ensures.bag) own)) in
    let known : c.args.best ≡ best_margin c.in_ok-counted.counted.bag.n c.in-Ok.tab.winner (low c.in_ok-counted.counted.bag.n c.args.rankings.now) =
    subst (λ m. c.args.best ≡ best_margin m c.in-Ok.tab.winner (low m c.args.rankings.now)) (sym c.in_ok-counted.ensures.candidates)
    (c.requires.best tab.order tab.winner (subst (λ m. is_order m c.in-Ok.tab.order ≡ true) c.in_ok-counted.ensures.candidates t.order) t.tabulated t.winner) in
    λ records h. known ∙ ap (best_margin bag.n tab.winner) (lows-same bag c.args.rankings.now records own h)
