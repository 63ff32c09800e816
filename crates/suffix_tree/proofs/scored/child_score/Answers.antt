use Rattle.std.proofs.Common.{◌≡◌, ◌∷◌, true, ap, refl, sym, subst, ◌∙◌}
use Rattle.assertions.specs.Suffixes.{is_suffix}
use Rattle.set_tallies.specs.Bags.{AreFilledFrom}
use Rattle.set_tallies.proofs.Filled.{has-tallies}
use Rattle.suffix_tree.specs.Offers.{with_nens}
use Rattle.suffix_tree.specs.Suffixes.{with_front}
use Rattle.suffix_tree.proofs.Children.{scored-child}
use Rattle.suffix_tree.proofs.Limited.{scored-from_parent}
use Rattle.suffix_tree.proofs.Tails.{suffix_more, suffix-small, set-more}
use Rattle.suffix_tree.proofs.scored.child_score.Goals as goal

pub row-requires : goal.row-requires
row-requires c =
    let t = c.args.parent.now.tail in
    let set = set-more t.n c.args.c c.set.result c.with-set.result t.list c.list-behind.ensures.suffix c.requires.other c.set.ensures c.with-set.ensures.number in
    let longer : is_suffix t.n (c.args.c ∷ t.list) ≡ true = suffix_more t.n c.args.c t.list c.requires.below c.requires.other c.list-behind.ensures.suffix in
    suffix-small t.n c.args.tallies.now.bag.n c.with-set.result (c.args.c ∷ t.list) c.requires.contest longer set

pub tally-requires : goal.tally-requires
tally-requires c =
    let t = c.args.parent.now.tail in
    let set = set-more t.n c.args.c c.set.result c.with-set.result t.list c.list-behind.ensures.suffix c.requires.other c.set.ensures c.with-set.ensures.number in
    let longer : is_suffix t.n (c.args.c ∷ t.list) ≡ true = suffix_more t.n c.args.c t.list c.requires.below c.requires.other c.list-behind.ensures.suffix in
    suffix-small t.n c.args.tallies.now.bag.n c.with-set.result (c.args.c ∷ t.list) c.requires.contest longer set

pub returns-in-Some-clause-scored : goal.returns-in-Some-clause-scored
returns-in-Some-clause-scored c = λ records h.
    let t = c.args.parent.now.tail in
    let d = c.args.c in
    let set = c.with-set.result in
    let with_nebs = c.offer_nebs-with_nebs.result in
    let row = c.in-Some.row.now in
    scored-child records t (with_front t d) d c.offer_nens.result refl
    (c.offer_nens.ensures ∙ ap (with_nens row d set with_nebs) c.list-behind.ensures.same
    ∙ scored-from_parent c.args.tallies.now.bag c.ahead.result.now c.args.parent.now d c.set.result set with_nebs c.requires.below c.requires.other
    c.requires.contest c.requires.scored c.list-behind.ensures.suffix c.set.ensures c.with-set.ensures.number
    (subst (AreFilledFrom c.args.tallies.now.bag) (sym c.ahead.ensures.same) c.ahead.ensures.own) c.offer_nebs-with_nebs.ensures records h row
    (c.in-Some.ensures.tallies records h))

pub returns-in_ok-row-in-None-clause-scored : goal.returns-in_ok-row-in-None-clause-scored
returns-in_ok-row-in-None-clause-scored c = λ records h.
    let t = c.args.parent.now.tail in
    let d = c.args.c in
    let set = c.with-set.result in
    let with_nebs = c.offer_nebs-with_nebs.result in
    let row = c.deref.result.now in
    scored-child records t (with_front t d) d c.offer_nens-in-None.result refl
    (c.offer_nens-in-None.ensures ∙ ap (with_nens row d set with_nebs) c.list-behind.ensures.same
    ∙ scored-from_parent c.args.tallies.now.bag c.ahead.result.now c.args.parent.now d c.set.result set with_nebs c.requires.below c.requires.other
    c.requires.contest c.requires.scored c.list-behind.ensures.suffix c.set.ensures c.with-set.ensures.number
    (subst (AreFilledFrom c.args.tallies.now.bag) (sym c.ahead.ensures.same) c.ahead.ensures.own) c.offer_nebs-with_nebs.ensures records h row
    (has-tallies records c.args.tallies.now.bag.n set row (c.deref.ensures.value ∙ c.in_ok-row-in-None.ensures.tallies records h)))
