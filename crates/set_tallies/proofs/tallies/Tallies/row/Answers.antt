use Rattle.std.proofs.Common.{◌≡◌, ℕ, List, length, sym, ap, subst, ◌∙◌}
use Rattle.set_tallies.specs.Bags.{IsOf, HasTallies}
use Rattle.set_tallies.specs.Rows.{votes_of}
use Rattle.set_tallies.proofs.Filled.{if-some, votes-tally, row-long}
use Rattle.set_tallies.proofs.tallies.Tallies.row.Goals as goal

pub returns-in-None-clause-tallies : goal.returns-in-None-clause-tallies
returns-in-None-clause-tallies c =
    let bag = c.self.inside.bag.now in
    let same = ap (λ t. t.bag) c.self.view_is in
    let number = c.number-in-None.ensures in
    if-some (λ row. row.now ≡ votes_of bag c.number-in-None.result)
    (λ row. (records : List (List ℕ)) → IsOf c.args.self.now.bag records → HasTallies records c.args.self.now.bag.n c.args.s row.now) c.get.result
    (λ row is records h. subst (λ b. HasTallies records b.n c.args.s row.now) same
    (subst (HasTallies records bag.n c.args.s) (sym (is ∙ ap (votes_of bag) number))
    (votes-tally bag records c.args.s (rw same c.requires) (rw same h))))
    (c.get.ensures bag c.self.invariant.rows)

pub returns-in-None-clause-one_each : goal.returns-in-None-clause-one_each
returns-in-None-clause-one_each c =
    let bag = c.self.inside.bag.now in
    if-some (λ row. row.now ≡ votes_of bag c.number-in-None.result) (λ row. length row.now ≡ c.args.self.now.bag.n) c.get.result
    (λ row is. ap length is ∙ row-long bag c.number-in-None.result ∙ ap (λ t. t.bag.n) c.self.view_is)
    (c.get.ensures bag c.self.invariant.rows)
