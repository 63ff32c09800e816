use Rattle.std.proofs.Common.{◌≡◌, All, sym, ap, subst, ◌∙◌}
use Rattle.set_tallies.specs.Bags.{IsOf, Kept}
use Rattle.nen_cut.specs.declared.by_tallies.ByTallies.{ByTallies}
use Rattle.nen_cut.specs.Cut.{IsStrongestNen}
use Rattle.nen_cut.proofs.least.fewest_nens.Goals as goal

pub returns-clause-strongest : goal.returns-clause-strongest
returns-clause-strongest c = λ records of.
    let bag = c.in_ok-tallies.ensures.bag in
    let same = c.is_covered.ensures.same in
    let e : c.candidates-n.result ≡ c.args.counted.now.bag.n = c.candidates-n.ensures.same ∙ ap (λ (b : Kept). b.n) bag in
    let of' = subst (λ (s : ByTallies). IsOf s.tallies.bag records) (sym same) (subst (λ (b : Kept). IsOf b records) (sym bag) of) in
    subst (λ k. All (IsStrongestNen k records c.args.least) c.in_ok-nens.nens.items) e
    (subst (λ (s : ByTallies). All (IsStrongestNen c.candidates-n.result records s.least) c.in_ok-nens.nens.items) same
    (c.in_ok-nens.ensures.strongest records of'))
