use Rattle.std.proofs.Common.{◌^◌, ◌-◌, Ok, refl, sym, subst}
use Rattle.set_walk.specs.Answers.{IsWalk}
use Rattle.set_walk.specs.declared.walk.WalkEnd.TheVariants.{Found}
use Rattle.nen_cut.specs.Floors.{escapes}
use Rattle.nen_cut.proofs.Escaping.{found-uncovered}
use Rattle.nen_cut.proofs.covered.is_covered.Goals as goal

pub returns-in-Found-clause-covered : goal.returns-in-Found-clause-covered
returns-in-Found-clause-covered c = λ records of.
    let s = c.args.steps.now in
    let n = c.args.n in
    let may = escapes s.tallies.bag.n s.winner records s.least in
    let walk = c.in-Ok.ensures.walk may (records, of, refl) in
    let at = subst (λ e. IsWalk n s.winner (2 ^ 32 - 1) may (Ok e)) c.in-Found.is walk in
    let found = subst (λ k. IsWalk n s.winner (2 ^ 32 - 1) (escapes k s.winner records s.least) (Ok (Found c.in-Found._order))) (sym c.requires.size) at in
    found-uncovered n s.winner s.least records (2 ^ 32 - 1) c.in-Found._order found
