use Rattle.std.proofs.Common.{◌<◌, Ok, Err, refl, subst, arith}
use Rattle.set_walk.specs.Answers.{IsWalk}
use Rattle.set_walk.specs.declared.walk.WalkEnd.TheVariants.{Found, Ended}
use Rattle.set_walk.specs.declared.walk.WalkFault.TheVariants.{Spent}
use Rattle.nen_cut.specs.Budgets.{passes_short}
use Rattle.nen_cut.proofs.Short.{short-ended, short-found, short-spent}
use Rattle.nen_cut.proofs.by_nebs.is_within.Goals as goal

pub returns-in-Ended : goal.returns-in-Ended
returns-in-Ended c = λ records of.
    let n = c.args.tallies.now.bag.n in
    let may = passes_short n records c.args.least c.args.all in
    let some : 0 < n = omega (arith, c.candidates-n.ensures.fewest, c.candidates-n.ensures.same) in
    let walk = c.in-Ok.ensures.walk may (records, of, refl) in
    let at = subst (λ e. IsWalk c.candidates-n.result c.args.winner c.args.sets may (Ok e)) c.in-Ended.is walk in
    let ended = subst (λ k. IsWalk k c.args.winner c.args.sets may (Ok (Ended c.in-Ended._seen))) c.candidates-n.ensures.same at in
    short-ended n c.args.winner records c.args.least c.args.all c.requires.all c.args.sets some ended.0

pub returns-in-Found : goal.returns-in-Found
returns-in-Found c = λ records of.
    let n = c.args.tallies.now.bag.n in
    let may = passes_short n records c.args.least c.args.all in
    let some : 0 < n = omega (arith, c.candidates-n.ensures.fewest, c.candidates-n.ensures.same) in
    let walk = c.in-Ok.ensures.walk may (records, of, refl) in
    let at = subst (λ e. IsWalk c.candidates-n.result c.args.winner c.args.sets may (Ok e)) c.in-Found.is walk in
    let found = subst (λ k. IsWalk k c.args.winner c.args.sets may (Ok (Found c.in-Found._order))) c.candidates-n.ensures.same at in
    absurd (short-found n c.args.winner records c.args.least c.args.all c.requires.all c.args.sets some c.in-Found._order found)

pub returns-in-Spent : goal.returns-in-Spent
returns-in-Spent c = λ records of.
    let n = c.args.tallies.now.bag.n in
    let may = passes_short n records c.args.least c.args.all in
    let some : 0 < n = omega (arith, c.candidates-n.ensures.fewest, c.candidates-n.ensures.same) in
    let walk = c.in-Err.ensures.walk may (records, of, refl) in
    let at = subst (λ e. IsWalk c.candidates-n.result c.args.winner c.args.sets may (Err e)) c.in-Spent.is walk in
    let spent = subst (λ k. IsWalk k c.args.winner c.args.sets may (Err Spent)) c.candidates-n.ensures.same at in
    short-spent n c.args.winner records c.args.least c.args.all c.requires.all c.args.sets some spent
