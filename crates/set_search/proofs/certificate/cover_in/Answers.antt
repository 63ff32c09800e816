use Rattle.std.proofs.Common.{◌≡◌, ◌<◌, Ok, Err, Some, arith, refl, subst}
use Rattle.set_walk.specs.Answers.{IsWalk, first_within}
use Rattle.set_walk.specs.declared.walk.WalkEnd.TheVariants.{Ended}
use Rattle.set_walk.specs.declared.walk.WalkFault.TheVariants.{Spent}
use Rattle.set_search.specs.Limits.{within}
use Rattle.set_search.specs.declared.by_margin.Limit.TheVariants.{Below}
use Rattle.set_search.proofs.Deciding.{ended-under, found-under, spent-under}
use Rattle.set_search.proofs.certificate.cover_in.Goals as goal

pub returns-in-Found-clause-cover : goal.returns-in-Found-clause-cover
returns-in-Found-clause-cover c = λ records of is.
    let n = c.args.steps.now.tallies.bag.n in
    let winner = c.args.winner in
    let sets = c.args.sets in
    let two : 1 < c.args.steps.now.tallies.bag.n = omega (arith, c.candidates-n.ensures.fewest, c.candidates-n.ensures.same) in
    let walk = c.in-Ok.ensures.walk (within (Below c.args.margin) n records) (records, of, refl) in
    let at = subst (λ e. IsWalk c.candidates-n.result winner sets (within (Below c.args.margin) n records) (Ok e)) c.in-Found.is walk in
    let found = subst (λ k. first_within k winner sets (within (Below c.args.margin) n records) ≡ Ok (Some c.in-Found._order)) c.candidates-n.ensures.same at in
    absurd (found-under n winner sets records c.requires two c.in-Found._order
    (subst (λ m. first_within n winner sets (within (Below m) n records) ≡ Ok (Some c.in-Found._order)) is found))

pub returns-in-Ended-clause-cover : goal.returns-in-Ended-clause-cover
returns-in-Ended-clause-cover c = λ records of is.
    let n = c.args.steps.now.tallies.bag.n in
    let winner = c.args.winner in
    let sets = c.args.sets in
    let two : 1 < c.args.steps.now.tallies.bag.n = omega (arith, c.candidates-n.ensures.fewest, c.candidates-n.ensures.same) in
    let walk = c.in-Ok.ensures.walk (within (Below c.args.margin) n records) (records, of, refl) in
    let at = subst (λ e. IsWalk c.candidates-n.result winner sets (within (Below c.args.margin) n records) (Ok e)) c.in-Ended.is walk in
    let same = subst (λ k. IsWalk k winner sets (within (Below c.args.margin) n records) (Ok (Ended c.in-Ended.seen))) c.candidates-n.ensures.same at in
    let ended = subst (λ m. IsWalk n winner sets (within (Below m) n records) (Ok (Ended c.in-Ended.seen))) is same in
    record { cover = ended.1; within = ended-under n winner sets records c.requires two ended.0 }

pub returns-in-Spent-clause-cover : goal.returns-in-Spent-clause-cover
returns-in-Spent-clause-cover c = λ records of is.
    let n = c.args.steps.now.tallies.bag.n in
    let winner = c.args.winner in
    let sets = c.args.sets in
    let two : 1 < c.args.steps.now.tallies.bag.n = omega (arith, c.candidates-n.ensures.fewest, c.candidates-n.ensures.same) in
    let walk = c.in-Err.ensures.walk (within (Below c.args.margin) n records) (records, of, refl) in
    let at = subst (λ e. IsWalk c.candidates-n.result winner sets (within (Below c.args.margin) n records) (Err e)) c.in-Spent.is walk in
    let same = subst (λ k. IsWalk k winner sets (within (Below c.args.margin) n records) (Err Spent)) c.candidates-n.ensures.same at in
    let many = spent-under n winner sets records c.requires two (subst (λ m. IsWalk n winner sets (within (Below m) n records) (Err Spent)) is same) in
    omega (arith, many)
