use Rattle.std.proofs.Common.{◌<◌, Ok, Err, arith, refl, subst, sym}
use Rattle.set_tallies.specs.Bags.{IsOf, Source}
use Rattle.set_walk.specs.Answers.{IsWalk}
use Rattle.set_walk.specs.declared.walk.WalkEnd.TheVariants.{Found, Ended}
use Rattle.set_walk.specs.declared.walk.WalkFault.TheVariants.{Spent}
use Rattle.set_search.specs.Levels.{IsLevel}
use Rattle.set_search.specs.Limits.{within}
use Rattle.set_search.specs.declared.by_margin.Limit.TheVariants.{AtMost}
use Rattle.set_search.proofs.Deciding.{found-order, never-ended, spent-order}
use Rattle.set_search.proofs.best.order_in.Goals as goal

pub returns-in-Found-clause-order : goal.returns-in-Found-clause-order
returns-in-Found-clause-order c = λ records of.
    let n = c.args.steps.now.tallies.bag.n in
    let winner = c.args.winner in
    let sets = c.args.sets in
    let margin = c.in_ok-margin.margin in
    let two : 1 < c.args.steps.now.tallies.bag.n = omega (arith, c.candidates-n.ensures.fewest, c.candidates-n.ensures.same) in
    let of' = subst (λ (t : Source). IsOf t.bag records) (sym c.level.ensures.same) of in
    let walk = c.in-Ok.ensures.walk (within (AtMost margin) c.level.new.tallies.bag.n records) (records, of', refl) in
    let at = subst (λ e. IsWalk c.candidates-n.result winner sets (within (AtMost margin) c.level.new.tallies.bag.n records) (Ok e)) c.in-Found.is walk in
    let same = subst (λ k. IsWalk k winner sets (within (AtMost margin) c.level.new.tallies.bag.n records)
    (Ok (Found c.in-Found.order))) c.candidates-n.ensures.same at in
    let found = subst (λ (t : Source). IsWalk n winner sets (within (AtMost margin) t.bag.n records) (Ok (Found c.in-Found.order))) c.level.ensures.same same in
    let level : IsLevel n records winner sets margin = c.in_ok-margin.ensures.level records of in
    let (best, order, few) = found-order n winner sets records c.requires two margin c.in-Found.order level.most found in
    record { margin = best; order = order; within = few }

pub returns-in-Ended-clause-order : goal.returns-in-Ended-clause-order
returns-in-Ended-clause-order c = λ records of.
    let n = c.args.steps.now.tallies.bag.n in
    let winner = c.args.winner in
    let sets = c.args.sets in
    let margin = c.in_ok-margin.margin in
    let two : 1 < c.args.steps.now.tallies.bag.n = omega (arith, c.candidates-n.ensures.fewest, c.candidates-n.ensures.same) in
    let of' = subst (λ (t : Source). IsOf t.bag records) (sym c.level.ensures.same) of in
    let walk = c.in-Ok.ensures.walk (within (AtMost margin) c.level.new.tallies.bag.n records) (records, of', refl) in
    let at = subst (λ e. IsWalk c.candidates-n.result winner sets (within (AtMost margin) c.level.new.tallies.bag.n records) (Ok e)) c.in-Ended.is walk in
    let same = subst (λ k. IsWalk k winner sets (within (AtMost margin) c.level.new.tallies.bag.n records)
    (Ok (Ended c.in-Ended._seen))) c.candidates-n.ensures.same at in
    let ended = subst (λ (t : Source). IsWalk n winner sets (within (AtMost margin) t.bag.n records) (Ok (Ended c.in-Ended._seen))) c.level.ensures.same same in
    let level : IsLevel n records winner sets margin = c.in_ok-margin.ensures.level records of in
    absurd (never-ended n winner sets records c.requires two margin level ended.0)

pub returns-in-Spent-clause-order : goal.returns-in-Spent-clause-order
returns-in-Spent-clause-order c = λ records of.
    let n = c.args.steps.now.tallies.bag.n in
    let winner = c.args.winner in
    let sets = c.args.sets in
    let margin = c.in_ok-margin.margin in
    let two : 1 < c.args.steps.now.tallies.bag.n = omega (arith, c.candidates-n.ensures.fewest, c.candidates-n.ensures.same) in
    let of' = subst (λ (t : Source). IsOf t.bag records) (sym c.level.ensures.same) of in
    let walk = c.in-Err.ensures.walk (within (AtMost margin) c.level.new.tallies.bag.n records) (records, of', refl) in
    let at = subst (λ e. IsWalk c.candidates-n.result winner sets (within (AtMost margin) c.level.new.tallies.bag.n records) (Err e)) c.in-Spent.is walk in
    let same = subst (λ k. IsWalk k winner sets (within (AtMost margin) c.level.new.tallies.bag.n records) (Err Spent)) c.candidates-n.ensures.same at in
    let spent = subst (λ (t : Source). IsWalk n winner sets (within (AtMost margin) t.bag.n records) (Err Spent)) c.level.ensures.same same in
    let level : IsLevel n records winner sets margin = c.in_ok-margin.ensures.level records of in
    spent-order n winner sets records c.requires two margin level.most spent
