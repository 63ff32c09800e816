use Rattle.std.proofs.Common.{inl, inr, refl, Ok, Err, subst}
use Rattle.set_walk.specs.Walks.{passes}
use Rattle.cover_checker.specs.Reaching.{IsReach}
use Rattle.trimmer.specs.Remaining.{assertions_in as assertions_left}
use Rattle.fewest_search.proofs.Needing.{spent-many, walk-open}
use Rattle.fewest_search.proofs.sparing.cover_anew.Goals as goal

pub returns-in-Ok-Ended : goal.returns-in-Ok-Ended
returns-in-Ok-Ended c =
    let steps = c.args.steps.now in
    let list = assertions_left steps.claims.now in
    subst (λ e. IsReach steps.n steps.winner steps.budget (passes list) (Ok e)) c.in-Ok-Ended.field-0-is
    (subst (IsReach steps.n steps.winner steps.budget (passes list)) c.in-Ok-Ended.is (c.reach.ensures list c.refuting.ensures))

pub returns-in-Ok-Found : goal.returns-in-Ok-Found
returns-in-Ok-Found c =
    let steps = c.args.steps.now in
    let list = assertions_left steps.claims.now in (
      refl,
      inl (walk-open steps.n steps.winner list steps.budget c.in-Ok-Found.field-0-0
          (subst (λ e. IsReach steps.n steps.winner steps.budget (passes list) (Ok e)) c.in-Ok-Found.field-0-is
          (subst (IsReach steps.n steps.winner steps.budget (passes list)) c.in-Ok-Found.is (c.reach.ensures list c.refuting.ensures)))),
    )

pub returns-in-Err-SpentSets : goal.returns-in-Err-SpentSets
returns-in-Err-SpentSets c =
    let steps = c.args.steps.now in
    let list = assertions_left steps.claims.now in
    let (_, spent) = subst (λ fault. IsReach steps.n steps.winner steps.budget (passes list) (Err fault)) c.in-Err-SpentSets.field-0-is
    (subst (IsReach steps.n steps.winner steps.budget (passes list)) c.in-Err-SpentSets.is (c.reach.ensures list c.refuting.ensures)) in
    (refl, inr (spent-many steps.n steps.winner list steps.budget spent))
