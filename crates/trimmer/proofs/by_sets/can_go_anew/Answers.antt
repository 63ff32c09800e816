use Rattle.std.proofs.Common.{◌≡◌, ◌+◌, ◌++◌, length, map, take, Ok, Err, ap, subst, ◌∙◌}
use Rattle.set_walk.specs.Walks.{passes}
use Rattle.cover_checker.specs.Reaching.{IsReach}
use Rattle.cover_checker.specs.declared.walk.SetWalk.TheVariants.{Found, Ended}
use Rattle.trimmer.specs.Remaining.{assertions_in}
use Rattle.trimmer.specs.Trimmed.{can_go}
use Rattle.trimmer.proofs.Lefts.{assertion_in}
use Rattle.trimmer.proofs.SetTrials.{goes-at, fault-at, reached-at}
use Rattle.trimmer.proofs.by_sets.can_go_anew.Goals as goal

pub returns-in-Ok-Ended-clause-goes : goal.returns-in-Ok-Ended-clause-goes
returns-in-Ok-Ended-clause-goes c = λ _.
    let file = c.args.f.now in
    let later = c.args.others.now.kept in
    let claims = take c.args.place file.claims ++ later in
    let list = assertions_in c.args.others.now in
    let listed : list ≡ map assertion_in claims = ap (λ untried. map assertion_in (untried ++ later)) c.requires.others in
    goes-at file claims (c.args.place + 1) (length c.candidates.result.now) c.winner.result c.args.budget list (ap length c.candidates.ensures.same) c.winner.ensures.same listed (Ended c.in-Ok-Ended.sets)
    (subst (λ e. IsReach (length c.candidates.result.now) c.winner.result c.args.budget (passes list) (Ok e)) c.in-Ok-Ended.field-0-is
    (subst (IsReach (length c.candidates.result.now) c.winner.result c.args.budget (passes list)) c.in-Ok-Ended.is (c.reach.ensures list c.refuting.ensures)))

pub returns-in-Ok-Ended-clause-reached : goal.returns-in-Ok-Ended-clause-reached
returns-in-Ok-Ended-clause-reached c =
    let file = c.args.f.now in
    let later = c.args.others.now.kept in
    let claims = take c.args.place file.claims ++ later in
    let list = assertions_in c.args.others.now in
    let listed : list ≡ map assertion_in claims = ap (λ untried. map assertion_in (untried ++ later)) c.requires.others in
    reached-at file claims (c.args.place + 1) (length c.candidates.result.now) c.winner.result c.args.budget list (ap length c.candidates.ensures.same) c.winner.ensures.same listed c.in-Ok-Ended.sets
    (subst (λ e. IsReach (length c.candidates.result.now) c.winner.result c.args.budget (passes list) (Ok e)) c.in-Ok-Ended.field-0-is
    (subst (IsReach (length c.candidates.result.now) c.winner.result c.args.budget (passes list)) c.in-Ok-Ended.is (c.reach.ensures list c.refuting.ensures)))

pub returns-in-Ok-Found-clause-goes : goal.returns-in-Ok-Found-clause-goes
returns-in-Ok-Found-clause-goes c = λ _.
    let file = c.args.f.now in
    let later = c.args.others.now.kept in
    let claims = take c.args.place file.claims ++ later in
    let list = assertions_in c.args.others.now in
    let listed : list ≡ map assertion_in claims = ap (λ untried. map assertion_in (untried ++ later)) c.requires.others in
    goes-at file claims (c.args.place + 1) (length c.candidates.result.now) c.winner.result c.args.budget list (ap length c.candidates.ensures.same) c.winner.ensures.same listed (Found c.in-Ok-Found.field-0-0)
    (subst (λ e. IsReach (length c.candidates.result.now) c.winner.result c.args.budget (passes list) (Ok e)) c.in-Ok-Found.field-0-is
    (subst (IsReach (length c.candidates.result.now) c.winner.result c.args.budget (passes list)) c.in-Ok-Found.is (c.reach.ensures list c.refuting.ensures)))

pub returns-in-Err-clause-goes : goal.returns-in-Err-clause-goes
returns-in-Err-clause-goes c = λ other.
    let file = c.args.f.now in
    let later = c.args.others.now.kept in
    let claims = take c.args.place file.claims ++ later in
    let list = assertions_in c.args.others.now in
    let listed : list ≡ map assertion_in claims = ap (λ untried. map assertion_in (untried ++ later)) c.requires.others in
    c.fault_of.ensures
    ∙ fault-at file claims (c.args.place + 1) (length c.candidates.result.now) c.winner.result c.args.budget list (ap length c.candidates.ensures.same) c.winner.ensures.same listed c.in-Err.fault
    (subst (IsReach (length c.candidates.result.now) c.winner.result c.args.budget (passes list)) c.in-Err.is (c.reach.ensures list c.refuting.ensures))
    (λ e. other (c.fault_of.ensures ∙ ap (λ fault. can_go (c.args.place + 1) (Err fault)) e))
