use Rattle.std.proofs.Common.{inl, inr, refl, length, ap, subst, arith, ◌∙◌}
use Rattle.irv_base.specs.Orders.{is_order}
use Rattle.cli_base.specs.Due.{due}
use Rattle.cli_base.proofs.Ended.{told_as}
use Rattle.contest_search.specs.Found.{FoundIn}
use Rattle.search_commands.specs.Search.{Finds}
use Rattle.search_commands.proofs.Spent.{sets_order, sets_told, spent_named, spent_order, spent_told}
use Rattle.search_commands.proofs.Ties.{tie_told}
use Rattle.search_commands.proofs.search.search.Goals as goal

pub certificate-requires-clause-found : goal.certificate-requires-clause-found
certificate-requires-clause-found g c =
    subst (FoundIn c.args.task.now.budget c.args.votes.now) c.in-Certificate.is c.in_ok-found.ensures

pub returns-in-Tie : goal.returns-in-Tie
returns-in-Tie g c =
    let task = c.args.task.now in
    let is = subst (FoundIn task.budget c.args.votes.now) c.in-Tie.is c.in_ok-found.ensures in
    let told = tie_told c.args.votes.now c.candidates-names.result.now c.in-Tie.round c.in-Tie.tied c.in-Tie.tally c.candidates-names.ensures.same is.0 in
    told_as (Finds task.budget task.floor task.plan c.args.votes.now) _ (due c.first_tie.result) (inr (inl (_, (told, is.1), refl))) c.first_tie.ensures

pub spent-requires-clause-candidate : goal.spent-requires-clause-candidate
spent-requires-clause-candidate g c =
    let task = c.args.task.now in
    let is = subst (FoundIn task.budget c.args.votes.now) c.in-Spent.is c.in_ok-found.ensures in
    let named = spent_named c.args.votes.now c.in-Spent.order c.in-Spent.margin task.budget c.in-Spent.last is in
    omega (arith, named, ap length c.candidates-names.ensures.same)

pub spent-requires-clause-order : goal.spent-requires-clause-order
spent-requires-clause-order g c =
    let task = c.args.task.now in
    let is = subst (FoundIn task.budget c.args.votes.now) c.in-Spent.is c.in_ok-found.ensures in
    ap (λ n. is_order n c.in-Spent.order) (ap length c.candidates-names.ensures.same)
    ∙ spent_order c.args.votes.now c.in-Spent.order c.in-Spent.margin task.budget c.in-Spent.last is

pub returns-in-Spent : goal.returns-in-Spent
returns-in-Spent g c =
    let task = c.args.task.now in
    let is = subst (FoundIn task.budget c.args.votes.now) c.in-Spent.is c.in_ok-found.ensures in
    let spent = spent_told c.args.votes.now c.in-Spent.order c.in-Spent.margin c.candidates-names.result.now c.candidates-names.ensures.same
    task.budget c.in-Spent.last is in
    told_as (Finds task.budget task.floor task.plan c.args.votes.now) _ (due c.spent.result) (inr (inr (inl (_, spent, refl)))) c.spent.ensures

pub spent_sets-requires : goal.spent_sets-requires
spent_sets-requires g c =
    let task = c.args.task.now in
    let is = subst (FoundIn task.budget c.args.votes.now) c.in-SpentSets.is c.in_ok-found.ensures in
    ap (λ n. is_order n c.in-SpentSets.order) (ap length c.candidates-names.ensures.same)
    ∙ sets_order c.args.votes.now c.in-SpentSets.order c.in-SpentSets.margin task.budget c.in-SpentSets.sets
    (omega (arith, c.candidates-names.ensures.fewest)) is

pub returns-in-SpentSets : goal.returns-in-SpentSets
returns-in-SpentSets g c =
    let task = c.args.task.now in
    let is = subst (FoundIn task.budget c.args.votes.now) c.in-SpentSets.is c.in_ok-found.ensures in
    let spent = sets_told c.args.votes.now c.in-SpentSets.order c.in-SpentSets.margin c.candidates-names.result.now c.candidates-names.ensures.same
    task.budget c.in-SpentSets.sets is in
    told_as (Finds task.budget task.floor task.plan c.args.votes.now) _ (due c.spent_sets.result) (inr (inr (inl (_, spent, refl)))) c.spent_sets.ensures
