use Rattle.std.proofs.Common.{◌<◌, inl, inr, refl, ap, subst, arith, length, ◌∙◌}
use Rattle.irv_base.specs.Orders.{is_order}
use Rattle.cli_base.specs.Outcome.{Answered}
use Rattle.cli_base.specs.Due.{due}
use Rattle.cli_base.specs.declared.outcome.AnswerKind.TheVariants.{Done}
use Rattle.cli_base.proofs.Ended.{told_as}
use Rattle.contest_search.specs.Contest.{candidate_count}
use Rattle.contest_search.specs.Found.{FoundIn}
use Rattle.search_commands.specs.Trial.{contest_of, HasLines, Tries}
use Rattle.search_commands.proofs.Spent.{sets_order, sets_told, spent_named, spent_order, spent_told}
use Rattle.search_commands.proofs.Ties.{tie_told}
use Rattle.search_commands.proofs.TrialCandidates.{length-trial_candidates}
use Rattle.search_commands.proofs.trials.found_answer.Goals as goal

pub first_tie-requires : goal.first_tie-requires
first_tie-requires c =
    let long = ap length c.requires.names ∙ length-trial_candidates c.args.task.now.candidates in
    let most = c.requires.limits.candidates.1 in
    omega (arith, long, most)

pub returns-in_ok-lines-in-Certificate : goal.returns-in_ok-lines-in-Certificate
returns-in_ok-lines-in-Certificate c =
    let task = c.args.task.now in
    let found = subst (FoundIn task.budget (contest_of task)) c.in-Certificate.is c.requires.found in
    let lines : HasLines task _ = record { file = c.in-Certificate.file; found = found; shown = c.in_ok-lines-in-Certificate.ensures } in
    inl (Answered Done _, inl (_, lines, refl), refl)

pub returns-in-Tie : goal.returns-in-Tie
returns-in-Tie c =
    let task = c.args.task.now in
    let is = subst (FoundIn task.budget (contest_of task)) c.in-Tie.is c.requires.found in
    let told = tie_told (contest_of task) c.args.names.now c.in-Tie.round c.in-Tie.tied c.in-Tie.votes c.requires.names is.0 in
    told_as (Tries task) _ (due c.first_tie.result) (inr (inl (_, (told, is.1), refl))) c.first_tie.ensures

pub spent-requires-clause-candidate : goal.spent-requires-clause-candidate
spent-requires-clause-candidate c =
    let task = c.args.task.now in
    let is = subst (FoundIn task.budget (contest_of task)) c.in-Spent.is c.requires.found in
    let named = spent_named (contest_of task) c.in-Spent.order c.in-Spent.margin task.budget c.in-Spent.last is in
    omega (arith, named, ap length c.requires.names)

pub spent-requires-clause-order : goal.spent-requires-clause-order
spent-requires-clause-order c =
    let task = c.args.task.now in
    let is = subst (FoundIn task.budget (contest_of task)) c.in-Spent.is c.requires.found in
    ap (λ n. is_order n c.in-Spent.order) (ap length c.requires.names)
    ∙ spent_order (contest_of task) c.in-Spent.order c.in-Spent.margin task.budget c.in-Spent.last is

pub returns-in-Spent : goal.returns-in-Spent
returns-in-Spent c =
    let task = c.args.task.now in
    let is = subst (FoundIn task.budget (contest_of task)) c.in-Spent.is c.requires.found in
    let spent = spent_told (contest_of task) c.in-Spent.order c.in-Spent.margin c.args.names.now c.requires.names task.budget c.in-Spent.last is in
    told_as (Tries task) _ (due c.spent.result) (inr (inr (_, spent, refl))) c.spent.ensures

pub spent_sets-requires : goal.spent_sets-requires
spent_sets-requires c =
    let task = c.args.task.now in
    let is = subst (FoundIn task.budget (contest_of task)) c.in-SpentSets.is c.requires.found in
    let two : 1 < candidate_count (contest_of task) =
    let long = length-trial_candidates task.candidates in let fewest = c.requires.limits.candidates.0 in omega (arith, long, fewest) in
    ap (λ n. is_order n c.in-SpentSets.order) (ap length c.requires.names)
    ∙ sets_order (contest_of task) c.in-SpentSets.order c.in-SpentSets.margin task.budget c.in-SpentSets.sets two is

pub returns-in-SpentSets : goal.returns-in-SpentSets
returns-in-SpentSets c =
    let task = c.args.task.now in
    let is = subst (FoundIn task.budget (contest_of task)) c.in-SpentSets.is c.requires.found in
    let spent = sets_told (contest_of task) c.in-SpentSets.order c.in-SpentSets.margin c.args.names.now c.requires.names task.budget c.in-SpentSets.sets is in
    told_as (Tries task) _ (due c.spent_sets.result) (inr (inr (_, spent, refl))) c.spent_sets.ensures
