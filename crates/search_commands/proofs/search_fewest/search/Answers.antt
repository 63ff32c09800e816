use Rattle.std.proofs.Common.{inl, inr, refl, length, ap, subst, arith, ◌∙◌}
use Rattle.irv_base.specs.Orders.{is_order}
use Rattle.assertions.proofs.Listings.{start_is_alternative}
use Rattle.cli_base.specs.Due.{due}
use Rattle.cli_base.proofs.Ended.{told_as}
use Rattle.contest_search.specs.Contest.{candidate_count}
use Rattle.contest_search.specs.Fewest.{FoundFewestIn}
use Rattle.report.specs.Ends.{spent_sets_text}
use Rattle.search_commands.specs.SearchFewest.{Finds, HasSpent}
use Rattle.search_commands.proofs.Ties.{tie_told}
use Rattle.search_commands.proofs.search_fewest.search.Goals as goal

pub assertions-requires-clause-found : goal.assertions-requires-clause-found
assertions-requires-clause-found g c =
    subst (FoundFewestIn c.args.task.now.sets c.args.task.now.gap c.args.votes.now) c.in-Certificate.is c.in_ok-found.ensures

pub assertions-requires-clause-candidates : goal.assertions-requires-clause-candidates
assertions-requires-clause-candidates g c = omega (arith, c.candidates-names.ensures.fewest, ap length c.candidates-names.ensures.same)

pub returns-in-Tie : goal.returns-in-Tie
returns-in-Tie g c =
    let task = c.args.task.now in
    let is = subst (FoundFewestIn task.sets task.gap c.args.votes.now) c.in-Tie.is c.in_ok-found.ensures in
    let told = tie_told c.args.votes.now c.candidates-names.result.now c.in-Tie.round c.in-Tie.tied c.in-Tie.tally c.candidates-names.ensures.same is.0 in
    told_as (Finds task.sets task.gap task.floor task.plan c.args.votes.now) _ (due c.first_tie.result) (inr (inl (_, (told, is.1), refl))) c.first_tie.ensures

pub spent_sets-requires : goal.spent_sets-requires
spent_sets-requires g c =
    let task = c.args.task.now in
    let n = candidate_count c.args.votes.now in
    let (same, is) = subst (FoundFewestIn task.sets task.gap c.args.votes.now) c.in-SpentSets.is c.in_ok-found.ensures in
    ap (λ n. is_order n c.in-SpentSets.order) (ap length c.candidates-names.ensures.same) ∙ ap (is_order n) is.start
    ∙ (start_is_alternative n is.winner is.won.order (omega (arith, c.candidates-names.ensures.fewest)) is.won.permutation is.won.elects).0

pub returns-in-SpentSets : goal.returns-in-SpentSets
returns-in-SpentSets g c =
    let task = c.args.task.now in
    let order = c.in-SpentSets.order in
    let margin = c.in-SpentSets.margin in
    let (same, is) = subst (FoundFewestIn task.sets task.gap c.args.votes.now) c.in-SpentSets.is c.in_ok-found.ensures in
    let spent : HasSpent task.sets c.args.votes.now (spent_sets_text c.candidates-names.result.now c.in-SpentSets.sets order margin) = record {
      order = order;
      margin = margin;
      is = is;
      shown = ap (λ names. spent_sets_text names c.in-SpentSets.sets order margin) c.candidates-names.ensures.same
          ∙ ap (λ k. spent_sets_text c.args.votes.now.candidates k order margin) same;
    } in
    told_as (Finds task.sets task.gap task.floor task.plan c.args.votes.now) _ (due c.spent_sets.result) (inr (inr (inl (_, spent, refl)))) c.spent_sets.ensures

pub unreachable-requires : goal.unreachable-requires
unreachable-requires g c =
    let task = c.args.task.now in
    absurd (subst (FoundFewestIn task.sets task.gap c.args.votes.now) c.in-Spent.is c.in_ok-found.ensures)
