use Rattle.std.proofs.Common.{◌≡◌, ℕ, ◌≤◌, ◌++◌, true, All, None, Ok, Err, IfErr, rules, subst, sym, ap, arith, ◌∙◌}
use Rattle.irv_base.proofs.Orders.{order_facts}
use Rattle.assertions.specs.declared.assertion.Claim.{Claim}
use Rattle.assertions.specs.Assertions.{is_proper}
use Rattle.bound_search.proofs.Raced.{elected_below}
use Rattle.set_walk.specs.Answers.{first_within}
use Rattle.set_walk.specs.Walks.{passes}
use Rattle.set_search.specs.Answers.{IsBestEnd, IsBestFound}
use Rattle.set_search.specs.Sets.{best_of}
use Rattle.nen_cut.specs.Floors.{assertions_in, sets_beside}
use Rattle.fewest_search.specs.Answers.{AreFewest, IsFault}
use Rattle.fewest_search.specs.Gap.{least_margin}
use Rattle.fewest_search.specs.Spared.{AreSpared}
use Rattle.fewest_search.proofs.Findings.{all-covered, all-proper, beside-all, fault-more, spared-fewest}
use Rattle.fewest_search.proofs.Gaps.{least-le}
use Rattle.fewest_search.proofs.Smaller.{beside-less, never-uncovered}
use Rattle.fewest_search.proofs.finding.find_fewest.Goals as goal

pub returns-in_err-found-clause-fault : goal.returns-in_err-found-clause-fault
returns-in_err-found-clause-fault c = λ records of.
    let n = c.args.counted.now.bag.n in
    let given : c.from_residual.result ≡ Err c.in_err-found.field-0.0 = search rules in
    subst (λ r. IfErr r (IsFault n records c.args.tab.now c.args.sets)) (sym given)
    (fault-more n records c.args.tab.now c.args.sets c.in_err-found.field-0.0 (c.in_err-found.ensures.fault records of))

-- the smallest margin is at most the best one
under : (gap best least : ℕ) → least ≡ least_margin gap best → 1 ≤ best → least ≤ best
under gap best least is some = let le = least-le gap best some in omega (arith, is, le)

pub nens_of-requires-clause-winner : goal.nens_of-requires-clause-winner
nens_of-requires-clause-winner c =
    elected_below c.args.counted.now.bag.n c.args.tab.now.winner c.args.tab.now.order c.requires.order c.requires.winner

pub nens_of-requires-clause-least : goal.nens_of-requires-clause-least
nens_of-requires-clause-least c =
    let n = c.args.counted.now.bag.n in
    let (records, of) = c.requires.records in
    let is : IsBestFound n records c.args.tab.now c.args.sets c.in-Found.found =
    subst (IsBestEnd n records c.args.tab.now c.args.sets) c.in-Found.is (c.in_ok-found.ensures.end records of) in
    under c.args.gap c.in-Found.found.best.margin c.least_margin-least.result c.least_margin-least.ensures is.some

pub claims_of-requires-clause-proper : goal.claims_of-requires-clause-proper
claims_of-requires-clause-proper c =
    let n = c.args.counted.now.bag.n in
    let (records, of) = c.requires.records in
    let nebs = c.in-Ok.found.nebs.items in
    let nens = c.in-Ok.found.nens.items in
    let same : c.len.result ≡ n = c.len.ensures.same ∙ (order_facts n c.args.tab.now.order c.requires.order).long in
    subst (λ n. All (λ (claim : Claim). is_proper n claim.assertion ≡ true) (nebs ++ nens)) (sym same)
    (all-proper n c.args.tab.now.winner records c.least_margin-least.result nebs nens (c.in-Ok.ensures.nens records of).all_nebs (c.in-Ok.ensures.nens records of).fewest)

pub claims_of-requires-clause-covered : goal.claims_of-requires-clause-covered
claims_of-requires-clause-covered c =
    let n = c.args.counted.now.bag.n in
    let (records, of) = c.requires.records in
    let nebs = c.in-Ok.found.nebs.items in
    let nens = c.in-Ok.found.nens.items in
    let same : c.len.result ≡ n = c.len.ensures.same ∙ (order_facts n c.args.tab.now.order c.requires.order).long in
    let is : IsBestFound n records c.args.tab.now c.args.sets c.in-Found.found =
    subst (IsBestEnd n records c.args.tab.now c.args.sets) c.in-Found.is (c.in_ok-found.ensures.end records of) in
    let best = c.in-Found.found.best.margin in
    let least = c.least_margin-least.result in
    let fewer = beside-less n records least best (under c.args.gap best least c.least_margin-least.ensures is.some) c.args.tab.now.winner in
    subst (λ n. first_within n c.args.tab.now.winner c.args.sets (passes (assertions_in (nebs ++ nens))) ≡ Ok None) (sym same)
    (all-covered n c.args.tab.now.winner records c.least_margin-least.result nebs nens (c.in-Ok.ensures.nens records of).all_nebs (c.in-Ok.ensures.nens records of).fewest
    c.args.sets (omega (arith, c.in-Ok.ensures.within records of, fewer)))

pub unreachable-requires : goal.unreachable-requires
unreachable-requires c =
    let n = c.args.counted.now.bag.n in
    let winner = c.args.tab.now.winner in
    let (records, of) = c.requires.records in
    let is : IsBestFound n records c.args.tab.now c.args.sets c.in-Found.found =
    subst (IsBestEnd n records c.args.tab.now c.args.sets) c.in-Found.is (c.in_ok-found.ensures.end records of) in
    let least = c.least_margin-least.result in
    let margin = is.best.margin in
    let some = is.some in
    let le = under c.args.gap c.in-Found.found.best.margin least c.least_margin-least.ensures some in
    never-uncovered n winner records least (omega (arith, le, margin)) (omega (arith, some, margin)) (c.in-Err.ensures.uncovered records of c.in-Uncovered.is)

pub returns-in_ok-claims-in-Ok-clause-end : goal.returns-in_ok-claims-in-Ok-clause-end
returns-in_ok-claims-in-Ok-clause-end c = λ records of.
    let n = c.args.counted.now.bag.n in
    let winner = c.args.tab.now.winner in
    let sets = c.args.sets in
    let best = c.in-Found.found.best in
    let nebs = c.in-Ok.found.nebs.items in
    let nens = c.in-Ok.found.nens.items in
    let claims = c.in_ok-claims-in-Ok.claims.items in
    let is : IsBestFound n records c.args.tab.now sets c.in-Found.found =
    subst (IsBestEnd n records c.args.tab.now sets) c.in-Found.is (c.in_ok-found.ensures.end records of) in
    let margin = is.best.margin in
    let same : c.len.result ≡ n = c.len.ensures.same ∙ (order_facts n c.args.tab.now.order c.requires.order).long in
    let spared : AreSpared n winner sets nebs nens claims = subst (λ n. AreSpared n winner sets nebs nens claims) same c.in_ok-claims-in-Ok.ensures in
    let least = c.least_margin-least.result in
    let nens-are = c.in-Ok.ensures.nens records of in
    let fewest : AreFewest n records winner sets least claims =
    spared-fewest n winner records least nebs nens nens-are.all_nebs nens-are.fewest nens-are.strongest sets claims spared in
    let at : least ≡ least_margin c.args.gap (best_of n records winner) = c.least_margin-least.ensures ∙ ap (least_margin c.args.gap) margin in
    let order = is.best.within in
    let beside = subst (λ margin. sets_beside n records winner margin ≤ sets) margin (c.in-Ok.ensures.within records of) in
    record {
      margin = margin;
      some = is.some;
      order = is.best.order;
      claims = subst (λ least. AreFewest n records winner sets least claims) at fewest;
      within = let all = beside-all n winner records (let some = is.some in omega (arith, some, margin)) in omega (arith, order, beside, all);
    }
