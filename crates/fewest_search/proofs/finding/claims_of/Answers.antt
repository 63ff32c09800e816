use Rattle.std.proofs.Common.{◌≡◌, ◌++◌, ◌≤◌, length, take, true, All, None, Ok, subst, sym, ap, arith, ◌∙◌}
use Rattle.std.proofs.lemmas.List.{length-take-le}
use Rattle.assertions.specs.declared.assertion.Claim.{Claim}
use Rattle.assertions.specs.Assertions.{is_proper}
use Rattle.bound_search.proofs.Turns.{if_ok}
use Rattle.set_walk.specs.Answers.{first_within}
use Rattle.set_walk.specs.Walks.{passes}
use Rattle.nen_cut.specs.Floors.{assertions_in}
use Rattle.fewest_search.specs.InOrder.{AreInOrder}
use Rattle.fewest_search.specs.Spared.{AreLeft, AreSpared}
use Rattle.fewest_search.proofs.Joining.{spared, turn-all, turn-covered, turn-long}
use Rattle.fewest_search.proofs.finding.claims_of.Goals as goal

pub nebs_left-requires-clause-proper : goal.nebs_left-requires-clause-proper
nebs_left-requires-clause-proper c =
    let found = c.args.found in
    let is-proper = λ (claim : Claim). is_proper c.args.n claim.assertion ≡ true in
    subst (All is-proper) (sym c.as_slice.ensures.value)
    (turn-all found.nebs.items found.nens.items c.in_ok-claims.claims.items c.in_ok-claims.ensures is-proper c.requires.proper)

pub nebs_left-requires-clause-covered : goal.nebs_left-requires-clause-covered
nebs_left-requires-clause-covered c =
    let found = c.args.found in
    subst (λ claims. first_within c.args.n c.args.winner c.args.sets (passes (assertions_in claims)) ≡ Ok None) (sym c.as_slice.ensures.value)
    (turn-covered found.nebs.items found.nens.items c.in_ok-claims.claims.items c.in_ok-claims.ensures c.args.n c.args.winner c.args.sets c.requires.covered)

pub slice_bounds-extend_from_slice-end : goal.slice_bounds-extend_from_slice-end
slice_bounds-extend_from_slice-end c =
    let found = c.args.found in
    let long = turn-long found.nebs.items found.nens.items c.in_ok-claims.claims.items c.in_ok-claims.ensures in
    let many : c.len-many.result ≡ length found.nens.items = grind (arith, c.len-many.ensures, found.nens.ok) in
    let same = ap length c.deref.ensures.value in
    let le : c.len-many.result ≤ length c.deref.result.now = omega (arith, long, many, same) in
    sym (length-take-le c.len-many.result c.deref.result.now le)

pub returns : goal.returns
returns c =
    let found = c.args.found in
    let claims = c.in_ok-claims.claims.items in
    let many : c.len-many.result ≡ length found.nens.items = grind (arith, c.len-many.ensures, found.nens.ok) in
    let left : AreLeft c.args.n c.args.winner c.args.sets claims (take (length found.nens.items) claims) c.in_ok-left.left.items =
    subst (λ many. AreLeft c.args.n c.args.winner c.args.sets claims (take many claims) c.in_ok-left.left.items) many
    (subst (λ claims. AreLeft c.args.n c.args.winner c.args.sets claims (take c.len-many.result claims) c.in_ok-left.left.items) c.as_slice.ensures.value
    c.in_ok-left.ensures) in
    let all : c.as_slice-2.result.now ≡ c.in_ok-left.left.items ++ take (length found.nens.items) claims =
    c.as_slice-2.ensures.value ∙ c.in_ok-extend_from_slice.ensures.items
    ∙ ap (λ claims. c.in_ok-left.left.items ++ take c.len-many.result claims) c.deref.ensures.value
    ∙ ap (λ many. c.in_ok-left.left.items ++ take many claims) many in
    if_ok (λ list. AreInOrder c.as_slice-2.result.now list.items)
    (λ list. AreSpared c.args.n c.args.winner c.args.sets found.nebs.items found.nens.items list.items) c.in_fixed_order.result
    (λ list order.
    spared found.nebs.items found.nens.items claims c.in_ok-claims.ensures c.args.n c.args.winner c.args.sets c.in_ok-left.left.items list.items left
    (subst (λ all. AreInOrder all list.items) all order)) c.in_fixed_order.ensures
