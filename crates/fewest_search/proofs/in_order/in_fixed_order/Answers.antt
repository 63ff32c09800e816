use Rattle.std.proofs.Common.{◌≡◌, map, ap, ◌∙◌}
use Rattle.assertions.specs.contracts.assertion.AssertionOrd.TheImpl.{ghosts}
use Rattle.bound_search.proofs.Turns.{if_ok}
use Rattle.certifier.specs.Gathered.{claim_at, with_all}
use Rattle.fewest_search.specs.InOrder.{AreInOrder, entry_of}
use Rattle.fewest_search.proofs.InOrder.{in-order}
use Rattle.fewest_search.proofs.in_order.in_fixed_order.Goals as goal

pub returns : goal.returns
returns c =
    let put = c.in_ok-put_all.ensures ∙ ap (λ entries. with_all ghosts.cmp entries (map entry_of c.args.claims.now)) c.new-entries.ensures.empty in
    if_ok (λ list. list.items ≡ map claim_at c.put_all.new.entries.entries) (λ list. AreInOrder c.args.claims.now list.items) c.listed.result
    (λ list e. in-order c.args.claims.now list.items (e ∙ ap (map claim_at) put)) c.listed.ensures
