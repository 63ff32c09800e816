use Rattle.std.proofs.Common.{◌≡◌, map, arith, ap, ◌∙◌}
use Rattle.std.proofs.lemmas.List.{take_all}
use Rattle.certifier.proofs.InOrder.{entry_from, entries-back}
use Rattle.certifier.proofs.Sorting.{entries, entries-twice}
use Rattle.certifier.proofs.claims.Claims.shorten.Goals as goal

pub returns : goal.returns
returns c =
    let list = c.self.inside.list.items in
    let claims = c.deref-claim-items.result.now in
    let all : c.loop-claim.self-inside.list.items ≡ map entry_from c.in_ok-claims.claims.items =
    c.loop-claim.invariant ∙ ap (map entry_from) (take_all c.loop-claim.claim-index claims (omega (arith, c.loop-claim-test.false)) ∙ c.deref-claim-items.ensures.value) in
    ap entries (all ∙ ap (map entry_from) c.in_ok-claims.ensures ∙ entries-back (entries c.as_slice.result.now) ∙ ap entries c.as_slice.ensures.value)
    ∙ entries-twice list ∙ c.self.view_is
