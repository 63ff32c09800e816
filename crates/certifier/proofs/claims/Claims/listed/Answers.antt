use Rattle.std.proofs.Common.{◌≡◌, map, IfOk, ap, subst, ◌∙◌}
use Rattle.certifier.specs.Gathered.{claim_at}
use Rattle.certifier.proofs.Sorting.{entries}
use Rattle.certifier.proofs.claims.Claims.listed.Goals as goal

pub returns : goal.returns
returns c =
    subst (λ es. IfOk c.in_order.result (λ list. list.items ≡ map claim_at es))
    (ap entries c.as_slice.ensures.value ∙ c.self.view_is)
    c.in_order.ensures
