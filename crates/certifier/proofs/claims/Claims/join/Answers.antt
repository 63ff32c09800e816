use Rattle.std.proofs.Common.{◌++◌, ap, ap₂, ◌∙◌}
use Rattle.assertions.specs.contracts.assertion.AssertionOrd.TheImpl.{ghosts}
use Rattle.certifier.specs.Gathered.{with_all}
use Rattle.certifier.proofs.Sorting.{entries, entries-joined}
use Rattle.certifier.proofs.claims.Claims.join.Goals as goal

pub returns : goal.returns
returns c =
    let own = c.self.inside.list.items in
    ap entries (c.in_ok-extend_from_slice.ensures.items ∙ ap (λ more. own ++ more) c.as_slice.ensures.value)
    ∙ entries-joined own c.other.inside.list.items ∙ ap₂ (with_all ghosts.cmp) c.self.view_is c.other.view_is
