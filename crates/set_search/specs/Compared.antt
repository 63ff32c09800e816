-- The order of waiting sets is total.
use Rattle.std.specs.Cmp.{IsTotalOrder, back_total, on_total, then_total, nat_cmp_total}
use Rattle.set_search.specs.declared.waiting.Waiting.{Waiting}
use Rattle.set_search.specs.Waits.{least_first}

pub least_total : IsTotalOrder least_first
least_total =
    then_total (back_total (on_total (λ (o : Waiting). o.margin) nat_cmp_total))
    (on_total (λ (o : Waiting). o.size) nat_cmp_total)
