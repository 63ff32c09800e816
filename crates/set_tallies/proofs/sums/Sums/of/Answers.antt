use Rattle.std.proofs.Common.{◌≡◌, ◌+◌, ◌*◌, length, get_or, sym, ap, ◌∙◌}
use Rattle.set_tallies.specs.Sums.{column, apart}
use Rattle.set_tallies.proofs.Tables.{all-written, says-sum}
use Rattle.set_tallies.proofs.sums.Sums.of.Goals as goal

pub returns-clause-says : goal.returns-clause-says
returns-clause-says g c = λ s d m l.
    let n = c.args.n in
    let table = c.in_ok-table.table in
    let old = c.deref_mut.result.now in
    let new = c.sum_apart.new.table in
    let long : length new ≡ table.len = c.sum_apart.ensures.long ∙ sym c.in_ok-table.ensures.long ∙ sym table.ok.0 in
    ap (λ t. get_or t (s * n + d) 0) (all-written table.len new table.items long)
    ∙ says-sum n old new s d m (c.sum_apart.ensures.sums d l)
    ∙ ap (λ t. apart s (column n n t d)) c.deref_mut.ensures.value
    ∙ c.in_ok-table.ensures.says s d l
