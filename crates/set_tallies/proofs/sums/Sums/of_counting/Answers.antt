use Rattle.std.proofs.Common.{◌≡◌, ◌+◌, ◌*◌, ◌^◌, length, get_or, sym, ap, ◌∙◌}
use Rattle.set_tallies.specs.Sums.{IsCountOf}
use Rattle.set_tallies.proofs.Tables.{all-written, says-sum}
use Rattle.set_tallies.proofs.sums.Sums.of_counting.Goals as goal

pub returns-clause-says : goal.returns-clause-says
returns-clause-says c = rw c.candidates-n.ensures.same (λ s d m l.
    let n = c.args.counting.now.n in
    let table = c.in_ok-table.table in
    let old = c.deref_mut.result.now in
    let new = c.sum_apart.new.table in
    let same = c.deref_mut.ensures.value ∙ c.in_ok-table.ensures.items in
    let was : IsCountOf n c.args.counting.now.rankings old = rw same c.table.ensures.counts in
    let sums = rw c.candidates-n.ensures.same at c.sum_apart.ensures.sums in
    let wide : length new ≡ n * 2 ^ n = rw c.candidates-n.ensures.same at c.sum_apart.ensures.long in
    let long : length new ≡ table.len = wide ∙ sym was.long ∙ ap length c.deref_mut.ensures.value ∙ sym table.ok.0 in
    ap (λ t. get_or t (s * n + d) 0) (all-written table.len new table.items long) ∙ says-sum n old new s d m (sums d l) ∙ was.says s d l)
