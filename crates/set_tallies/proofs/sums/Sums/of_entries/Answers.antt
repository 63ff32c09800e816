use Rattle.std.proofs.Common.{◌≡◌, ◌+◌, ◌*◌, [], length, map, get_or, sym, ap, pow_pos, arith, ◌∙◌}
use Rattle.set_tallies.specs.Sums.{column, apart}
use Rattle.set_tallies.proofs.Runs.{missing-le}
use Rattle.set_tallies.proofs.Tables.{all-written, says-sum}
use Rattle.set_tallies.proofs.sums.Sums.of_entries.Goals as goal

pub sum_apart-requires-clause-fit : goal.sum_apart-requires-clause-fit
sum_apart-requires-clause-fit c = λ d l.
    let n = c.args.n in
    let entries = get_or (map (λ v. v.items) c.args.lists.now) d [] in
    omega (
      arith,
      ap (λ t. apart 0 (column n n t d)) c.deref_mut.ensures.value,
      c.in_ok-table.ensures.says 0 d (pow_pos n) l,
      missing-le 0 entries,
      c.requires.entries.few d [] (omega (arith, l, c.requires.entries.one_each)),
    )

pub returns-clause-says : goal.returns-clause-says
returns-clause-says c = λ s d m l.
    let n = c.args.n in
    let table = c.in_ok-table.table in
    let old = c.deref_mut.result.now in
    let new = c.sum_apart.new.table in
    let long : length new ≡ table.len = c.sum_apart.ensures.long ∙ sym c.in_ok-table.ensures.long ∙ sym table.ok.0 in
    ap (λ t. get_or t (s * n + d) 0) (all-written table.len new table.items long)
    ∙ says-sum n old new s d m (c.sum_apart.ensures.sums d l)
    ∙ ap (λ t. apart s (column n n t d)) c.deref_mut.ensures.value
    ∙ c.in_ok-table.ensures.says s d m l
