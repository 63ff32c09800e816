use Rattle.std.proofs.Common.{◌+◌, get_or, ap, arith, ◌∙◌, set}
use Rattle.set_tallies.specs.Sums.{column, apart}
use Rattle.set_tallies.proofs.Columns.{place-fits, table-more}
use Rattle.set_tallies.proofs.table.add.Goals as goal

pub overflow_add-table : goal.overflow_add-table
overflow_add-table c =
    omega (
      arith,
      ap (λ i. get_or c.args.table.now i 0) c.place.ensures,
      place-fits c.args.n c.args.n c.args.table.now c.requires.long c.args.set c.args.c c.requires.set c.requires.candidate c.args.count _ c.requires.fit,
    )

pub returns-clause-more : goal.returns-clause-more
returns-clause-more c = λ s d l.
    let table = c.args.table.now in
    let n = c.args.n in
    ap (λ i. apart s (column n n (set table i (get_or table i 0 + c.args.count)) d)) c.place.ensures
    ∙ table-more n n table c.requires.long c.args.set c.args.c c.requires.set c.requires.candidate c.args.count s d l
