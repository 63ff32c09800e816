use Rattle.std.proofs.Common.{◌+◌, length, get_or, arith}
use Rattle.std.proofs.lemmas.List.FromFn.{fill_by_all}
use Rattle.set_tallies.proofs.table.add_table.Goals as goal

pub returns : goal.returns
returns c =
    fill_by_all (λ i. get_or c.args.table.now i 0 + get_or c.args.other.now i 0) c.loop-i.table (length c.args.table.now) 0 c.loop-i.auto.table
    (λ k l. c.loop-i.invariant.summed k (omega (arith, l, c.loop-i-test.false)))
