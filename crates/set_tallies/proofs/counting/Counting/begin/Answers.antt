use Rattle.std.proofs.Common.{◌+◌, sym, subst, arith}
use Rattle.set_tallies.specs.Countings.{AreCounted, rankings_by}
use Rattle.set_tallies.proofs.Countings.{begun}
use Rattle.set_tallies.proofs.counting.Counting.begin.Goals as goal

pub invariant_of-self : goal.invariant_of-self
invariant_of-self c =
    let own = c.self.inside in
    subst (AreCounted own.n (own.records + 1) 0 own.table.items) (sym c.begin.ensures)
    (begun own.n own.records own.seen own.table.items (rankings_by own.course.value) c.self.invariant (omega (arith, c.if-self-ge-MOST_RECORDS.false)))
