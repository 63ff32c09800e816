use Rattle.std.proofs.Common.{◌<◌, ◌≤◌, ap, pow_pos, arith}
use Rattle.irv_base.specs.declared.limits.TheConstants.{MOST_RECORDS}
use Rattle.std.proofs.lemmas.List.{length-map}
use Rattle.set_tallies.specs.Bags.{total}
use Rattle.set_tallies.specs.Sums.{column, apart}
use Rattle.set_tallies.proofs.Filled.{at-place}
use Rattle.set_tallies.proofs.table.table_of.Goals as goal

pub count_entries-requires-clause-fit : goal.count_entries-requires-clause-fit
count_entries-requires-clause-fit c =
    let n = c.args.n in
    let d = c.loop-c.c in
    let lists = c.args.lists.now in
    let own : d < n = omega (arith, c.loop-c-test.true, c.loop-c.auto.c-end) in
    let none = c.loop-c.invariant.left 0 d (pow_pos n) (omega arith) own in
    let few : total c.index-lists-c.result.items ≤ MOST_RECORDS =
    at-place (λ es. total es ≤ MOST_RECORDS) (λ v. v.items) lists d c.index-lists-c.result (omega (arith, own, c.requires.entries.one_each, length-map lists (λ v. v.items)))
    c.requires.entries.few c.index-lists-c.is in
    omega (arith, ap (λ t. apart 0 (column n n t d)) c.deref_mut.ensures.value, none, few)
