use Rattle.std.proofs.Common.{◌∙◌, length, sym, ap, arith}
use Rattle.manifest.proofs.BatchTable.{at_place, first_tells, found_within}
use Rattle.manifest.proofs.batch_ids.BatchIds.index_of.Goals as goal

pub returns-in-Some-clause-within : goal.returns-in-Some-clause-within
returns-in-Some-clause-within c =
    let ids = c.self.inside.ids.items in
    let id = c.args.id.now in
    let number = c.index-first.result.now in
    let at = at_place ids c.self.inside.table.items _ id c.len.result c.place_in.result number c.self.invariant c.bytes.ensures.valid
    (omega (arith, c.len.ensures, c.self.inside.table.ok)) (rw c.bytes.ensures.same at c.place_in.ensures.place) c.place_in.ensures.within
    c.index-first.ensures in
    let other = first_tells ids number _ id c.index.result.now c.eq.result at.placed c.if-first-eq0.false c.index.ensures c.eq.ensures ∙ c.if-eq.false in
    let later = sym (rw c.of.ensures at c.in-Some.ensures.value) in
    omega (arith, found_within ids number c.in-Some.i.now _ id at.placed c.if-first-eq0.false other later, ap length c.self.view_is)
