use Rattle.std.proofs.Common.{◌≡◌, ◌==◌, ◌+◌, ◌*◌, ◌%◌, ◌^◌, ◌<◌, ◌&&◌, ℕ, cond, length, sym, ap, subst, arith, ◌∙◌}
use Rattle.irv_base.proofs.Bits.{one_bit}
use Rattle.set_tallies.specs.Bags.{misses}
use Rattle.set_tallies.specs.Countings.{AreCounted, lengthened, rankings_by}
use Rattle.set_tallies.specs.Sums.{column, apart}
use Rattle.set_tallies.proofs.Countings.{lengthened-last, longer, one-fits, seen-within}
use Rattle.set_tallies.proofs.Tables.{all-written}
use Rattle.set_tallies.proofs.counting.Counting.lengthen.Goals as goal

pub add-requires-clause-set : goal.add-requires-clause-set
add-requires-clause-set c =
    let own = c.self.inside in
    let (earlier, last, old, out) = c.requires.last in
    let is = ap (λ r. r.rankings) c.self.view_is ∙ old in
    let below : c.args.c < own.n = omega (arith, ap (λ r. r.n) c.self.view_is, c.requires.below) in
    seen-within own.n own.records own.seen own.table.items (rankings_by own.course.value) c.self.invariant earlier last c.args.c is out below

pub add-requires-clause-fit : goal.add-requires-clause-fit
add-requires-clause-fit c =
    let own = c.self.inside in
    let (earlier, last, old, out) = c.requires.last in
    let is = ap (λ r. r.rankings) c.self.view_is ∙ old in
    let below : c.args.c < own.n = omega (arith, ap (λ r. r.n) c.self.view_is, c.requires.below) in
    omega (
      arith,
      ap (λ t. apart 0 (column own.n own.n t c.args.c)) c.deref_mut.ensures.value,
      one-fits own.n own.records own.seen own.table.items (rankings_by own.course.value) c.self.invariant earlier last c.args.c is out below,
    )

pub invariant_of-self : goal.invariant_of-self
invariant_of-self c =
    let own = c.self.inside in
    let n = own.n in
    let table = own.table in
    let new = c.add.new.table in
    let (earlier, last, old, out) = c.requires.last in
    let is = ap (λ r. r.rankings) c.self.view_is ∙ old in
    let below : c.args.c < n = omega (arith, ap (λ r. r.n) c.self.view_is, c.requires.below) in
    let bit : 1 * 2 ^ c.index.result % 2 ^ 32 ≡ 2 ^ c.args.c =
    ap (λ k. 1 * 2 ^ k % 2 ^ 32) c.index.ensures.same ∙ one_bit c.args.c (omega (arith, below, c.self.invariant.few)) in
    let long : length new ≡ table.len = c.add.ensures.long ∙ sym c.self.invariant.counts.long ∙ sym table.ok.0 in
    rw bit (rw (all-written table.len new table.items long) (subst (AreCounted n own.records _ new) (sym c.lengthen.ensures)
    (longer n own.records own.seen table.items (rankings_by own.course.value) c.self.invariant earlier last c.args.c is out below new c.add.ensures.long
    (λ s d l.
    let one : ℕ = cond (d == c.args.c && misses s own.seen) 1 0 in
    c.add.ensures.more s d l ∙ ap (λ t. apart s (column n n t d) + one) c.deref_mut.ensures.value))))

pub returns-clause-longer : goal.returns-clause-longer
returns-clause-longer c = λ earlier last old.
    c.lengthen.ensures ∙ ap (λ rs. lengthened rs c.args.c) (ap (λ r. r.rankings) c.self.view_is ∙ old)
    ∙ lengthened-last earlier last c.args.c
