use Rattle.std.proofs.Common.{◌≡◌, ◌*◌, ◌%◌, ◌^◌, ◌<◌, cond, take, length, eq-eqb, refl, ap, pow_pos, arith}
use Rattle.irv_base.proofs.Bits.{one_bit}
use Rattle.set_tallies.specs.Bags.{missing}
use Rattle.set_tallies.proofs.Runs.{votes-within}
use Rattle.set_tallies.proofs.Tables.{entry-more}
use Rattle.set_tallies.proofs.table.count_entries.Goals as goal
use Rattle.set_tallies.proofs.table.count_entries.Goals.{After-at-entry}

within : (c : After-at-entry) → c.loop-i.i < length c.args.entries.now.items
within c = omega (arith, c.loop-i-test.true, c.len-i-end.ensures)

pub add-requires-clause-fit : goal.add-requires-clause-fit
add-requires-clause-fit c =
    let entries = c.args.entries.now.items in
    let i = c.loop-i.i in
    let own = ap (λ b. cond b (missing 0 (take i entries)) 0) (eq-eqb c.args.c c.args.c refl) in
    omega (
      arith,
      c.loop-i.invariant.more 0 c.args.c (pow_pos c.args.n) c.requires.candidate,
      own,
      votes-within 0 entries i c.at-entry.result (within (goal.at.add-requires-clause-fit c).After-at-entry),
      ap (λ e. e.count) c.at-entry.ensures,
      c.requires.fit,
    )

pub loop-i-preserved : goal.loop-i-preserved
loop-i-preserved c =
    let n = c.args.n in
    let entries = c.args.entries.now.items in
    let i = c.loop-i.i in
    let bit : 1 * 2 ^ n % 2 ^ 32 ≡ 2 ^ n = one_bit n (omega (arith, c.requires.few)) in
    record {
      long = c.add.ensures.long;
      more = λ s d m l.
          let added = rw bit at c.add.ensures.more s d l in
          let entry =
          entry-more n s c.args.c d entries i c.at-entry.result m (within (goal.at.loop-i-preserved c).After-at-entry) c.at-entry.ensures in
          omega (arith, added, c.loop-i.invariant.more s d m l, entry);
    }
