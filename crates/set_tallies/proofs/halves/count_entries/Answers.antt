use Rattle.std.proofs.Common.{◌≡◌, ◌+◌, ◌-◌, ◌*◌, ◌%◌, ◌^◌, ◌<◌, cond, length, sym, ap, pow_pos, arith, ◌∙◌}
use Rattle.std.proofs.lemmas.List.{length-replicate}
use Rattle.std.proofs.lemmas.List.Sums.{sum_by_more}
use Rattle.irv_base.proofs.Bits.{one_bit}
use Rattle.set_tallies.specs.Bags.{misses}
use Rattle.set_tallies.specs.Sums.{column, apart}
use Rattle.set_tallies.proofs.Columns.{place-below, zeros-apart}
use Rattle.set_tallies.proofs.Runs.{votes-within}
use Rattle.set_tallies.proofs.Halving.{wide, misses-parts}
use Rattle.set_tallies.proofs.halves.count_entries.Goals as goal
use Rattle.set_tallies.proofs.halves.count_entries.Goals.{After-at-entry}

within : (c : After-at-entry) → c.loop-i.i < length c.args.entries.now.items
within c = omega (arith, c.loop-i-test.true, c.len-i-end.ensures)

pub loop-i-init : goal.loop-i-init
loop-i-init c =
    let n = c.args.n in
    record {
      long = ap length c.requires.zeros ∙ length-replicate (2 ^ n) 0;
      says = λ s low m l.
          ap (λ t. apart s (column 16 (n - 4) t low)) c.requires.zeros
          ∙ zeros-apart 16 (n - 4) s low (2 ^ n) (sym (wide n c.requires.few.0)) l;
    }

pub count_low-requires-clause-fit : goal.count_low-requires-clause-fit
count_low-requires-clause-fit c = λ low l.
    omega (
      arith,
      c.loop-i.invariant.says 0 low (pow_pos (c.args.n - 4)) l,
      votes-within (0 * 16 + low) c.args.entries.now.items c.loop-i.i c.at-entry.result (within (goal.at.count_low-requires-clause-fit c).After-at-entry),
      ap (λ e. e.count) c.at-entry.ensures,
      c.requires.most,
    )

pub loop-i-preserved : goal.loop-i-preserved
loop-i-preserved c =
    let n = c.args.n in
    let entries = c.args.entries.now.items in
    let i = c.loop-i.i in
    let e = c.at-entry.result in
    let bit : 1 * 2 ^ n % 2 ^ 32 ≡ 2 ^ n = one_bit n (omega (arith, c.requires.few.1)) in
    record {
      long = c.count_low.ensures.long;
      says = λ s low m l.
          let added = rw bit at c.count_low.ensures.more s low l in
          let below : s * 16 + low < 2 ^ n = omega (arith, wide n c.requires.few.0, place-below 16 (n - 4) s low m l) in
          let parts = ap (λ b. cond b e.count 0) (misses-parts n s low e.before l c.requires.few.0 below) in
          omega (
            arith,
            added,
            parts,
            c.loop-i.invariant.says s low m l,
            sum_by_more (λ x. cond (misses (s * 16 + low) x.before) x.count 0) entries i e (within (goal.at.loop-i-preserved c).After-at-entry),
            ap (λ x. cond (misses (s * 16 + low) x.before) x.count 0) c.at-entry.ensures,
          );
    }
