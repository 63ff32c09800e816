use Rattle.std.proofs.Common.{◌+◌, ◌-◌, ◌*◌, ◌/◌, ◌%◌, ◌^◌, ◌<◌, ap, sym, pow_pos, arith, ◌∙◌}
use Rattle.std.proofs.Math.Nat.{div-add-mod', div-lt_iff_lt-mul, mod-lt}
use Rattle.set_tallies.specs.Bags.{missing}
use Rattle.set_tallies.proofs.Halving.{wide, says-low}
use Rattle.set_tallies.proofs.Runs.{missing-le}
use Rattle.set_tallies.proofs.halves.sum_entries.Goals as goal

pub sum_apart-requires-clause-long : goal.sum_apart-requires-clause-long
sum_apart-requires-clause-long c = c.count_entries.ensures.long ∙ sym (wide c.args.n c.requires.few.0)

pub sum_apart-requires-clause-fit : goal.sum_apart-requires-clause-fit
sum_apart-requires-clause-fit c = λ low l.
    omega (arith, c.count_entries.ensures.says 0 low (pow_pos (c.args.n - 4)) l, missing-le (0 * 16 + low) c.args.entries.now.items, c.requires.most)

pub returns-clause-long : goal.returns-clause-long
returns-clause-long c = c.sum_apart.ensures.long ∙ wide c.args.n c.requires.few.0

pub returns-clause-says : goal.returns-clause-says
returns-clause-says c = λ set below.
    let n = c.args.n in
    let low : set % 16 < 16 = mod-lt set (omega arith) in
    let row : set / 16 < 2 ^ (n - 4) = (div-lt_iff_lt-mul (omega arith)).1 (omega (arith, wide n c.requires.few.0, below)) in
    says-low n c.count_entries.new.numbers c.sum_apart.new.table c.requires.few.0 c.sum_apart.ensures.sums set below
    ∙ c.count_entries.ensures.says (set / 16) (set % 16) row low
    ∙ ap (λ s. missing s c.args.entries.now.items) (div-add-mod' set 16)
