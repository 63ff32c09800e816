use Rattle.std.proofs.Common.{◌≡◌, ◌+◌, length, get_or, arith}
use Rattle.std.proofs.lemmas.List.{ext_get_or}
use Rattle.std.proofs.lemmas.List.FromFn.{fill_by_all}
use Rattle.set_tallies.proofs.sums.add_halves.Goals as goal

pub returns-clause-sums : goal.returns-clause-sums
returns-clause-sums c =
    fill_by_all (λ i. get_or c.args.without.now i 0 + get_or c.args.having.now i 0) c.loop-i.without (length c.args.without.now) 0 c.loop-i.auto.without
    (λ k l. c.loop-i.invariant.summed k (omega (arith, l, c.loop-i-test.false)))

pub returns-clause-first : goal.returns-clause-first
returns-clause-first c =
    let long : length c.loop-i.having ≡ length c.args.without.now = omega (arith, c.loop-i.auto.having, c.requires.same) in
    ext_get_or 0 c.loop-i.having c.args.without.now long (λ k l. c.loop-i.invariant.first k (omega (arith, l, long, c.loop-i-test.false)))
