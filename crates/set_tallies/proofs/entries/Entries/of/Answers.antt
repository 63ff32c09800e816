use Rattle.std.proofs.Common.{length, take, ap, ap₂, sym, arith, ◌∙◌}
use Rattle.std.proofs.lemmas.List.{length-map, take_all}
use Rattle.set_tallies.specs.Listings.{paired}
use Rattle.set_tallies.proofs.Paired.{together}
use Rattle.set_tallies.proofs.entries.Entries.of.Goals as goal

pub invariant_of-result : goal.invariant_of-result
invariant_of-result c =
    let first = take c.loop-entry.entry-index c.args.list.now in
    ap length c.loop-entry.invariant.counts ∙ length-map first (λ e. e.count)
    ∙ sym (ap length c.loop-entry.invariant.sets ∙ length-map first (λ e. e.before))

pub returns : goal.returns
returns c =
    ap₂ paired c.loop-entry.invariant.sets c.loop-entry.invariant.counts
    ∙ together (take c.loop-entry.entry-index c.args.list.now)
    ∙ take_all c.loop-entry.entry-index c.args.list.now (omega (arith, c.loop-entry-test.false))
