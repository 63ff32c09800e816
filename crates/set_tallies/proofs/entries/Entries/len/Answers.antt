use Rattle.std.proofs.Common.{ap, length, arith}
use Rattle.set_tallies.proofs.Paired.{length-paired}
use Rattle.set_tallies.proofs.entries.Entries.len.Goals as goal

pub returns : goal.returns
returns c =
    let own = c.self.inside in
    omega (
      arith,
      c.len.ensures,
      own.sets.ok.0,
      length-paired own.sets.items own.counts.items c.self.invariant,
      ap (λ e. length e.items) c.self.view_is,
    )
