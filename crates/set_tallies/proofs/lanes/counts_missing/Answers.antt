use Rattle.std.proofs.Common.{◌==◌, replicate, ap, ◌∙◌, bit_and, w32}
use Rattle.std.specs.Simd.Lanes.{zip2, sel_l}
use Rattle.std.proofs.lemmas.Simd.{tops_compared}
use Rattle.set_tallies.proofs.Paired.{selected}
use Rattle.set_tallies.proofs.lanes.counts_missing.Goals as goal

pub returns : goal.returns
returns c =
    ap (λ ms. sel_l ms c.args.counts (replicate 8 0)) (tops_compared w32 (λ a b. a == b) (zip2 bit_and c.args.sets (replicate 8 c.args.set)) (replicate 8 0))
    ∙ selected c.args.set 8 c.args.sets c.args.counts c.requires.0 c.requires.1
