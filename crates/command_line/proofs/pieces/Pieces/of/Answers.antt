use Rattle.std.specs.Slice.Iter.{iter_rest}
use Rattle.command_line.proofs.Counts.{few}
use Rattle.command_line.proofs.pieces.Pieces.of.Goals as goal

pub invariant_of-result : goal.invariant_of-result
invariant_of-result c = few c.args.options.now (iter_rest c.iter.result) c.iter.ensures.bound
