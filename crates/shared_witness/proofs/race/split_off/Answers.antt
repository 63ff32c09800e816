use Rattle.std.proofs.Common.{arith}
use Rattle.shared_witness.proofs.Allowed.{split_allowed}
use Rattle.shared_witness.proofs.race.split_off.Goals as goal

pub split_seat-requires : goal.split_seat-requires
split_seat-requires c = (
  c.requires.table,
  omega (arith, c.requires.two_words),
  split_allowed c.args.words.now.shared.key c.args.rest.now.id
      c.args.rest.now.me.0 c.requires.several,
)
