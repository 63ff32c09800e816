use Rattle.std.proofs.Common.{arith}
use Rattle.shared_witness.proofs.Keeps.{open_times}
use Rattle.shared_witness.proofs.Allowed.{close_allowed}
use Rattle.shared_witness.proofs.steps.close_word.Goals as goal

pub load-requires : goal.load-requires
load-requires g c =
    let key = c.args.words.now.shared.key in
    let id = c.args.words.now.shared.table_id in
    let seat = c.args.seat.now in (
      c.requires.table,
      omega (arith, c.requires.two_words),
      rw (c.requires.terms, c.requires.piece)
          (close_allowed key id.slots seat.id seat.me c.requires.share c.args.piece (open_times seat.me.0 c.args.piece c.requires.taken c.requires.open_piece)),
    )
