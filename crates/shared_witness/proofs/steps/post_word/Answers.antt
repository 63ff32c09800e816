use Rattle.std.proofs.Common.{arith}
use Rattle.shared_witness.proofs.Allowed.{post_allowed}
use Rattle.shared_witness.proofs.steps.post_word.Goals as goal

pub fetch_min-requires : goal.fetch_min-requires
fetch_min-requires g c =
    let key = c.args.words.now.shared.key in
    let id = c.args.words.now.shared.table_id in
    let seat = c.args.seat.now in (
      c.requires.table,
      omega (arith, c.requires.two_words),
      rw (c.requires.terms, c.from.ensures)
          (post_allowed key id.slots seat.id seat.me c.requires.share c.args.value),
    )
