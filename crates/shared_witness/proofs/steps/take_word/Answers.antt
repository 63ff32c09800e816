use Rattle.std.proofs.Common.{arith}
use Rattle.shared_witness.proofs.Allowed.{take_allowed}
use Rattle.shared_witness.proofs.steps.take_word.Goals as goal

pub fetch_add-requires : goal.fetch_add-requires
fetch_add-requires g c =
    let key = c.args.words.now.shared.key in
    let id = c.args.words.now.shared.table_id in
    let seat = c.args.seat.now in
    (c.requires.table, omega (arith, c.requires.two_words), rw c.requires.terms (take_allowed key id.slots seat.id seat.me c.requires.may))
