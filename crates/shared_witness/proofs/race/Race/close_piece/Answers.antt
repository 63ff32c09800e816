use Rattle.std.proofs.Common.{ap, ◌∙◌, arith}
use Rattle.shared_witness.proofs.Keeps.{share}
use Rattle.shared_witness.proofs.Told.{closed, closed_low}
use Rattle.shared_witness.proofs.race.Race.close_piece.Goals as goal

pub overflow_cast-result : goal.overflow_cast-result
overflow_cast-result c =
    let low = closed_low c.self.inside.words.shared.key c.seat.inside.seat.me.0 c.close_word.result c.close_word.new.seat.me.0 c.args.p
    c.close_word.ensures.step in
    omega (arith, low.0, c.self.invariant.fits.1)

pub invariant_of-seat : goal.invariant_of-seat
invariant_of-seat c =
    let view = closed c.self.inside.words.shared.key c.seat.inside.seat.me.0 c.close_word.result c.close_word.new.seat.me.0 c.args.p
    c.close_word.ensures.step in
    (ap share view ∙ c.seat.invariant.0, c.close_word.ensures.slots ∙ c.seat.invariant.1)

pub returns-clause-least : goal.returns-clause-least
returns-clause-least c = rw (← c.self.view_is, ← c.seat.view_is)
    (closed_low c.self.inside.words.shared.key c.seat.inside.seat.me.0 c.close_word.result c.close_word.new.seat.me.0 c.args.p c.close_word.ensures.step)

pub returns-clause-view : goal.returns-clause-view
returns-clause-view c = rw (← c.seat.view_is) (closed c.self.inside.words.shared.key c.seat.inside.seat.me.0 c.close_word.result c.close_word.new.seat.me.0
    c.args.p c.close_word.ensures.step)
