use Rattle.std.proofs.Common.{ap, ◌∙◌, arith}
use Rattle.shared_witness.proofs.Keeps.{share}
use Rattle.shared_witness.proofs.Told.{looked, looked_low}
use Rattle.shared_witness.proofs.race.Race.look.Goals as goal

pub overflow_cast-result : goal.overflow_cast-result
overflow_cast-result c =
    let low = looked_low c.self.inside.words.shared.key c.seat.inside.seat.me.0 c.look_word.result c.look_word.new.seat.me.0 c.look_word.ensures.step in
    omega (arith, low.0, c.self.invariant.fits.1)

pub invariant_of-seat : goal.invariant_of-seat
invariant_of-seat c =
    let view = looked c.self.inside.words.shared.key c.seat.inside.seat.me.0 c.look_word.result c.look_word.new.seat.me.0 c.look_word.ensures.step in
    (ap share view ∙ c.seat.invariant.0, c.look_word.ensures.slots ∙ c.seat.invariant.1)

pub returns-clause-least : goal.returns-clause-least
returns-clause-least c = rw (← c.self.view_is, ← c.seat.view_is)
    (looked_low c.self.inside.words.shared.key c.seat.inside.seat.me.0 c.look_word.result c.look_word.new.seat.me.0 c.look_word.ensures.step)

pub returns-clause-view : goal.returns-clause-view
returns-clause-view c = rw (← c.seat.view_is) (looked c.self.inside.words.shared.key c.seat.inside.seat.me.0 c.look_word.result c.look_word.new.seat.me.0
    c.look_word.ensures.step)
