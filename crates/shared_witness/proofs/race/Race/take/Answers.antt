use Rattle.std.proofs.Common.{◌≡◌, ◌≤◌, min, sym, ap, ◌∙◌, arith}
use Rattle.shared_witness.specs.View.{view_after_take}
use Rattle.shared_witness.specs.Race.{Seated}
use Rattle.shared_witness.proofs.Keeps.{share}
use Rattle.shared_witness.proofs.Fresh.{takes_piece, fresh_piece, open_piece, few_here}
use Rattle.shared_witness.proofs.Told.{took, take_by_piece, take_share}
use Rattle.shared_witness.proofs.race.Race.take.Goals as goal

pub invariant_of-seat : goal.invariant_of-seat
invariant_of-seat c =
    let key = c.self.inside.words.shared.key in
    let old = c.seat.inside.seat.me.0 in
    let found = c.take_word.result in
    let view = took key old found c.take_word.new.seat.me.0 c.take_word.ensures.step in
    let going : old.ends ≡ 0 = ap (λ (s : Seated). s.view.ends) c.seat.view_is ∙ c.requires.going in
    let may : 1 ≤ old.may = omega (arith, going, c.seat.invariant.0) in
    (ap share view ∙ take_share key.pieces found old may ∙ c.seat.invariant.0, c.take_word.ensures.slots ∙ c.seat.invariant.1)

pub returns-clause-view : goal.returns-clause-view
returns-clause-view c =
    let key = c.self.inside.words.shared.key in
    let old = c.seat.inside.seat.me.0 in
    let found = c.take_word.result in
    let view = took key old found c.take_word.new.seat.me.0 c.take_word.ensures.step in
    let piece : c.min.result ≡ min found key.pieces = c.min.ensures ∙ ap (min found) (c.from.ensures ∙ c.self.invariant.same_pieces) in
    rw (← c.self.view_is, ← c.seat.view_is) (view ∙ sym (take_by_piece key.pieces found old) ∙ ap (λ n. view_after_take key.pieces n old) (sym piece))

pub returns-clause-step : goal.returns-clause-step
returns-clause-step c =
    let key = c.self.inside.words.shared.key in
    let old = c.seat.inside.seat.me.0 in
    let found = c.take_word.result in
    let piece : c.min.result ≡ min found key.pieces = c.min.ensures ∙ ap (min found) (c.from.ensures ∙ c.self.invariant.same_pieces) in
    rw (← c.self.view_is, ← c.seat.view_is) (takes_piece key old found c.take_word.new.seat.me.0 c.min.result piece c.take_word.ensures.step)

pub returns-clause-fresh : goal.returns-clause-fresh
returns-clause-fresh c =
    let key = c.self.inside.words.shared.key in
    let old = c.seat.inside.seat.me.0 in
    let found = c.take_word.result in
    let new = c.take_word.new.seat.me.0 in
    let piece : c.min.result ≡ min found key.pieces = c.min.ensures ∙ ap (min found) (c.from.ensures ∙ c.self.invariant.same_pieces) in
    rw (← c.self.view_is, ← c.seat.view_is) (fresh_piece key old c.min.result new (takes_piece key old found new c.min.result piece c.take_word.ensures.step))

pub returns-clause-open_piece : goal.returns-clause-open_piece
returns-clause-open_piece c =
    let key = c.self.inside.words.shared.key in
    let old = c.seat.inside.seat.me.0 in
    let found = c.take_word.result in
    let new = c.take_word.new.seat.me.0 in
    let piece : c.min.result ≡ min found key.pieces = c.min.ensures ∙ ap (min found) (c.from.ensures ∙ c.self.invariant.same_pieces) in
    let view = took key old found new c.take_word.ensures.step ∙ sym (take_by_piece key.pieces found old)
    ∙ ap (λ n. view_after_take key.pieces n old) (sym piece) in
    rw (← c.self.view_is) (open_piece key old c.min.result new (takes_piece key old found new c.min.result piece c.take_word.ensures.step) view)

pub returns-clause-few : goal.returns-clause-few
returns-clause-few c =
    let key = c.self.inside.words.shared.key in
    let old = c.seat.inside.seat.me.0 in
    let found = c.take_word.result in
    let new = c.take_word.new.seat.me.0 in
    let piece : c.min.result ≡ min found key.pieces = c.min.ensures ∙ ap (min found) (c.from.ensures ∙ c.self.invariant.same_pieces) in
    rw (← c.self.view_is) (few_here key old c.min.result new (takes_piece key old found new c.min.result piece c.take_word.ensures.step))
