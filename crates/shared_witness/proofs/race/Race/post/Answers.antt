use Rattle.std.proofs.Common.{◌≡◌, min, sym, ap, ◌∙◌, arith}
use Rattle.shared_witness.specs.View.{view_after_post}
use Rattle.shared_witness.specs.Race.{PostsValue}
use Rattle.shared_witness.proofs.Keeps.{share}
use Rattle.shared_witness.proofs.Told.{posted, posted_low, post_by_bound}
use Rattle.shared_witness.proofs.race.Race.post.Goals as goal

pub invariant_of-seat : goal.invariant_of-seat
invariant_of-seat c =
    let view = posted c.self.inside.words.shared.key c.seat.inside.seat.me.0 c.post_word.result c.post_word.new.seat.me.0 c.args.m c.post_word.ensures.step in
    (ap share view ∙ c.seat.invariant.0, c.post_word.ensures.slots ∙ c.seat.invariant.1)

pub returns-clause-least : goal.returns-clause-least
returns-clause-least c =
    let low = posted_low c.self.inside.words.shared.key c.seat.inside.seat.me.0 c.post_word.result c.post_word.new.seat.me.0 c.args.m
    c.post_word.ensures.step in
    rw (← c.self.view_is, ← c.seat.view_is) (
      omega (arith, c.min.ensures, c.from.ensures),
      omega (arith, low.0, c.min.ensures),
      omega (arith, low.1, c.min.ensures),
    )

pub returns-clause-view : goal.returns-clause-view
returns-clause-view c =
    let old = c.seat.inside.seat.me.0 in
    let found = c.post_word.result in
    let view = posted c.self.inside.words.shared.key old found c.post_word.new.seat.me.0 c.args.m c.post_word.ensures.step in
    let bound : c.min.result ≡ min found c.args.m = c.min.ensures ∙ ap (min found) c.from.ensures in
    rw (← c.seat.view_is) (view ∙ sym (post_by_bound found c.args.m old) ∙ ap (λ n. view_after_post n c.args.m old) (sym bound))

pub returns-clause-step : goal.returns-clause-step
unfolding PostsValue
returns-clause-step c =
    let found = c.post_word.result in
    let bound : c.min.result ≡ min found c.args.m = c.min.ensures ∙ ap (min found) c.from.ensures in
    rw (← c.self.view_is, ← c.seat.view_is) (found, bound, c.post_word.ensures.step)
