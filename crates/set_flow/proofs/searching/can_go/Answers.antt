use Rattle.std.proofs.Common.{◌≡◌, ◌^◌, ◌<◌, ◌&&◌, nat_lt, true, sym, ap, subst, arith, lt-ltb, ◌∙◌}
use Rattle.std.proofs.lemmas.Bool.{and_left}
use Rattle.irv_base.specs.Candidates.{has}
use Rattle.set_flow.specs.Kept.{carried}
use Rattle.set_flow.specs.Rooms.{is_open}
use Rattle.set_flow.specs.Seen.{less}
use Rattle.set_flow.proofs.Turning.{goes-back, without-less}
use Rattle.set_flow.proofs.searching.can_go.Goals as goal

pub returns-then-over-eq0-clause-goes : goal.returns-then-over-eq0-clause-goes
returns-then-over-eq0-clause-goes g c = λ rooms by.
    let t : has c.args.set c.args.c ≡ true = sym c.has.ensures ∙ c.if-has.true in
    let b = c.without-before.result in
    let e : b ≡ less c.args.set c.args.c = without-less c.args.set c.args.c b t c.without-before.ensures in
    let z : carried c.args.flow.now.kept b c.args.c ≡ 0 = sym c.over.ensures ∙ c.if-over-eq0.true in
    sym (goes-back rooms (carried c.args.flow.now.kept) c.args.set c.args.c b t e
    ∙ and_left (nat_lt 0 (carried c.args.flow.now.kept b c.args.c)) (is_open (rooms b c.args.c)) (ap (nat_lt 0) z))

pub room-requires-clause-set : goal.room-requires-clause-set
room-requires-clause-set g c =
    let t : has c.args.set c.args.c ≡ true = sym c.has.ensures ∙ c.if-has.true in
    let b = c.without-before.result in
    let e : b ≡ less c.args.set c.args.c = without-less c.args.set c.args.c b t c.without-before.ensures in
    let small = c.requires.set in
    subst (λ k. b < 2 ^ k) c.requires.size (let l : b < 2 ^ c.args.n = omega (arith, e, small) in l)

pub returns-then-has-clause-goes : goal.returns-then-has-clause-goes
returns-then-has-clause-goes g c = λ rooms by.
    let t : has c.args.set c.args.c ≡ true = sym c.has.ensures ∙ c.if-has.true in
    let b = c.without-before.result in
    let e : b ≡ less c.args.set c.args.c = without-less c.args.set c.args.c b t c.without-before.ensures in
    let over = c.over.ensures in
    let not-0 = c.if-over-eq0.false in
    let some : 0 < carried c.args.flow.now.kept b c.args.c = omega (arith, over, not-0) in
    c.is_open.ensures ∙ ap is_open (c.in_ok-room.ensures.room rooms by)
    ∙ sym (goes-back rooms (carried c.args.flow.now.kept) c.args.set c.args.c b t e
    ∙ ap (λ q. q && is_open (rooms b c.args.c)) (lt-ltb 0 (carried c.args.flow.now.kept b c.args.c) some))
