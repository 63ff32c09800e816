use Rattle.std.proofs.Common.{◌<◌, ◌-◌, ap, set, drop, arith, ◌∙◌}
use Rattle.irv_base.specs.declared.limits.TheConstants.{ROOM}
use Rattle.irv_base.proofs.Suffixes.{put_before, room_before}
use Rattle.irv_base.proofs.suffix.Suffix.with.Goals as goal

pub overflow_sub-start : goal.overflow_sub-start
overflow_sub-start c =
    let below : c.args.c < ROOM = omega (arith, c.c.invariant, c.c.view_is) in
    room_before c.self.inside.start c.self.inside.set c.args.c c.self.inside.places c.args.self.now c.self.invariant c.self.view_is below c.requires.other

pub invariant_of-result : goal.invariant_of-result
invariant_of-result c =
    let below : c.args.c < ROOM = omega (arith, c.c.invariant, c.c.view_is) in
    let front = put_before c.self.inside.start c.self.inside.set c.args.c c.with.result c.self.inside.places c.args.self.now
    c.self.invariant c.self.view_is below c.requires.other c.with.ensures.number in
    rw c.from.ensures front.suffix

pub returns : goal.returns
returns c =
    let below : c.args.c < ROOM = omega (arith, c.c.invariant, c.c.view_is) in
    let front = put_before c.self.inside.start c.self.inside.set c.args.c c.with.result c.self.inside.places c.args.self.now
    c.self.invariant c.self.view_is below c.requires.other c.with.ensures.number in
    ap (λ i. drop (c.self.inside.start - 1) (set c.self.inside.places i c.args.c)) c.from.ensures ∙ front.list
