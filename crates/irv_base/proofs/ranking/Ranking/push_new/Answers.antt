use Rattle.std.proofs.Common.{◌<◌, ◌∷◌, ◌++◌, [], set, take, ◌+◌, ap, arith, ◌∙◌}
use Rattle.irv_base.specs.declared.limits.TheConstants.{ROOM}
use Rattle.irv_base.proofs.Padded.{pushed}
use Rattle.irv_base.proofs.ranking.Ranking.push_new.Goals as goal

pub listed : goal.listed
listed c =
    let below : c.args.c < ROOM = omega (arith, c.c.invariant, c.c.view_is) in
    let p = pushed c.self.inside.len c.args.c c.self.inside.places c.args.self.now c.self.invariant c.self.view_is below c.requires in
    omega (arith, p.room, p.wide, c.from.ensures)

pub bounds-self-inside-from : goal.bounds-self-inside-from
bounds-self-inside-from c =
    let below : c.args.c < ROOM = omega (arith, c.c.invariant, c.c.view_is) in
    let p = pushed c.self.inside.len c.args.c c.self.inside.places c.args.self.now c.self.invariant c.self.view_is below c.requires in
    omega (arith, p.room, c.from.ensures)

pub invariant_of-self : goal.invariant_of-self
invariant_of-self c =
    let below : c.args.c < ROOM = omega (arith, c.c.invariant, c.c.view_is) in
    let p = pushed c.self.inside.len c.args.c c.self.inside.places c.args.self.now c.self.invariant c.self.view_is below c.requires in
    rw c.from.ensures p.ranking

pub returns : goal.returns
returns c =
    let below : c.args.c < ROOM = omega (arith, c.c.invariant, c.c.view_is) in
    let p = pushed c.self.inside.len c.args.c c.self.inside.places c.args.self.now c.self.invariant c.self.view_is below c.requires in
    ap (λ i. take (c.self.inside.len + 1) (set c.self.inside.places i c.args.c)) c.from.ensures ∙ p.more ∙ ap (λ s. s ++ c.args.c ∷ []) c.self.view_is
