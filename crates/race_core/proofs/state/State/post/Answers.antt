use Rattle.std.proofs.Common.{◌≡◌, ◌<◌, ◌≤◌, map, take, None, Some, refl, arith}
use Rattle.race_core.specs.declared.event.Event.TheVariants.{Post}
use Rattle.irv_base.specs.Tabulation.{least}
use Rattle.race_core.specs.State.{ready_entry}
use Rattle.race_core.proofs.Shown.{ready_within}
use Rattle.race_core.proofs.Sound.{sound_entry}
use Rattle.race_core.proofs.Fields.{not_ready, too_low, posted}
use Rattle.race_core.proofs.state.State.post.Goals as goal

pub returns-in_default : goal.returns-in_default
returns-in_default c =
    let s = c.self.inside in
    let none : None ≡ ready_entry s.entries.items c.args.worker = rw c.deref.ensures.value at c.in_default.ensures in
    (rw (← c.self.view_is) (not_ready s.pieces.items (take s.closed s.closings.items) s.entries.items s.next s.bound (Post c.args.worker c.args.m) none), refl)

pub returns-then-m-self : goal.returns-then-m-self
returns-then-m-self c =
    let s = c.self.inside in
    let ready : Some c.in-Some.entry ≡ ready_entry s.entries.items c.args.worker = rw c.deref.ensures.value at c.in-Some.ensures in
    let low : c.args.m < least (map (λ q. q.value) s.pieces.items) = omega (arith, c.self.invariant.lowest_is) in (
      rw (← c.self.view_is) (too_low s.pieces.items (take s.closed s.closings.items) s.entries.items s.next s.bound c.args.worker c.args.m c.in-Some.entry
          ready low),
      refl,
    )

pub index_mut-requires : goal.index_mut-requires
index_mut-requires c =
    let s = c.self.inside in
    let ready : Some c.in-Some.entry ≡ ready_entry s.entries.items c.args.worker = rw c.deref.ensures.value at c.in-Some.ensures in
    let inside = ready_within s.entries.items c.args.worker c.in-Some.entry ready in
    omega (arith, inside)

pub invariant_of-self : goal.invariant_of-self
invariant_of-self c = let s = c.self.inside in sound_entry s.pieces.items s.closings.items s.entries.items s.next s.closed s.lowest c.self.invariant
    c.args.worker _

pub returns : goal.returns
returns c =
    let s = c.self.inside in
    let ready : Some c.in-Some.entry ≡ ready_entry s.entries.items c.args.worker = rw c.deref.ensures.value at c.in-Some.ensures in
    let high : least (map (λ q. q.value) s.pieces.items) ≤ c.args.m = omega (arith, c.self.invariant.lowest_is) in
    rw (← c.self.view_is, c.min-self-inside.ensures, c.min.ensures)
    (posted s.pieces.items (take s.closed s.closings.items) s.entries.items s.next s.bound c.args.worker c.args.m c.in-Some.entry ready high)
