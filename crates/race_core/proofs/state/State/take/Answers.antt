use Rattle.std.proofs.Common.{◌≡◌, take, None, Some, refl, arith}
use Rattle.race_core.specs.declared.event.Event.TheVariants.{Take}
use Rattle.race_core.specs.State.{ready_entry}
use Rattle.race_core.proofs.Fields.{not_ready, already_done, took_none, took}
use Rattle.race_core.proofs.Shown.{ready_within}
use Rattle.race_core.proofs.Sound.{sound_take, closed_below}
use Rattle.race_core.proofs.state.State.take.Goals as goal

pub returns-in_default : goal.returns-in_default
returns-in_default c =
    let s = c.self.inside in
    let none : None ≡ ready_entry s.entries.items c.args.worker = rw c.deref.ensures.value at c.in_default.ensures in
    (rw (← c.self.view_is) (not_ready s.pieces.items (take s.closed s.closings.items) s.entries.items s.next s.bound (Take c.args.worker) none), refl)

pub returns-then-entry : goal.returns-then-entry
returns-then-entry c =
    let s = c.self.inside in (
      rw (← c.self.view_is) (already_done s.pieces.items (take s.closed s.closings.items) s.entries.items s.next s.bound c.args.worker c.in-Some.entry
          (rw c.deref.ensures.value at c.in-Some.ensures) c.if-entry.true),
      refl,
    )

pub invariant_of-self : goal.invariant_of-self
invariant_of-self c =
    let s = c.self.inside in
    let ready : Some c.in-Some.entry ≡ ready_entry s.entries.items c.args.worker = rw c.deref.ensures.value at c.in-Some.ensures in
    let inside = ready_within s.entries.items c.args.worker c.in-Some.entry ready in
    sound_take s.pieces.items s.closings.items s.entries.items s.next s.closed s.lowest c.self.invariant c.args.worker c.index_mut.result.now inside
    (omega arith) c.index_mut.ensures.value

pub index_mut-requires-else-next-len : goal.index_mut-requires-else-next-len
index_mut-requires-else-next-len c =
    let s = c.self.inside in
    let ready : Some c.in-Some.entry ≡ ready_entry s.entries.items c.args.worker = rw c.deref.ensures.value at c.in-Some.ensures in
    let inside = ready_within s.entries.items c.args.worker c.in-Some.entry ready in
    omega (arith, inside)

pub returns-then-next-len : goal.returns-then-next-len
returns-then-next-len c =
    let s = c.self.inside in
    let ready : Some c.in-Some.entry ≡ ready_entry s.entries.items c.args.worker = rw c.deref.ensures.value at c.in-Some.ensures in
    let low = closed_below s.pieces.items s.closings.items s.entries.items s.next s.closed s.lowest c.self.invariant in
    rw (← c.self.view_is)
    (took s.pieces.items (take s.closed s.closings.items) s.entries.items s.next s.bound c.args.worker c.in-Some.entry c.index_mut.result.now ready
    c.if-entry.false (omega arith) c.index_mut.ensures.value low)

pub returns-else-next-len : goal.returns-else-next-len
returns-else-next-len c =
    let s = c.self.inside in
    let ready : Some c.in-Some.entry ≡ ready_entry s.entries.items c.args.worker = rw c.deref.ensures.value at c.in-Some.ensures in
    rw (← c.self.view_is) (took_none s.pieces.items (take s.closed s.closings.items) s.entries.items s.next s.bound c.args.worker c.in-Some.entry ready
    c.if-entry.false (omega arith))
