use Rattle.std.proofs.Common.{◌≡◌, ◌+◌, ◌==◌, ◌&&◌, not, true, false, nat_le, take, None, Some, refl, ap, arith}
use Rattle.std.proofs.lemmas.Bool.{eq-eqb, ne_eqb, lt-leb, le-leb, and_left, and_right, and_from}
use Rattle.std.proofs.lemmas.List.{take_more_set}
use Rattle.race_core.specs.declared.event.Event.TheVariants.{Close}
use Rattle.race_core.specs.State.{ready_entry}
use Rattle.race_core.proofs.Shown.{ready_within}
use Rattle.race_core.proofs.Sound.{sound_close, sound_entry, room_left, mark_at}
use Rattle.race_core.proofs.Fields.{not_ready, not_taken, not_closed, closed_piece}
use Rattle.race_core.proofs.state.State.close.Goals as goal
use Rattle.race_core.proofs.state.State.close.Goals.{then-p-worker-via-then-p-worker, then-p-worker-via-else-p-worker+then-p, then-p-worker-via-else-p-worker+else-p+then-p-self}

pub returns-in_default : goal.returns-in_default
returns-in_default c =
    let s = c.self.inside in
    let none : None ≡ ready_entry s.entries.items c.args.worker = rw c.deref.ensures.value at c.in_default.ensures in (
      rw (← c.self.view_is) (not_ready s.pieces.items (take s.closed s.closings.items) s.entries.items s.next s.bound (Close c.args.worker c.args.piece) none),
      refl,
    )

pub returns-then-piece-self : goal.returns-then-piece-self
returns-then-piece-self c =
    let s = c.self.inside in
    let ready : Some c.in-Some.entry ≡ ready_entry s.entries.items c.args.worker = rw c.deref.ensures.value at c.in-Some.ensures in (
      rw (← c.self.view_is) (not_taken s.pieces.items (take s.closed s.closings.items) s.entries.items s.next s.bound c.args.worker c.args.piece
          c.in-Some.entry ready c.if-piece-self.true),
      refl,
    )

pub returns-then-p-worker : goal.returns-then-p-worker
returns-then-p-worker c =
    let s = c.self.inside in
    let ready : Some c.in-Some.entry ≡ ready_entry s.entries.items c.args.worker = rw c.deref.ensures.value at c.in-Some.ensures in
    let q = c.index-p.result.now in
    let mark = mark_at s.pieces.items s.closings.items s.entries.items s.next s.closed s.lowest c.self.invariant c.args.piece q c.if-piece-self.false
    c.index-p.ensures in
    let fails : ((q.taker == c.args.worker) && not q.is_closed && nat_le s.bound q.value) ≡ false =
    elim c.then-p-worker.branch [
      | then-p-worker-via-then-p-worker w ↦ and_left _ _ (and_left _ _ (ne_eqb q.taker c.args.worker w.if-p-worker.true))
      | then-p-worker-via-else-p-worker+then-p w ↦ and_left _ _ (and_right (q.taker == c.args.worker) (not q.is_closed) (ap not w.if-p.true))
      | then-p-worker-via-else-p-worker+else-p+then-p-self w ↦ and_right _ _ (lt-leb s.bound q.value w.if-p-self.true)
    ] in (
      rw (← c.self.view_is) (not_closed s.pieces.items (take s.closed s.closings.items) s.entries.items s.next s.bound c.args.worker c.args.piece
          c.in-Some.entry q ready c.if-piece-self.false c.self.invariant.next_within c.index-p.ensures mark fails),
      refl,
    )

pub index_mut-requires-2 : goal.index_mut-requires-2
index_mut-requires-2 c =
    let s = c.self.inside in
    let room = room_left s.pieces.items s.closings.items s.entries.items s.next s.closed s.lowest c.self.invariant c.args.piece c.index-p.result.now
    c.if-piece-self.false c.index-p.ensures c.if-p.false in
    omega (arith, room)

pub overflow_add-self : goal.overflow_add-self
overflow_add-self c =
    let s = c.self.inside in
    let room = room_left s.pieces.items s.closings.items s.entries.items s.next s.closed s.lowest c.self.invariant c.args.piece c.index-p.result.now
    c.if-piece-self.false c.index-p.ensures c.if-p.false in
    omega (arith, room, c.self.invariant.room, c.self.invariant.few)

pub index_mut-requires-3 : goal.index_mut-requires-3
index_mut-requires-3 c =
    let s = c.self.inside in
    let ready : Some c.in-Some.entry ≡ ready_entry s.entries.items c.args.worker = rw c.deref.ensures.value at c.in-Some.ensures in
    let inside = ready_within s.entries.items c.args.worker c.in-Some.entry ready in
    omega (arith, inside)

pub invariant_of-self : goal.invariant_of-self
invariant_of-self c =
    let s = c.self.inside in
    let q = c.index-p.result.now in
    let sound = sound_close s.pieces.items s.closings.items s.entries.items s.next s.closed s.lowest c.self.invariant c.args.piece q c.if-piece-self.false
    c.index-p.ensures c.if-p.false in
    sound_entry _ _ s.entries.items s.next (s.closed + 1) s.lowest sound c.args.worker _

pub returns : goal.returns
returns c =
    let s = c.self.inside in
    let ready : Some c.in-Some.entry ≡ ready_entry s.entries.items c.args.worker = rw c.deref.ensures.value at c.in-Some.ensures in
    let q = c.index-p.result.now in
    let mark = mark_at s.pieces.items s.closings.items s.entries.items s.next s.closed s.lowest c.self.invariant c.args.piece q c.if-piece-self.false
    c.index-p.ensures in
    let room = room_left s.pieces.items s.closings.items s.entries.items s.next s.closed s.lowest c.self.invariant c.args.piece q c.if-piece-self.false
    c.index-p.ensures c.if-p.false in
    let passes : ((q.taker == c.args.worker) && not q.is_closed && nat_le s.bound q.value) ≡ true =
    and_from _ _ (and_from _ _ (eq-eqb q.taker c.args.worker c.if-p-worker.false) (ap not c.if-p.false)) (le-leb s.bound q.value c.if-p-self.false) in
    rw (← c.self.view_is, take_more_set s.closings.items s.closed c.args.piece room)
    (closed_piece s.pieces.items (take s.closed s.closings.items) s.entries.items s.next s.bound c.args.worker c.args.piece c.in-Some.entry q ready
    c.if-piece-self.false c.self.invariant.next_within c.index-p.ensures mark passes)
