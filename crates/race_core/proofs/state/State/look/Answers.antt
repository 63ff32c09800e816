use Rattle.std.proofs.Common.{◌≡◌, take, None, refl}
use Rattle.race_core.specs.declared.event.Event.TheVariants.{Look}
use Rattle.race_core.specs.State.{ready_entry}
use Rattle.race_core.proofs.Fields.{not_ready, looked}
use Rattle.race_core.proofs.state.State.look.Goals as goal

pub returns-in_default : goal.returns-in_default
returns-in_default c =
    let s = c.self.inside in
    let none : None ≡ ready_entry s.entries.items c.args.worker = rw c.deref.ensures.value at c.in_default.ensures in
    (rw (← c.self.view_is) (not_ready s.pieces.items (take s.closed s.closings.items) s.entries.items s.next s.bound (Look c.args.worker) none), refl)

pub returns : goal.returns
returns c =
    let s = c.self.inside in
    rw (← c.self.view_is) (looked s.pieces.items (take s.closed s.closings.items) s.entries.items s.next s.bound c.args.worker c.in-Some.entry
    (rw c.deref.ensures.value at c.in-Some.ensures))
