use Rattle.race_core.proofs.Counted.{closed_counted}
use Rattle.race_core.proofs.state.State.closed.Goals as goal

pub returns : goal.returns
returns c =
    let s = c.self.inside in
    rw (← c.self.view_is) (closed_counted s.pieces.items s.closings.items s.entries.items s.next s.bound s.closed s.lowest c.self.invariant)
