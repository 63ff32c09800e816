-- The laws of the race
use Rattle.std.specs.Prelude.{IsTrue, ◌≡◌, ◌↔◌, ℕ, ◌≤◌, Some, List, length}
use Rattle.race_core.specs.declared.event.Event.{Event}
use Rattle.irv_base.specs.Tabulation.{least}
use Rattle.race_core.specs.Race.{Race, start, run, all_closed, closed_count}

-- for every list of enabled events, once all pieces are closed, the bound is the smallest value
abbrev pub RaceLaw : Type 0
RaceLaw =
    (values : List ℕ) (first workers : ℕ) (events : List Event) (r : Race) →
    1 ≤ length values → least values ≤ first →
    run (start values first workers) events ≡ Some r → IsTrue (all_closed r) →
    r.bound ≡ least values

-- the number of closed pieces is the number of pieces exactly if each piece is closed
abbrev pub ClosedLaw : Type 0
ClosedLaw = (r : Race) → IsTrue (all_closed r) ↔ (closed_count r ≡ length r.values)
