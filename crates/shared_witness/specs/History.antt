-- Any number of steps by the workers' seats, in any order.
use Rattle.std.specs.Prelude.{◌+◌, ◌==◌, ◌&&◌, not, nat_lt, if◌then◌else◌, List, [], ◌∷◌, Option, Some, None, option_and_then, slice_get, replicate}
use Rattle.race_core.specs.declared.event.Event.{Event}
use Rattle.race_core.specs.declared.event.Event.TheVariants.{Take, Look, Post, Close}
use Rattle.irv_base.specs.Candidates.{is_in}
use Rattle.shared_witness.specs.declared.view.Terms.{Terms}
use Rattle.shared_witness.specs.View.{new_view}
use Rattle.shared_witness.specs.Moment.{Moment, after_take, after_look, after_post, after_close}

-- each worker has a new seat
abbrev pub seated : Terms → Moment
seated t = record { ticket = 0; bound = t.first; views = replicate t.workers (new_view 1) }

-- the moment after the step of the seat named by an event, or none if the seat may not make that step
abbrev pub after_event : Terms → Moment → Event → Option Moment
after_event t m (Take k) =
    option_and_then (λ v. if v.ends == 0 && nat_lt 0 v.may then Some (after_take t m k v) else None)
    (slice_get m.views k)
after_event t m (Look k) =
    option_and_then (λ v. if nat_lt 0 (v.ends + v.may) then Some (after_look m k v) else None)
    (slice_get m.views k)
after_event t m (Post k value) =
    option_and_then (λ v. if nat_lt 0 (v.ends + v.may) then Some (after_post m k v value) else None)
    (slice_get m.views k)
after_event t m (Close k piece) =
    option_and_then
    (λ v. if nat_lt 0 (v.ends + v.may) && is_in v.taken piece && not (is_in v.closed piece)
    then Some (after_close m k v piece) else None)
    (slice_get m.views k)

-- the moment after all the steps
abbrev pub after_events : Terms → Moment → List Event → Option Moment
after_events t m [] = Some m
after_events t m (e ∷ es) = option_and_then (λ n. after_events t n es) (after_event t m e)
