-- What an answer to an event says.
use Rattle.std.specs.Prelude.{◌≡◌, Bool, Some, None, MatchBool}
use Rattle.race_core.specs.declared.event.Event.{Event}
use Rattle.race_core.specs.Race.{Race, step}

-- true if the event was taken, and false if the machine has no step and the race is unchanged
abbrev pub Steps : Race → Event → Bool → Race → Type 0
Steps old event answer new =
    MatchBool answer (step old event ≡ Some new) ((step old event ≡ None) × (new ≡ old))
