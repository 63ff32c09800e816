-- The walk that the code makes: into each set once, the least candidate first.
use Rattle.std.specs.Prelude.{ℕ, zero, suc, ◌-◌, Bool, ◌==◌, nat_lt, if◌then◌else◌, List, [], ◌∷◌, ◌++◌, length, Option, Some, None, Result, Ok, Err}
use Rattle.std.specs.List.{list_any}
use Rattle.irv_base.specs.Candidates.{candidates, all_but, is_in, set_of}
use Rattle.set_walk.specs.declared.walk.Stop.{Stop}
use Rattle.set_walk.specs.declared.walk.Stop.TheVariants.{Found, Spent, Memory}
use Rattle.set_walk.specs.declared.walk.WalkEnd.{WalkEnd}
use Rattle.set_walk.specs.declared.walk.WalkEnd.TheVariants.{Found as EndFound}
use Rattle.set_walk.specs.declared.walk.WalkFault.{WalkFault}
use Rattle.set_walk.specs.declared.walk.WalkFault.TheVariants.{Spent as SpentFault, Memory as MemoryFault}

-- the sets that were seen, or why the walk stops
abbrev pub Seen : Type 0
Seen = Result (List ℕ) Stop

abbrev pub on_seen : Seen → (List ℕ → Seen) → Seen
on_seen (Ok seen) rest = rest seen
on_seen (Err stop) rest = Err stop

abbrev pub over : (ℕ → List ℕ → Seen) → List ℕ → List ℕ → Seen
over f [] seen = Ok seen
over f (c ∷ cs) seen = on_seen (f c seen) (over f cs)

abbrev pub is_seen : List ℕ → ℕ → Bool
is_seen seen set = list_any (λ other. set == other) seen

-- the walk from a suffix that lacks k candidates
abbrev pub dive : ℕ → ℕ → (ℕ → ℕ → Bool) → ℕ → List ℕ → List ℕ → Seen
dive n sets goes zero suffix seen = Err (Found suffix)
dive n sets goes (suc k) suffix seen =
    if is_seen seen (set_of suffix) then Ok seen
    else
    (if nat_lt (length seen) sets
    then
    over
    (λ c s.
    if is_in suffix c then Ok s
    else (if goes (set_of suffix) c then dive n sets goes k (c ∷ suffix) s else Ok s))
    (candidates n) (seen ++ set_of suffix ∷ [])
    else Err Spent)

-- the walks from each last candidate other than the winner
abbrev pub dives : ℕ → ℕ → ℕ → (ℕ → ℕ → Bool) → Seen
dives n winner sets goes =
    over (λ c s. if goes 0 c then dive n sets goes (n - 1) (c ∷ []) s else Ok s) (all_but n winner) []

abbrev pub stopped : Stop → Result WalkEnd WalkFault
stopped (Found order) = Ok (EndFound order)
stopped Spent = Err SpentFault
stopped Memory = Err MemoryFault

-- the order that the walk reaches, if any
abbrev pub first_of : Stop → Result (Option (List ℕ)) WalkFault
first_of (Found order) = Ok (Some order)
first_of Spent = Err SpentFault
first_of Memory = Err MemoryFault

abbrev pub walked : Seen → Result (Option (List ℕ)) WalkFault
walked (Ok seen) = Ok None
walked (Err stop) = first_of stop
