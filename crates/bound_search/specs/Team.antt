-- What a worker has before and after its share: what the closure in its thread requires and ensures.
use Rattle.std.specs.Prelude.{◌≡◌, ◌⊎◌, ℕ, ◌<◌, ◌≤◌, List, [], ◌∷◌, Option, None, Some, All, Err, IfOk, length, map, slice_index_or}
use Rattle.std.specs.Option.{MatchOption}
use Rattle.set_tallies.specs.Bags.{Kept}
use Rattle.shared_witness.specs.declared.race.RaceSeat.{RaceSeat}
use Rattle.shared_witness.specs.Race.{Seated, SharedRace, new_seat, views_of}
use Rattle.suffix_tree.specs.Suffixes.{Suffix}
use Rattle.shared_witness.specs.View.{highest}
use Rattle.shared_witness.specs.Moment.{least_posted, taken_pieces}
use Rattle.bound_search.specs.Reached.{IsFoundIn, IsEntry, IsClosedAt, IsCostly, IsWorkerEnd}
use Rattle.bound_search.specs.Race.{IsPaced, AreReportsOf}
use Rattle.bound_search.specs.declared.ends.Best.{Best}
use Rattle.bound_search.specs.declared.ends.PieceEnd.{PieceEnd}
use Rattle.bound_search.specs.declared.join.Joined.{Joined}
use Rattle.bound_search.specs.declared.limits.TheConstants.{MOST_PIECES}
use Rattle.bound_search.specs.declared.team.Worker.{Worker}

-- a worker before its share
abbrev pub waiting : RaceSeat → Worker
waiting s = record { seat = s; end = Err record {} }

-- the worker's seat has done nothing yet
abbrev pub WorkerWaits : SharedRace → Worker → Type 0
WorkerWaits race w = w.seat ≡ new_seat race

-- the suffixes are of this contest, one for each piece of the race
pub record IsCut (bag : Kept) (tails : List Suffix) (race : SharedRace) : Type 0 where
  pub contest : All (λ tail. tail.n ≡ bag.n) tails
  pub one_each : race.terms.pieces ≡ length tails
  pub few : length tails ≤ MOST_PIECES

-- what the end of a worker says; an `Err` says nothing
abbrev pub HasEnd : Kept → ℕ → ℕ → List Suffix → ℕ → Worker → Type 0
HasEnd bag first nodes tails worker w =
    IfOk w.end (IsWorkerEnd bag first nodes worker tails w.seat.view)

-- the seat belongs to the race, whatever the end
pub record WorkerRan (bag : Kept) (nodes : ℕ) (tails : List Suffix) (race : SharedRace) (number : ℕ)
    (w : Worker) : Type 0 where
  pub of_race : w.seat.race ≡ race.id
  pub end : HasEnd bag race.terms.first nodes tails number w

-- the workers in the order of their numbers
abbrev pub TeamRan : Kept → ℕ → List Suffix → SharedRace → List Worker → Type 0
TeamRan bag nodes tails race team =
    (i : ℕ) (d : Worker) → i < length team →
    WorkerRan bag nodes tails race i (slice_index_or team i d)

-- ---- the combined results of all workers

abbrev pub HasFewEnds : Worker → Type 0
HasFewEnds w = IfOk w.end (λ e. length e.ends.items ≤ MOST_PIECES)

-- the entry of a closed piece: no seat has seen less than the bound
abbrev pub IsClosedUnder : Kept → List Seated → PieceEnd → Type 0
IsClosedUnder bag seats p =
    (bound : ℕ) → All (λ s. bound ≤ s.view.seen) seats → IsClosedAt bag bound p.tail.list p.expanded

-- the entry of a piece that some worker took
abbrev pub IsEntryOfOne : Kept → ℕ → ℕ → ℕ → List Suffix → PieceEnd → Type 0
IsEntryOfOne bag first nodes workers tails p =
    (p.worker < workers) × IsEntry bag first nodes p.worker tails p

abbrev pub first_of : Option ℕ → List ℕ → Option ℕ
first_of (Some number) others = Some number
first_of None [] = None
first_of None (number ∷ others) = Some number

-- the ends of all workers, joined
pub record IsJoined (bag : Kept) (nodes : ℕ) (tails : List Suffix) (race : SharedRace)
    (start : Best) (j : Joined) : Type 0 where
  pub of_race : All (λ s. s.race ≡ race.id) j.seats.items
  pub done : All (λ s. 1 ≤ s.view.ends) j.seats.items
  pub count : length j.reports.items ≡ length j.seats.items
  pub paced : All IsPaced j.reports.items
  pub least : start.margin ≤ highest →
      j.best.margin ≡ least_posted start.margin (views_of j.seats.items)
  pub best : (j.best ≡ start) ⊎ IsFoundIn bag tails j.best
  pub took : map (λ p. p.piece) j.ends.items ≡ taken_pieces (views_of j.seats.items)
  pub entries :
      All (IsEntryOfOne bag race.terms.first nodes (length j.reports.items) tails) j.ends.items
  pub reports : AreReportsOf j.ends.items j.reports.items
  pub spent :
      MatchOption j.spent (All (IsClosedUnder bag j.seats.items) j.ends.items)
      (IsCostly bag race.terms.first nodes tails)
