-- What clauses see of a race and its seats.
use Rattle.std.specs.Prelude.{ℕ, ◌≡◌, ◌↔◌, ◌≤◌, ◌<◌, min, map, List}
use Rattle.atomic_table.specs.Seated.{TableId}
use Rattle.shared_witness.specs.declared.view.View.{View}
use Rattle.shared_witness.specs.declared.view.Terms.{Terms}
use Rattle.shared_witness.specs.View.{new_view}
use Rattle.shared_witness.specs.Moment.{Moment, EachOnce, times, taken_pieces, after_take}
use Rattle.shared_witness.specs.Words.{AreTerms}
use Rattle.shared_witness.specs.Steps.{IsStep, Posts}

-- the identity of a race, and its terms
pub record SharedRace : Type 0 where
  pub id : TableId
  pub terms : Terms

-- the invariant of a race's fields: two words, no slot, and the number of pieces
pub record IsSharedRace (pieces : ℕ) (id : TableId) (t : Terms) : Type 0 where
  pub two_words : id.words ≡ 2
  pub no_slot : id.slots ≡ 0
  pub same_pieces : pieces ≡ t.pieces
  pub some_worker : 1 ≤ t.workers
  pub fits : AreTerms t

-- the race that the seat belongs to, and the seat's view
pub record Seated : Type 0 where
  pub race : TableId
  pub view : View

-- a seat of the race that has done nothing yet, and may end once
abbrev pub new_seat : SharedRace → Seated
new_seat race = record { race = race.id; view = new_view 1 }

-- At some moment, the seat took the piece, which no seat had taken before; or the result is the number of pieces, exactly if all
-- were taken, each once.
unfoldable pub TakesPiece : Terms → View → ℕ → View → Type 0
TakesPiece t old piece new =
    (m : Moment) × (k : ℕ) × (piece ≡ min m.ticket t.pieces)
    × (piece < t.pieces → times (taken_pieces m.views) piece ≡ 0)
    × ((piece ≡ t.pieces) ↔ EachOnce t.pieces (taken_pieces m.views))
    × IsStep t k old new m (after_take t m k old)

-- the bound that a post returns: the smaller of the bound found and the value
unfoldable pub PostsValue : Terms → View → ℕ → ℕ → View → Type 0
PostsValue t old value bound new =
    (found : ℕ) × (bound ≡ min found value) × Posts t old found new value

abbrev pub views_of : List Seated → List View
views_of seats = map (λ s. s.view) seats
