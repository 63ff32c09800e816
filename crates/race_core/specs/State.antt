-- How the fields of a `State` represent a race.
use Rattle.std.specs.Prelude.{ℕ, ◌-◌, ◌^◌, ◌≡◌, ◌≤◌, ◌<◌, ◌==◌, Bool, true, false, suc, if◌then◌else◌, List, [], ◌∷◌, map, filter, take, length, count_by, slice_index, slice_index_or, slice_get, Option, Some, None, option_and_then}
use Rattle.std.specs.List.{range_with_len}
use Rattle.race_core.specs.declared.state.Piece.{Piece}
use Rattle.race_core.specs.declared.state.Entry.{Entry}
use Rattle.irv_base.specs.Tabulation.{least}
use Rattle.irv_base.specs.Candidates.{is_in}
use Rattle.race_core.specs.Race.{Worker, Race}

-- who took each piece, for the pieces that are taken
abbrev pub takers : List Piece → List ℕ
takers pieces = map (λ q. q.taker) pieces

abbrev pub is_taker : List ℕ → ℕ → ℕ → Bool
is_taker takers k p = slice_index takers p == k

abbrev pub is_marked : List Piece → ℕ → Bool
is_marked pieces p = slice_index_or (map (λ q. q.is_closed) pieces) p false

-- worker k, with its entry, if the pieces below `next` are taken and the pieces in `closings` are closed
abbrev pub shown_worker : List ℕ → List ℕ → ℕ → ℕ → Entry → Worker
shown_worker takers closings next k entry = record {
  taken = filter (is_taker takers k) (range_with_len 0 next);
  closed = filter (is_taker takers k) closings;
  seen = entry.seen;
  posted = entry.posted;
  looks = entry.looks;
  done = entry.done;
}

-- each entry with its number, starting at k
abbrev pub numbered : (ℕ → Entry → Worker) → ℕ → List Entry → List Worker
numbered f k [] = []
numbered f k (entry ∷ entries) = f k entry ∷ numbered f (suc k) entries

abbrev pub shown_race : List Piece → List ℕ → List Entry → ℕ → ℕ → Race
shown_race pieces closings entries next bound = record {
  values = map (λ q. q.value) pieces;
  next = next;
  bound = bound;
  workers = numbered (shown_worker (takers pieces) closings next) 0 entries;
}

-- the invariant of the fields: the first `closed` of `closings` are the pieces marked as closed
pub record IsSound (pieces : List Piece) (closings : List ℕ) (entries : List Entry)
    (next closed lowest : ℕ) : Type 0 where
  pub few : length pieces < 2 ^ 32
  pub some : 1 ≤ length pieces
  pub room : length closings ≡ length pieces
  pub next_within : next ≤ length pieces
  pub taken_by_some : (p : ℕ) → p < next → slice_index (takers pieces) p < length entries
  pub marked : (p : ℕ) → is_in (take closed closings) p ≡ is_marked pieces p
  pub marked_taken : (p : ℕ) → is_marked pieces p ≡ true → p < next
  pub counted : closed ≡ count_by (λ q. q.is_closed) pieces
  pub lowest_is : lowest ≡ least (map (λ q. q.value) pieces)

-- the entry of worker k, if it has looks left
abbrev pub ready_entry : List Entry → ℕ → Option Entry
ready_entry entries k =
    option_and_then (λ entry. if entry.looks == 2 ^ 64 - 1 then None else Some entry)
    (slice_get entries k)

-- a piece of this value that nobody took
abbrev pub open_piece : ℕ → Piece
open_piece value = record { value = value; taker = 0; is_closed = false }
