-- The race: workers take pieces, look at a shared bound, lower it with posts, and close pieces. Each event is one step of one
-- worker.
use Rattle.std.specs.Prelude.{ℕ, ◌+◌, ◌-◌, ◌^◌, min, Bool, true, false, not, ◌&&◌, ◌==◌, nat_le, nat_lt, if◌then◌else◌, List, [], ◌∷◌, ◌++◌, length, count_by, Option, Some, None, option_and_then, slice_index, slice_get, slice_set, replicate}
use Rattle.std.specs.Option.{option_map_or}
use Rattle.std.specs.List.{list_any, list_all, range_with_len}
use Rattle.irv_base.specs.Candidates.{is_in}
use Rattle.irv_base.specs.Tabulation.{least}
use Rattle.race_core.specs.declared.event.Event.{Event}
use Rattle.race_core.specs.declared.event.Event.TheVariants.{Take, Look, Post, Close}

-- what one worker took and closed, the smallest bound that it has seen, the smallest value that it posted, its number of looks, and
-- whether it is done
pub record Worker : Type 0 where
  pub taken : List ℕ
  pub closed : List ℕ
  pub seen : ℕ
  pub posted : ℕ
  pub looks : ℕ
  pub done : Bool

-- the value of each piece, the next piece to be taken, the bound, and the workers
pub record Race : Type 0 where
  pub values : List ℕ
  pub next : ℕ
  pub bound : ℕ
  pub workers : List Worker

-- ---- the start

abbrev pub new_worker : ℕ → Worker
new_worker first =
    record { taken = []; closed = []; seen = first; posted = first; looks = 0; done = false }

abbrev pub start : List ℕ → ℕ → ℕ → Race
start values first workers =
    record {
      values = values;
      next = 0;
      bound = first;
      workers = replicate workers (new_worker first);
    }

-- ---- the four events, for the worker w with number k: the race afterwards, or none if the event is not enabled

abbrev pub with_worker : Race → ℕ → Worker → Race
with_worker r k w =
    record { values = r.values; next = r.next; bound = r.bound; workers = slice_set r.workers k w }

-- the worker gets the next piece; if none is left, the worker is done
abbrev pub take_next : Race → ℕ → Worker → Option Race
take_next r k w =
    if w.done then None
    else if nat_lt r.next (length r.values) then Some record {
      values = r.values;
      next = r.next + 1;
      bound = r.bound;
      workers = slice_set r.workers k record w { taken = w.taken ++ r.next ∷ [] };
    }
    else Some (with_worker r k record w { done = true })

-- the worker sees the bound
abbrev pub look : Race → ℕ → Worker → Option Race
look r k w = Some (with_worker r k record w { seen = r.bound; looks = w.looks + 1 })

-- a value that is at least the smallest value lowers the bound, and the worker sees that bound
abbrev pub post : Race → ℕ → ℕ → Worker → Option Race
post r k m w =
    if nat_le (least r.values) m then Some record {
      values = r.values;
      next = r.next;
      bound = min r.bound m;
      workers = slice_set r.workers k record w { seen = min r.bound m; posted = min w.posted m };
    }
    else None

-- a piece that the worker took is closed once, and only while its value is at least the bound, which the worker sees
abbrev pub close : Race → ℕ → ℕ → Worker → Option Race
close r k p w =
    if is_in w.taken p && not (is_in w.closed p) && nat_le r.bound (slice_index r.values p)
    then Some (with_worker r k
    record w { closed = w.closed ++ p ∷ []; seen = r.bound; looks = w.looks + 1 })
    else None

-- ---- sequences of events

-- the race after the event, or none if it is not enabled
abbrev pub after : Race → Event → Option Race
after r (Take k) = option_and_then (take_next r k) (slice_get r.workers k)
after r (Look k) = option_and_then (look r k) (slice_get r.workers k)
after r (Post k m) = option_and_then (post r k m) (slice_get r.workers k)
after r (Close k p) = option_and_then (close r k p) (slice_get r.workers k)

-- the race after all the events, or none if one of them is not enabled
abbrev pub run : Race → List Event → Option Race
run r [] = Some r
run r (e ∷ es) = option_and_then (λ s. run s es) (after r e)

-- ---- what is closed

-- some worker closed the piece
abbrev pub is_closed : Race → ℕ → Bool
is_closed r p = list_any (λ w. is_in w.closed p) r.workers

abbrev pub all_closed : Race → Bool
all_closed r = list_all (is_closed r) (range_with_len 0 (length r.values))

abbrev pub closed_count : Race → ℕ
closed_count r = count_by (is_closed r) (range_with_len 0 (length r.values))

-- ---- a machine that counts looks in 64 bits

abbrev pub worker_of : Event → ℕ
worker_of (Take k) = k
worker_of (Look k) = k
worker_of (Post k m) = k
worker_of (Close k p) = k

-- the worker's count of looks is at the greatest u64
abbrev pub is_out_of_looks : Race → ℕ → Bool
is_out_of_looks r k = option_map_or (λ w. w.looks == 2 ^ 64 - 1) (slice_get r.workers k) false

-- the race after the event, or none if it is not enabled or its worker is out of looks
abbrev pub step : Race → Event → Option Race
step r e = if is_out_of_looks r (worker_of e) then None else after r e

-- the number of events taken before the first that is not
abbrev pub taken_count : Race → List Event → ℕ
taken_count r [] = 0
taken_count r (e ∷ es) = option_map_or (λ s. 1 + taken_count s es) (step r e) 0
