-- The laws of a race that threads share: each step keeps the rule, and is the event of the race with the same name.
use Rattle.std.specs.Prelude.{ℕ, ◌+◌, ◌≡◌, ◌≢◌, ◌≤◌, ◌<◌, ◌↔◌, ◌⊎◌, min, not, IsTrue, List, slice_get, slice_index, length, IfSome, Some}
use Rattle.race_core.specs.declared.event.Event.{Event}
use Rattle.race_core.specs.declared.event.Event.TheVariants.{Take, Look, Post, Close}
use Rattle.irv_base.specs.Candidates.{is_in}
use Rattle.irv_base.specs.Tabulation.{least}
use Rattle.race_core.specs.Race.{start, after, run}
use Rattle.shared_witness.specs.declared.view.View.{View}
use Rattle.shared_witness.specs.declared.view.Terms.{Terms}
use Rattle.shared_witness.specs.Moment.{Moment, RaceRule, EachOnce, times, taken_pieces, closed_pieces, all_looks, least_posted, opening, after_take, after_look, after_post, after_close, after_split, after_join}
use Rattle.shared_witness.specs.Words.{AreTerms}
use Rattle.shared_witness.specs.Shown.{shown_race}
use Rattle.shared_witness.specs.History.{seated, after_events}

-- ---- the rule holds at the opening, and each kind of step keeps it

abbrev pub OpeningKeeps : Type 0
OpeningKeeps = (t : Terms) → AreTerms t → 1 ≤ t.workers → RaceRule t (opening t)

abbrev pub TakeKeeps : Type 0
TakeKeeps =
    (t : Terms) (m : Moment) (k : ℕ) (v : View) → RaceRule t m → slice_get m.views k ≡ Some v →
    1 ≤ v.may → RaceRule t (after_take t m k v)

abbrev pub LookKeeps : Type 0
LookKeeps =
    (t : Terms) (m : Moment) (k : ℕ) (v : View) → RaceRule t m → slice_get m.views k ≡ Some v →
    v.ends + v.may ≢ 0 → RaceRule t (after_look m k v)

abbrev pub PostKeeps : Type 0
PostKeeps =
    (t : Terms) (m : Moment) (k : ℕ) (v : View) (value : ℕ) → RaceRule t m →
    slice_get m.views k ≡ Some v → v.ends + v.may ≢ 0 → RaceRule t (after_post m k v value)

abbrev pub CloseKeeps : Type 0
CloseKeeps =
    (t : Terms) (m : Moment) (k : ℕ) (v : View) (piece : ℕ) → RaceRule t m →
    slice_get m.views k ≡ Some v → v.ends + v.may ≢ 0 →
    IsTrue (is_in v.taken piece) → IsTrue (not (is_in v.closed piece)) →
    RaceRule t (after_close m k v piece)

abbrev pub SplitKeeps : Type 0
SplitKeeps =
    (t : Terms) (m : Moment) (k : ℕ) (v : View) → AreTerms t → RaceRule t m →
    slice_get m.views k ≡ Some v → 2 ≤ v.may → RaceRule t (after_split m k v)

abbrev pub JoinKeeps : Type 0
JoinKeeps =
    (t : Terms) (m : Moment) (k : ℕ) (v : View) (i : ℕ) (w : View) → AreTerms t → RaceRule t m →
    slice_get m.views k ≡ Some v → slice_get m.views i ≡ Some w → i ≢ k → v.ends + v.may ≢ 0 →
    RaceRule t (after_join m k v i w)

-- ---- what the rule says about a seat and about the words

-- the ticket never wraps
abbrev pub TicketIsSmall : Type 0
TicketIsSmall = (t : Terms) (m : Moment) → RaceRule t m → m.ticket ≤ t.pieces + t.workers

-- a take gives a piece that no seat took before, and none is left exactly if all were taken
abbrev pub TakeIsFresh : Type 0
TakeIsFresh =
    (t : Terms) (m : Moment) → RaceRule t m →
    (m.ticket < t.pieces → times (taken_pieces m.views) m.ticket ≡ 0)
    × ((t.pieces ≤ m.ticket) ↔ EachOnce t.pieces (taken_pieces m.views))

-- a seat that has the ends of all workers has all pieces and posts
abbrev pub AllJoined : Type 0
AllJoined =
    (t : Terms) (m : Moment) (k : ℕ) (v : View) → AreTerms t → RaceRule t m →
    slice_get m.views k ≡ Some v → v.ends + v.may ≡ t.workers →
    (m.bound ≡ min t.first v.posted) × EachOnce (min m.ticket t.pieces) v.taken

-- if the pieces that the seats took are all the pieces, each once, some seat took each piece
abbrev pub EachHasTaker : Type 0
EachHasTaker =
    (n : ℕ) (views : List View) → EachOnce n (taken_pieces views) → (p : ℕ) → p < n →
    (k : ℕ) × (v : View) × (slice_get views k ≡ Some v) × IsTrue (is_in v.taken p)

-- the smallest of the first bound and all posts is the first bound, or the smallest post of some seat
abbrev pub LeastHasPoster : Type 0
LeastHasPoster =
    (first : ℕ) (views : List View) →
    (least_posted first views ≡ first)
    ⊎ ((k : ℕ) × (v : View) × (slice_get views k ≡ Some v) × (least_posted first views ≡ v.posted))

-- joining loses no look and no closed piece
abbrev pub JoiningLosesNothing : Type 0
JoiningLosesNothing =
    (m : Moment) (k : ℕ) (v : View) (i : ℕ) (w : View) → slice_get m.views k ≡ Some v →
    slice_get m.views i ≡ Some w → i ≢ k →
    (all_looks (after_join m k v i w).views ≡ all_looks m.views)
    × ((p : ℕ) →
    times (closed_pieces (after_join m k v i w).views) p ≡ times (closed_pieces m.views) p)

-- ---- the words and the views show a race, and each step is an event of it

-- if each worker has a new seat, the race is at its start
abbrev pub StartIsShown : Type 0
StartIsShown =
    (t : Terms) (values : List ℕ) → AreTerms t →
    shown_race values t (seated t) ≡ start values t.first t.workers

-- Whatever steps the workers' seats make, in whatever order, the rule holds afterwards. With any values for which the same events
-- of the race are enabled, the words and the views show the race after these events.
abbrev pub HistoryIsShown : Type 0
HistoryIsShown =
    (t : Terms) (values : List ℕ) (events : List Event) (m : Moment) → AreTerms t →
    length values ≡ t.pieces → after_events t (seated t) events ≡ Some m →
    RaceRule t m
    × IfSome (run (start values t.first t.workers) events) (λ r. r ≡ shown_race values t m)

-- a take by a seat that is not done
abbrev pub TakeIsEvent : Type 0
TakeIsEvent =
    (t : Terms) (m : Moment) (k : ℕ) (v : View) (values : List ℕ) → RaceRule t m →
    length values ≡ t.pieces → slice_get m.views k ≡ Some v → v.ends ≡ 0 →
    after (shown_race values t m) (Take k) ≡ Some (shown_race values t (after_take t m k v))

abbrev pub LookIsEvent : Type 0
LookIsEvent =
    (t : Terms) (m : Moment) (k : ℕ) (v : View) (values : List ℕ) → RaceRule t m →
    slice_get m.views k ≡ Some v →
    after (shown_race values t m) (Look k) ≡ Some (shown_race values t (after_look m k v))

-- a post of a value that is at least the smallest value of a piece
abbrev pub PostIsEvent : Type 0
PostIsEvent =
    (t : Terms) (m : Moment) (k : ℕ) (v : View) (value : ℕ) (values : List ℕ) → RaceRule t m →
    slice_get m.views k ≡ Some v → least values ≤ value →
    after (shown_race values t m) (Post k value)
    ≡ Some (shown_race values t (after_post m k v value))

-- a closing look at a piece that the seat took and has not closed, whose value is at least the bound
abbrev pub CloseIsEvent : Type 0
CloseIsEvent =
    (t : Terms) (m : Moment) (k : ℕ) (v : View) (piece : ℕ) (values : List ℕ) → RaceRule t m →
    slice_get m.views k ≡ Some v →
    IsTrue (is_in v.taken piece) → IsTrue (not (is_in v.closed piece)) →
    m.bound ≤ slice_index values piece →
    after (shown_race values t m) (Close k piece)
    ≡ Some (shown_race values t (after_close m k v piece))
