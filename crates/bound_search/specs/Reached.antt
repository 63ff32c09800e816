-- What a worker found in a piece and in its share of a race, in terms of its seat's views before and after.
use Rattle.std.specs.Prelude.{◌≡◌, ◌⊎◌, ℕ, ◌+◌, ◌*◌, ◌<◌, ◌≤◌, if◌then◌else◌, Bool, true, false, not, List, [], ◌∷◌, ◌++◌, length, map, sum_by, All, Contains, Option, Some, slice_get, IsTrue}
use Rattle.std.specs.Option.{MatchOption}
use Rattle.irv_base.specs.Candidates.{is_in}
use Rattle.irv_base.specs.Orders.{is_order, EndsIn}
use Rattle.assertions.specs.Suffixes.{IsAlternative}
use Rattle.assertions.specs.Hardness.{low, first_bound}
use Rattle.set_tallies.specs.Bags.{Kept, IsOf}
use Rattle.shared_witness.specs.declared.view.View.{View}
use Rattle.shared_witness.specs.Race.{Seated, SharedRace}
use Rattle.shared_witness.specs.View.{highest}
use Rattle.shared_witness.specs.Moment.{times}
use Rattle.suffix_tree.specs.Suffixes.{Suffix}
use Rattle.bound_search.specs.Fronts.{IsFound}
use Rattle.bound_search.specs.Race.{parts_below, work}
use Rattle.bound_search.specs.declared.ends.Best.{Best}
use Rattle.bound_search.specs.declared.ends.PieceEnd.{PieceEnd}
use Rattle.bound_search.specs.declared.ends.WorkerEnd.{WorkerEnd}
use Rattle.bound_search.specs.declared.piece.Searched.{Searched}
use Rattle.bound_search.specs.declared.limits.TheConstants.{MOST_EXPANDED}

-- an alternative order, with its hardness
pub record IsReached (bag : Kept) (winner : ℕ) (e : Best) : Type 0 where
  pub alternative : IsAlternative bag.n winner e.order
  pub hardness : (records : List (List ℕ)) → IsOf bag records → low bag.n records e.order ≡ e.margin

-- each order of the piece is at least as hard as the margin
abbrev pub IsLeastOf : Kept → List ℕ → ℕ → Type 0
IsLeastOf bag piece margin =
    (records : List (List ℕ)) → IsOf bag records → (order : List ℕ) →
    IsTrue (is_order bag.n order) → EndsIn order piece → margin ≤ low bag.n records order

-- ---- a piece

-- a piece was searched to the end: none of its orders is below the smallest bound seen, and all suffixes that are below it were
-- expanded
pub record IsClosedAt (bag : Kept) (seen : ℕ) (piece : List ℕ) (expanded : ℕ) : Type 0 where
  pub above : IsLeastOf bag piece seen
  pub least : (records : List (List ℕ)) → IsOf bag records →
      parts_below bag.n records seen piece ≤ expanded

-- the budget is smaller than the work of the piece
abbrev pub IsOverBudget : Kept → ℕ → ℕ → List ℕ → Type 0
IsOverBudget bag first nodes piece =
    (records : List (List ℕ)) → IsOf bag records → nodes < work bag.n records first piece

-- the number of expanded suffixes is at most the work of the piece
abbrev pub IsInWork : Kept → ℕ → List ℕ → ℕ → Type 0
IsInWork bag first piece expanded =
    (records : List (List ℕ)) → IsOf bag records → expanded ≤ work bag.n records first piece

-- the smallest post is what was posted before, or the hardness of the last order found
abbrev pub IsNewest : Kept → List ℕ → ℕ → ℕ → Option Best → Type 0
IsNewest bag piece before posted found =
    MatchOption found (posted ≡ before)
    (λ b. IsFound bag piece b.order b.margin × (b.margin ≡ posted) × (posted < before))

-- a seat of the race has taken the piece and hasn't closed it; it posted nothing below what it has seen
pub record HoldsPiece (race : SharedRace) (seat : Seated) (piece : ℕ) : Type 0 where
  pub of_race : seat.race ≡ race.id
  pub taken : IsTrue (is_in seat.view.taken piece)
  pub still_open : IsTrue (not (is_in seat.view.closed piece))
  pub seen : seat.view.seen ≤ seat.view.posted
  pub posted : seat.view.posted ≤ highest

-- a piece was searched, or skipped, between the first view and the second
pub record IsPieceSearched (bag : Kept) (first nodes number : ℕ) (piece : List ℕ) (skipped : Bool)
    (old new : View) (s : Searched) : Type 0 where
  pub taken : new.taken ≡ old.taken
  pub ends : new.ends ≡ old.ends
  pub closed : new.closed ≡ (if s.closed then old.closed ++ number ∷ [] else old.closed)
  pub looks : new.looks ≡ old.looks + s.looks
  pub falls : new.seen ≤ old.seen
  pub between : new.seen ≤ new.posted
  pub found : IsNewest bag piece old.posted new.posted s.found
  pub within : s.expanded ≤ nodes
  pub paced : s.expanded ≤ MOST_EXPANDED * s.looks
  pub few_looks : s.looks + new.seen ≤ old.seen + nodes + 2
  pub most : IsInWork bag first piece s.expanded
  pub searched : IsTrue s.closed → IsClosedAt bag new.seen piece s.expanded
  pub over : s.closed ≡ false → skipped ≡ false → IsOverBudget bag first nodes piece

-- ---- the share of a worker

-- an order of one of the pieces, with its hardness
pub record IsFoundIn (bag : Kept) (tails : List Suffix) (e : Best) : Type 0 where
  pub tail : Suffix
  pub one : Contains tails tail
  pub found : IsFound bag tail.list e.order e.margin

-- no order was found exactly if nothing was posted; otherwise, the order of the smallest post was found
abbrev pub IsBestFound : Kept → List Suffix → ℕ → Option Best → Type 0
IsBestFound bag tails posted best =
    MatchOption best (posted ≡ highest)
    (λ b. IsFoundIn bag tails b × (b.margin ≡ posted) × (posted < highest))

-- the entry of a piece that the worker took
pub record IsEntry (bag : Kept) (first nodes worker : ℕ) (tails : List Suffix) (p : PieceEnd)
    : Type 0 where
  pub tail : slice_get tails p.piece ≡ Some p.tail
  pub worker_is : p.worker ≡ worker
  pub within : p.expanded ≤ nodes
  pub most : IsInWork bag first p.tail.list p.expanded

-- the piece with this number has more work than the budget
abbrev pub IsCostly : Kept → ℕ → ℕ → List Suffix → ℕ → Type 0
IsCostly bag first nodes tails number =
    (tail : Suffix) × (slice_get tails number ≡ Some tail) × IsOverBudget bag first nodes tail.list

-- the pieces that a worker left open
abbrev pub left_open : WorkerEnd → List ℕ
left_open e = e.spent.items ++ e.skipped.items

-- a piece that is left open is out of budget if none was before, and skipped otherwise
abbrev pub spent_with : Bool → List ℕ → ℕ → List ℕ
spent_with true spent piece = spent
spent_with false [] piece = piece ∷ []
spent_with false (first ∷ rest) piece = first ∷ rest

abbrev pub skipped_with : Bool → List ℕ → List ℕ → ℕ → List ℕ
skipped_with true spent skipped piece = skipped
skipped_with false [] skipped piece = skipped
skipped_with false (first ∷ rest) skipped piece = skipped ++ piece ∷ []

-- all pieces that the worker took after the one out of budget were skipped: none of their suffixes was expanded
pub record IsCutOff (ends : List PieceEnd) (piece : ℕ) (skipped : List ℕ) : Type 0 where
  pub before : List PieceEnd
  pub spent : PieceEnd
  pub after : List PieceEnd
  pub all : ends ≡ before ++ spent ∷ after
  pub spent_is : spent.piece ≡ piece
  pub skipped_are : skipped ≡ map (λ p. p.piece) after
  pub unexpanded : All (λ p. p.expanded ≡ 0) after

-- no piece was out of budget and none was skipped, or one was out of budget
abbrev pub AreLeftOpen : List PieceEnd → List ℕ → List ℕ → Type 0
AreLeftOpen ends [] skipped = skipped ≡ []
AreLeftOpen ends (piece ∷ []) skipped = IsCutOff ends piece skipped
AreLeftOpen ends (piece ∷ other ∷ rest) skipped = ⊥

-- the piece is closed, or was left open
abbrev pub IsDoneWith : Kept → View → List ℕ → PieceEnd → Type 0
IsDoneWith bag v left p =
    (IsTrue (is_in v.closed p.piece) × IsClosedAt bag v.seen p.tail.list p.expanded)
    ⊎ IsTrue (is_in left p.piece)

-- the result of a worker, in terms of its seat's view
pub record IsWorkerEnd (bag : Kept) (first nodes worker : ℕ) (tails : List Suffix) (v : View)
    (e : WorkerEnd) : Type 0 where
  pub done : v.ends ≡ 1
  pub looks : e.looks ≡ v.looks
  pub took : map (λ p. p.piece) e.ends.items ≡ v.taken
  pub few : length v.taken ≤ length tails
  -- no piece was taken twice, and each piece taken is closed or was left open
  pub once : (p : ℕ) → times v.taken p ≤ 1
  pub spent : (p : ℕ) → times v.taken p ≡ times v.closed p + times (left_open e) p
  pub entries : All (IsEntry bag first nodes worker tails) e.ends.items
  pub done_with : All (IsDoneWith bag v (left_open e)) e.ends.items
  pub costly : All (IsCostly bag first nodes tails) e.spent.items
  -- at most one piece is out of budget, and the skipped pieces are all those that came after it
  pub unclosed : AreLeftOpen e.ends.items e.spent.items e.skipped.items
  pub paced : sum_by (λ p. p.expanded) e.ends.items ≤ MOST_EXPANDED * e.looks
  pub best : IsBestFound bag tails v.posted e.best
