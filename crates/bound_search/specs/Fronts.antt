-- A front: the open suffixes of one piece, and what its turns say. A piece consists of the suffixes with the same last two
-- candidates. A statement about a bag means the records that the bag is of, whichever they are.
use Rattle.std.specs.Prelude.{◌≡◌, ◌⊎◌, ℕ, ◌+◌, ◌<◌, ◌≤◌, ◌==◌, true, min, List, [], ◌∷◌, ◌++◌, length, count_by, All, Contains, IsTrue, IsFalse}
use Rattle.std.specs.List.Sorted.{IsPermutation}
use Rattle.irv_base.specs.Orders.{is_order, EndsIn}
use Rattle.assertions.specs.Suffixes.{is_suffix, comes_before}
use Rattle.assertions.specs.Hardness.{low}
use Rattle.set_tallies.specs.Bags.{Kept, IsOf}
use Rattle.suffix_tree.specs.Suffixes.{Suffix, children}
use Rattle.suffix_tree.specs.Scores.{IsScoredOver}
use Rattle.suffix_tree.specs.declared.scored.Scored.{Scored}
use Rattle.irv_base.specs.Names.{is_same}
use Rattle.bound_search.specs.Places.{EndsInOne, ends_in}
use Rattle.bound_search.specs.declared.limits.TheConstants.{MOST_EXPANDED}
use Rattle.bound_search.specs.declared.turn.Turn.{Turn}
use Rattle.bound_search.specs.declared.turn.Turn.TheVariants.{Closed, Found, More, Spent}

pub record Frontier : Type 0 where
  pub piece : Suffix
  -- the open suffixes
  pub suffixes : List Scored
  -- the bound of the last turn
  pub bound : ℕ
  -- the smallest margin found
  pub least : ℕ
  -- the number of suffixes expanded
  pub expanded : ℕ

-- a suffix of the piece that isn't a whole order
pub record IsPart (n : ℕ) (piece s : List ℕ) : Type 0 where
  pub proper : IsTrue (is_suffix n s)
  pub inside : EndsIn s piece
  pub short : length s < n

-- a suffix of the piece with its score
pub record IsOpen (bag : Kept) (piece : List ℕ) (o : Scored) : Type 0 where
  pub contest : o.tail.n ≡ bag.n
  pub proper : IsTrue (is_suffix bag.n o.tail.list)
  pub inside : EndsIn o.tail.list piece
  pub scored : IsScoredOver bag o

-- a front that has expanded exactly these suffixes
pub record IsAfter (bag : Kept) (done : List (List ℕ)) (f : Frontier) : Type 0 where
  pub contest : f.piece.n ≡ bag.n
  pub count : length done ≡ f.expanded
  pub parts : All (IsPart bag.n f.piece.list) done
  pub each : All (IsOpen bag f.piece.list) f.suffixes
  -- if a whole order is open, nothing else is open
  pub alone : (o : Scored) → Contains f.suffixes o → length o.tail.list ≡ bag.n →
      f.suffixes ≡ o ∷ []
  -- each suffix of the piece below both the bound and the smallest margin found was expanded or ends in an open suffix
  pub covers : (records : List (List ℕ)) → IsOf bag records → (s : List ℕ) →
      IsTrue (is_suffix bag.n s) → EndsIn s f.piece.list →
      low bag.n records s < f.bound → low bag.n records s < f.least →
      Contains done s ⊎ EndsInOne f.suffixes s
  -- no suffix was expanded twice, ends in two open suffixes, or was expanded and ends in an open suffix
  pub once : (s : List ℕ) →
      count_by (is_same s) done + count_by (λ o. ends_in s o.tail.list) f.suffixes ≤ 1

-- a front, whatever it has expanded
abbrev pub IsFront : Kept → Frontier → Type 0
IsFront bag f = (done : List (List ℕ)) × IsAfter bag done f

-- the suffixes are below the limit
abbrev pub AreBelow : Kept → ℕ → List (List ℕ) → Type 0
AreBelow bag limit suffixes =
    (records : List (List ℕ)) → IsOf bag records → All (λ s. low bag.n records s < limit) suffixes

-- the low of the suffix is at most the hardness of each order of the piece
abbrev pub IsWithin : Kept → List (List ℕ) → List ℕ → List ℕ → Type 0
IsWithin bag records piece s =
    (order : List ℕ) → IsTrue (is_order bag.n order) → EndsIn order piece →
    low bag.n records s ≤ low bag.n records order

-- the low of each of the suffixes is at most the hardness of each order of the piece
abbrev pub AreWithin : Kept → List ℕ → List (List ℕ) → Type 0
AreWithin bag piece suffixes =
    (records : List (List ℕ)) → IsOf bag records → All (IsWithin bag records piece) suffixes

-- ---- best first

-- the suffix that comes first: no other has a lower low, and no other with the same low comes before it when both are read
-- backwards
pub record IsFirstOf (one : Scored) (suffixes : List Scored) : Type 0 where
  pub inside : Contains suffixes one
  pub least :
      All
      (λ o. (one.low < o.low)
      ⊎ ((one.low ≡ o.low) × IsFalse (comes_before o.tail.list one.tail.list)))
      suffixes

-- one suffix was expanded: it was removed, and only children of it were added
pub record IsReplaced (one : Scored) (before after : List Scored) : Type 0 where
  pub rest : List Scored
  pub taken : IsPermutation before (one ∷ rest)
  pub left : All (λ o. Contains rest o ⊎ Contains (children one.tail) o.tail) after

-- starting from the suffixes that were open at first, these were expanded in order, each of them the first of those open at that
-- time; and these are open now
pub data AreFirstEach (start : List Scored) : List (List ℕ) → List Scored → Type 0 where
  none_expanded : AreFirstEach start [] start
  one_expanded : {expanded : List (List ℕ)} {before after : List Scored} (one : Scored) →
      AreFirstEach start expanded before → IsFirstOf one before → IsReplaced one before after →
      AreFirstEach start (expanded ++ one.tail.list ∷ []) after
  -- a whole order that is found is removed
  one_found : {expanded : List (List ℕ)} {before after : List Scored} (order : Scored) →
      AreFirstEach start expanded before → IsPermutation before (order ∷ after) →
      (length order.tail.list == order.tail.n) ≡ true → AreFirstEach start expanded after

-- ---- what a front has done

-- what was expanded between two fronts under a bound: each such suffix ends in a suffix that was open at first, and is below the
-- bound; each suffix that is open now ends in one that was open at first
pub record HasGrown (bag : Kept) (done : List (List ℕ)) (bound : ℕ) (old new : Frontier)
    : Type 0 where
  pub more : List (List ℕ)
  pub after : IsAfter bag (done ++ more) new
  pub were_open : All (EndsInOne old.suffixes) more
  pub below : AreBelow bag bound more
  pub within : bound ≤ old.least → AreWithin bag old.piece.list more
  pub from_open : All (λ o. EndsInOne old.suffixes o.tail.list) new.suffixes
  pub best_first : AreFirstEach old.suffixes more new.suffixes

abbrev pub Grows : Kept → ℕ → Frontier → Frontier → Type 0
Grows bag bound old new =
    (done : List (List ℕ)) → IsAfter bag done old → HasGrown bag done bound old new

-- ---- the answers of a turn

-- an order of the piece, with its hardness
pub record IsFound (bag : Kept) (piece order : List ℕ) (margin : ℕ) : Type 0 where
  pub whole : IsTrue (is_order bag.n order)
  pub inside : EndsIn order piece
  pub hardness : (records : List (List ℕ)) → IsOf bag records → low bag.n records order ≡ margin

-- no open suffix is below the bound
abbrev pub IsClosed : Frontier → Type 0
IsClosed f = All (λ o. f.bound ≤ o.low) f.suffixes

-- some open suffix is below the bound, and no open suffix below it is a whole order
pub record IsLeft (bag : Kept) (f : Frontier) : Type 0 where
  pub one : Scored
  pub still_open : Contains f.suffixes one
  pub below : one.low < f.bound
  pub parts : (o : Scored) → Contains f.suffixes o → o.low < f.bound → length o.tail.list < bag.n

-- what a turn says, in terms of the front before and after it; an order that is found ended in a suffix that was open
abbrev pub IsTurn : Kept → ℕ → Frontier → Frontier → Turn → Type 0
IsTurn bag left old new Closed = (new.least ≡ old.least) × IsClosed new
IsTurn bag left old new (Found order margin) =
    IsFound bag old.piece.list order margin × EndsInOne old.suffixes order × (margin < new.bound)
    × (new.least ≡ min old.least margin)
IsTurn bag left old new More =
    (new.least ≡ old.least) × (new.expanded ≡ old.expanded + MOST_EXPANDED) × IsLeft bag new
IsTurn bag left old new Spent =
    (new.least ≡ old.least) × (new.expanded ≡ old.expanded + left) × (left < MOST_EXPANDED)
    × IsLeft bag new
