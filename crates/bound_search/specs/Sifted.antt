-- What happens to the children of an expanded suffix, and to the first suffix of a heap.
use Rattle.std.specs.Prelude.{◌≡◌, ◌⊎◌, ℕ, ◌<◌, ◌≤◌, ◌+◌, min, Bool, true, false, ◌==◌, List, [], ◌∷◌, ◌++◌, length, count_by, All, Contains, Option, Some, None, IfSome, slice_get}
use Rattle.std.specs.List.Sorted.{IsPermutation}
use Rattle.suffix_tree.specs.declared.scored.Scored.{Scored}
use Rattle.set_tallies.specs.Bags.{Kept}
use Rattle.bound_search.specs.Places.{EndsInOne}
use Rattle.bound_search.specs.Fronts.{Frontier, IsAfter, IsFirstOf, IsFound, IsReplaced}
use Rattle.bound_search.specs.declared.front.Look.{Look}
use Rattle.bound_search.specs.declared.front.Look.TheVariants.{NoneLeft, Whole, Part}

-- an order was found, and its low is at most this
abbrev pub IsFoundWithin : Option Scored → ℕ → Type 0
IsFoundWithin None m = ⊥
IsFoundWithin (Some o) m = o.low ≤ m

-- a child is pruned, open, or no better than the order found
abbrev pub IsPlaced : ℕ → List Scored → Option Scored → Scored → Type 0
IsPlaced bound fresh found x = (bound ≤ x.low) ⊎ (Contains fresh x ⊎ IsFoundWithin found x.low)

-- x is one of the children, below the bound, and isn't a whole order
pub record IsOpenChild (children : List Scored) (bound : ℕ) (x : Scored) : Type 0 where
  pub one : Contains children x
  pub below : x.low < bound
  pub part : length x.tail.list ≡ x.tail.n → ⊥

-- x is one of the children, below the bound, and a whole order
pub record IsFoundChild (children : List Scored) (bound : ℕ) (x : Scored) : Type 0 where
  pub one : Contains children x
  pub below : x.low < bound
  pub whole : length x.tail.list ≡ x.tail.n

-- the smallest margin found, including what was found now
abbrev pub least_after : ℕ → Option Scored → ℕ
least_after least None = least
least_after least (Some o) = min least o.low

-- the first suffix of a heap is removed, and the fresh ones are inserted
pub record Replaced (old fresh new : List Scored) : Type 0 where
  pub top : Scored
  pub rest : List Scored
  pub first : slice_get old 0 ≡ Some top
  pub taken : IsPermutation old (top ∷ rest)
  pub joined : IsPermutation (rest ++ fresh) new

-- the children replace the first suffix, or are pruned, or found
pub record IsPut (children : List Scored) (old new : Frontier) (found : Option Scored)
    : Type 0 where
  pub fresh : List Scored
  pub replaced : Replaced old.suffixes fresh new.suffixes
  pub placed : (x : Scored) → Contains children x → IsPlaced old.bound fresh found x
  pub stays : All (IsOpenChild children old.bound) fresh
  pub counts : (p : Scored → Bool) → count_by p fresh ≤ count_by p children
  pub found_one : IfSome found (IsFoundChild children old.bound)
  pub piece : new.piece ≡ old.piece
  pub bound : new.bound ≡ old.bound
  pub expanded : new.expanded ≡ old.expanded + 1
  pub least : new.least ≡ least_after old.least found

-- no order was found, or one below the bound
abbrev pub IsNewlyFound : Kept → Frontier → Frontier → Option Scored → Type 0
IsNewlyFound bag old new None = new.least ≡ old.least
IsNewlyFound bag old new (Some o) =
    ((length o.tail.list == o.tail.n) ≡ true) × IsFound bag old.piece.list o.tail.list o.low
    × EndsInOne old.suffixes o.tail.list × (o.low < old.bound) × (new.least ≡ min old.least o.low)

-- one suffix of a front was expanded
pub record IsExpanded (bag : Kept) (old new : Frontier) (found : Option Scored) : Type 0 where
  pub one : Scored
  pub was_open : Contains old.suffixes one
  pub below : one.low < old.bound
  pub first : IsFirstOf one old.suffixes
  pub replaced : IsReplaced one old.suffixes new.suffixes
  pub after : (done : List (List ℕ)) → IsAfter bag done old →
      IsAfter bag (done ++ one.tail.list ∷ []) new
  pub from_open : All (λ o. EndsInOne old.suffixes o.tail.list) new.suffixes
  pub piece : new.piece ≡ old.piece
  pub bound : new.bound ≡ old.bound
  pub expanded : new.expanded ≡ old.expanded + 1
  pub newly : IsNewlyFound bag old new found

-- the first suffix, a whole order, is removed
pub record IsTaken (old new : Frontier) (order : Scored) : Type 0 where
  pub first : slice_get old.suffixes 0 ≡ Some order
  pub taken : IsPermutation old.suffixes (order ∷ new.suffixes)
  pub piece : new.piece ≡ old.piece
  pub bound : new.bound ≡ old.bound
  pub expanded : new.expanded ≡ old.expanded
  pub least : new.least ≡ min old.least order.low

-- the first suffix is below the bound, and is a whole order or isn't
abbrev pub IsFirst : Bool → ℕ → Option Scored → Type 0
IsFirst whole bound None = ⊥
IsFirst whole bound (Some t) = (t.low < bound) × ((length t.tail.list == t.tail.n) ≡ whole)

abbrev pub IsLook : Frontier → Look → Type 0
IsLook f NoneLeft = All (λ o. f.bound ≤ o.low) f.suffixes
IsLook f Whole = (0 < length f.suffixes) × IsFirst true f.bound (slice_get f.suffixes 0)
IsLook f Part = (0 < length f.suffixes) × IsFirst false f.bound (slice_get f.suffixes 0)
