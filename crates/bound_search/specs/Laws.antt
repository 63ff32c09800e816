-- What a front says about the orders and the suffixes of its piece.
use Rattle.std.specs.Prelude.{◌⊎◌, ℕ, ◌<◌, ◌≤◌, List, min, IsTrue}
use Rattle.irv_base.specs.Orders.{is_order, EndsIn}
use Rattle.assertions.specs.Suffixes.{is_suffix}
use Rattle.assertions.specs.Hardness.{low}
use Rattle.set_tallies.specs.Bags.{Kept, IsOf}
use Rattle.bound_search.specs.Places.{EndsInOne}
use Rattle.bound_search.specs.Race.{parts_below}
use Rattle.bound_search.specs.Fronts.{Frontier, IsAfter, IsFront, IsClosed, AreBelow}

-- each order of the piece below both the bound and the smallest margin found ends in an open suffix
abbrev pub OrdersStayOpen : Type 0
OrdersStayOpen =
    (bag : Kept) (records : List (List ℕ)) (f : Frontier) → IsOf bag records → IsFront bag f →
    (order : List ℕ) → IsTrue (is_order bag.n order) → EndsIn order f.piece.list →
    low bag.n records order < f.bound → low bag.n records order < f.least →
    EndsInOne f.suffixes order

-- if no open suffix is below the bound, no order of the piece is below both the bound and the smallest margin found
abbrev pub ClosedAbove : Type 0
ClosedAbove =
    (bag : Kept) (records : List (List ℕ)) (f : Frontier) → IsOf bag records → IsFront bag f →
    IsClosed f →
    (order : List ℕ) → IsTrue (is_order bag.n order) → EndsIn order f.piece.list →
    (f.bound ≤ low bag.n records order) ⊎ (f.least ≤ low bag.n records order)

-- if each expanded suffix is below the limit, the number of expanded suffixes is at most the number below the limit
abbrev pub MostExpanded : Type 0
MostExpanded =
    (bag : Kept) (records : List (List ℕ)) (done : List (List ℕ)) (limit : ℕ) (f : Frontier) →
    IsOf bag records → IsAfter bag done f → AreBelow bag limit done →
    f.expanded ≤ parts_below bag.n records limit f.piece.list

-- if no open suffix is below the bound, the number of expanded suffixes is at least the number below both the bound and the
-- smallest margin found
abbrev pub LeastExpanded : Type 0
LeastExpanded =
    (bag : Kept) (records : List (List ℕ)) (f : Frontier) → IsOf bag records →
    IsTrue (is_suffix bag.n f.piece.list) → IsFront bag f → IsClosed f →
    parts_below bag.n records (min f.bound f.least) f.piece.list ≤ f.expanded
