-- The law of a bag.
use Rattle.std.specs.Prelude.{ℕ, List, IsPermutation}
use Rattle.set_tallies.specs.Bags.{Kept, IsOf}

-- a bag of some records is also a bag of the same records in another order
abbrev pub OrderIsFree : Type 0
OrderIsFree =
    (bag : Kept) (records others : List (List ℕ)) → IsPermutation records others →
    IsOf bag records → IsOf bag others
