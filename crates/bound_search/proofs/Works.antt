-- The work of a piece: its value is the hardness of one of its orders.
use Rattle.std.proofs.Common.{◌≡◌, ℕ, ◌+◌, ◌-◌, true, List, length, map, arith}
use Rattle.irv_base.specs.Orders.{is_order, EndsIn}
use Rattle.irv_base.proofs.Least.{least_is}
use Rattle.irv_base.proofs.Members.{Member, member-map, from_map, contains-from_member}
use Rattle.assertions.specs.Suffixes.{is_suffix, orders_ending}
use Rattle.assertions.specs.Hardness.{low}
use Rattle.assertions.proofs.Alternatives.{some_ending}
use Rattle.assertions.proofs.Endings.{orders_ending_are}
use Rattle.suffix_tree.proofs.Tails.{suffix-short}
use Rattle.bound_search.specs.Race.{value_of}

-- an order of the piece that has its value
pub value_reached : (n : ℕ) (records : List (List ℕ)) (piece : List ℕ) → is_suffix n piece ≡ true →
    (order : List ℕ) × (is_order n order ≡ true) × EndsIn order piece × (low n records order ≡ value_of n records piece)
value_reached n records piece proper =
    let short = suffix-short n piece proper in
    let long : (n - length piece) + length piece ≡ n = omega (arith, short) in
    let (some, m) = some_ending n (n - length piece) piece long in
    let least : Member (value_of n records piece) (map (low n records) (orders_ending n (n - length piece) piece)) = least_is (member-map (low n records) m) in
    let (order, inside, is) = from_map (low n records) (value_of n records piece) (orders_ending n (n - length piece) piece) least in
    let (whole, ends) = (orders_ending_are n (n - length piece) piece order long proper).0 (contains-from_member inside) in
    (order, whole, ends, is)
