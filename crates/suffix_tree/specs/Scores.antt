-- Suffixes, with what they have against them.
use Rattle.std.specs.Prelude.{◌≡◌, ℕ, nat_lt, if◌then◌else◌, List, map, filter, reverse, Option, Some, None, All}
use Rattle.std.specs.declared.cmp.Ordering.{Ordering}
use Rattle.std.specs.Cmp.Lexicographic.{slice_cmp}
use Rattle.std.specs.Option.{option_cmp}
use Rattle.std.specs.Ordering.{flip_args, nat_cmp, on, then_cmp}
use Rattle.assertions.specs.contracts.assertion.AssertionOrd.TheImpl.{ghosts as assertion_order}
use Rattle.assertions.specs.Hardness.{low, refuter}
use Rattle.set_tallies.specs.Bags.{Kept, IsOf}
use Rattle.suffix_tree.specs.Suffixes.{Suffix}
use Rattle.suffix_tree.specs.declared.scored.Scored.{Scored}

-- the low of the suffix, and its refuter, over the records
pub record IsScored (records : List (List ℕ)) (s : Scored) : Type 0 where
  pub low_is : s.low ≡ low s.tail.n records s.tail.list
  pub by_is : s.by ≡ refuter s.tail.n records s.tail.list

-- the suffix is scored over whatever records the bag is of
abbrev pub IsScoredOver : Kept → Scored → Type 0
IsScoredOver bag s = (records : List (List ℕ)) → IsOf bag records → IsScored records s

-- the suffix with its score, if its low is below the limit, and otherwise nothing
pub record IsScoredBelow (bag : Kept) (limit : ℕ) (tail : Suffix) (found : Option Scored)
    : Type 0 where
  pub whole : Scored
  pub tail_is : whole.tail ≡ tail
  pub scored : IsScoredOver bag whole
  pub found_is : found ≡ (if nat_lt whole.low limit then Some whole else None)

-- those of the suffixes whose low is below the limit, with their scores
pub record AreScoredBelow (bag : Kept) (limit : ℕ) (tails : List Suffix) (found : List Scored)
    : Type 0 where
  pub all : List Scored
  pub tails_are : map (λ s. s.tail) all ≡ tails
  pub scored : All (IsScoredOver bag) all
  pub found_are : found ≡ filter (λ s. nat_lt s.low limit) all

-- which of two suffixes is searched first: the one with the lower low; if the lows are equal, the one that comes first when both
-- are read backwards; and then by the number of candidates and the refuter, so that only equal suffixes compare as equal
abbrev pub search_cmp : Scored → Scored → Ordering
search_cmp =
    then_cmp (on (λ s. s.low) nat_cmp)
    (then_cmp (on (λ s. reverse s.tail.list) (slice_cmp nat_cmp))
    (then_cmp (on (λ s. s.tail.n) nat_cmp) (on (λ s. s.by) (option_cmp assertion_order.cmp))))

-- the suffix that is searched first is the greatest
abbrev pub first_is_greatest : Scored → Scored → Ordering
first_is_greatest = flip_args search_cmp
