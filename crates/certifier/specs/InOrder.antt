-- Entries put in order by the numbers of their assertions.
use Rattle.std.specs.Prelude.{◌≡◌, ◌<◌, ℕ, List, [], map, length, slice_index_or, All}
use Rattle.std.specs.List.Sorted.{IsNonDecreasingBy}
use Rattle.assertions.specs.declared.assertion.Assertion.{Assertion}
use Rattle.assertions.specs.declared.assertion.Assertion.TheVariants.{Neb}
use Rattle.assertions.specs.contracts.assertion.AssertionOrd.TheImpl.{ghosts}
use Rattle.assertions.specs.FixedOrder.{number_of, HasDigits}
use Rattle.certifier.specs.Gathered.{with_all}
use Rattle.certifier.specs.declared.in_order.Mark.{Mark}

-- the entry that a mark belongs to
abbrev pub entry_at : List (Assertion × ℕ) → Mark → Assertion × ℕ
entry_at list mark = slice_index_or list mark.place (Neb 0 0, 0)

pub record IsMark (list : List (Assertion × ℕ)) (mark : Mark) : Type 0 where
  pub below : mark.place < length list
  pub number : mark.number ≡ number_of (entry_at list mark).0
  pub digits : HasDigits (entry_at list mark).0

-- marks of the list, for these of its entries
pub record AreMarks (list entries : List (Assertion × ℕ)) (marks : List Mark) : Type 0 where
  pub each : All (IsMark list) marks
  pub entries_are : map (entry_at list) marks ≡ entries

-- marks of the list by increasing numbers; their entries, put in one by one, give what those of the list give
pub record AreSorted (list : List (Assertion × ℕ)) (marks : List Mark) : Type 0 where
  pub each : All (IsMark list) marks
  pub rising : IsNonDecreasingBy (λ mark. mark.number) marks
  pub same : with_all ghosts.cmp [] (map (entry_at list) marks) ≡ with_all ghosts.cmp [] list
