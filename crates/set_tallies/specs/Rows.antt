-- The rows of tallies that are kept, each under its set: the row of a set has the tallies of that set and of no other. Which rows
-- are kept is unknown.
use Rattle.std.specs.Prelude.{◌≡◌, ℕ, ◌≤◌, Option, IfSome, List, map, if◌then◌else◌}
use Rattle.std.specs.BTreeMap.{get, btree_map_len}
use Rattle.std.specs.Ordering.{nat_cmp}
use Rattle.irv_base.specs.Candidates.{candidates, has}
use Rattle.set_tallies.specs.Bags.{Kept, Counts, AreFilledFrom, votes_at}
use Rattle.set_tallies.specs.declared.rows.Rows.{Rows}
use Rattle.set_tallies.specs.declared.rows.TheConstants.{MOST_ROWS}

-- the tallies of a set, as the bag has them
abbrev pub votes_of : Kept → ℕ → List ℕ
votes_of bag set = map (λ c. if has set c then votes_at bag set c else 0) (candidates bag.n)

-- each row is the row of its set
abbrev pub AreRows : Kept → Rows → Type 0
AreRows bag rows = (set : ℕ) →
    IfSome (get nat_cmp rows.by_set set) (λ votes. votes.items ≡ votes_of bag set)

-- there are not too many rows
abbrev pub AreFew : Rows → Type 0
AreFew rows = btree_map_len rows.by_set ≤ MOST_ROWS

-- what holds for tallies
pub record AreTallies (bag : Kept) (counts : Counts) (summed : Option Kept) (kept : Rows) : Type 0 where
  pub filled : AreFilledFrom bag counts
  pub same : IfSome summed (λ own. own ≡ bag)
  pub few : AreFew kept
  pub rows : AreRows bag kept
