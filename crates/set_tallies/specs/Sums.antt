-- A table has a number for each set of candidates and each candidate. It is stored set by set, with the candidates next to each
-- other: the number for a set and the candidate c of n is at the place set * n + c. At first it is the number of ballots that have
-- exactly that set before c. Once the table is summed, it is the number of ballots that have c with nobody of the set before it.
use Rattle.std.specs.Prelude.{◌≡◌, ℕ, ◌+◌, ◌*◌, ◌<◌, ◌≤◌, ◌^◌, List, [], length, map, sum_by, count_by, slice_index, get_or, if◌then◌else◌}
use Rattle.irv_base.specs.Candidates.{candidates}
use Rattle.set_tallies.specs.Bags.{Kept, AreEntries, votes_at, misses, missing}
use Rattle.set_tallies.specs.Befores.{has_missed}
use Rattle.set_tallies.specs.Halves.{IsHalved, half_at}
use Rattle.set_tallies.specs.declared.sums.TheConstants.{MOST_SUMMED}
use Rattle.set_tallies.specs.declared.sums.Sums.{Sums}
use Rattle.set_tallies.specs.declared.bag.Votes.{Votes}
use Rattle.set_tallies.specs.declared.bag.Votes.TheVariants.{Summed, Halved, Listed}

-- the numbers of the candidate c of n for the sets of the first k candidates
abbrev pub column : ℕ → ℕ → List ℕ → ℕ → List ℕ
column n k table c = map (λ set. slice_index table (set * n + c)) (candidates (2 ^ k))

-- the sum of the numbers in the column at the places of those sets that have nobody of this set
abbrev pub apart : ℕ → List ℕ → ℕ
apart set numbers =
    sum_by (λ other. if misses set other then slice_index numbers other else 0)
    (candidates (length numbers))

abbrev pub sums_of : List ℕ → List ℕ
sums_of numbers = map (λ set. apart set numbers) (candidates (length numbers))

-- the table counts these ballots: its numbers apart are those of the ballots that have a candidate with nobody of a set before it
pub record IsCountOf (n : ℕ) (rankings : List (List ℕ)) (table : List ℕ) : Type 0 where
  pub long : length table ≡ n * 2 ^ n
  pub says : (set c : ℕ) → c < n →
      apart set (column n n table c) ≡ count_by (has_missed set c) rankings

-- a table of n candidates
pub record IsSummed (n : ℕ) (sums : Sums) : Type 0 where
  pub same : sums.n ≡ n
  pub few : n ≤ MOST_SUMMED
  pub long : length sums.table.items ≡ n * 2 ^ n

abbrev pub sum_at : Sums → ℕ → ℕ → ℕ
sum_at sums set c = slice_index sums.table.items (set * sums.n + c)

-- the table has what the bag says
pub record AreSums (bag : Kept) (sums : Sums) : Type 0 where
  pub table : IsSummed bag.n sums
  pub says : (set c : ℕ) → set < 2 ^ bag.n → c < bag.n → sum_at sums set c ≡ votes_at bag set c

-- ---- the forms of a bag

abbrev pub votes_in : Votes → ℕ → ℕ → ℕ
votes_in (Summed sums) set c = sum_at sums set c
votes_in (Halved halves) set c = half_at halves set c
votes_in (Listed lists) set c = missing set (get_or (map (λ v. v.items) lists.items) c [])

abbrev pub AreHeld : ℕ → ℕ → Votes → Type 0
AreHeld n records (Summed sums) = IsSummed n sums
AreHeld n records (Halved halves) = IsHalved n halves
AreHeld n records (Listed lists) = AreEntries n records (map (λ v. v.items) lists.items)
