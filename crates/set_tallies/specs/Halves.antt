-- A table with one row for each pair of complementary sets. The row's number is that of the set of the pair without the last
-- candidate. Each candidate is in one of the two sets, and the row has its number for that set: the number of ballots that have the
-- candidate with nobody of that set before it.
use Rattle.std.specs.Prelude.{◌≡◌, ℕ, ◌-◌, ◌+◌, ◌*◌, ◌≤◌, ◌<◌, ◌^◌, nat_lt, List, length, map, slice_index, bit_or, if◌then◌else◌}
use Rattle.irv_base.specs.Candidates.{candidates, has}
use Rattle.set_tallies.specs.Bags.{Kept, everyone, votes_at}
use Rattle.set_tallies.specs.declared.sums.TheConstants.{MOST_SUMMED}
use Rattle.set_tallies.specs.declared.halves.Halves.{Halves}

-- those of n candidates who aren't in the set
abbrev pub others : ℕ → ℕ → ℕ
others n set = everyone n - set

-- the row of a set, which is also the row of its complement
abbrev pub row_of : ℕ → ℕ → ℕ
row_of n set = if nat_lt set (2 ^ (n - 1)) then set else others n set

-- the set that has the candidate, of the two sets of a row
abbrev pub having : ℕ → ℕ → ℕ → ℕ
having n row c = if has row c then row else others n row

-- a table of n candidates
pub record IsHalved (n : ℕ) (halves : Halves) : Type 0 where
  pub same : halves.n ≡ n
  pub some : 1 ≤ n
  pub few : n ≤ MOST_SUMMED
  pub long : length halves.table.items ≡ n * 2 ^ (n - 1)

-- no candidate comes before itself, so the number for a set and a candidate is the number for the set with the candidate added
abbrev pub half_at : Halves → ℕ → ℕ → ℕ
half_at halves set c =
    slice_index halves.table.items (row_of halves.n (bit_or set (2 ^ c)) * halves.n + c)

-- the tallies of a set: one for each candidate, 0 for those outside the set
abbrev pub halves_of : Halves → ℕ → List ℕ
halves_of halves set = map (λ c. if has set c then half_at halves set c else 0) (candidates halves.n)

-- the table has what the bag says
pub record AreHalves (bag : Kept) (halves : Halves) : Type 0 where
  pub table : IsHalved bag.n halves
  pub says : (set c : ℕ) → set < 2 ^ bag.n → c < bag.n → half_at halves set c ≡ votes_at bag set c
