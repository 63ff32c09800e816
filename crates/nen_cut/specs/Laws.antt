-- The laws of the fewest NENs.
use Rattle.std.specs.Prelude.{ℕ, ◌-◌, ◌^◌, ◌<◌, ◌≤◌, List}
use Rattle.nen_cut.specs.Floors.{sets_beside}

-- NEBs never leave the empty set, the set of only the winner or the set of all candidates standing
abbrev pub SetsAreFew : Type 0
SetsAreFew =
    (n winner floor : ℕ) (records : List (List ℕ)) → winner < n → 1 < n →
    sets_beside n records winner floor ≤ 2 ^ n - 3
