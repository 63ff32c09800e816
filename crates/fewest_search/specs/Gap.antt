-- The smallest margin that the assertions may have, given a gap below the best margin.
use Rattle.std.specs.Prelude.{ℕ, ◌+◌, ◌-◌, ◌*◌, ◌/◌, max}

-- the best margin less this number of thousandths of it, rounded up, and at least one vote
abbrev pub least_margin : ℕ → ℕ → ℕ
least_margin gap best = max 1 ((best * (1000 - gap) + 999) / 1000)
