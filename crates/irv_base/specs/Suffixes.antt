-- Suffixes of elimination orders: the last candidates, first eliminated first, so the winner is last.
use Rattle.std.specs.Prelude.{ℕ, Bool, ◌&&◌, ◌==◌, nat_lt, if◌then◌else◌, List, length, Option, Some, None}
use Rattle.std.specs.List.{list_all}
use Rattle.irv_base.specs.Candidates.{is_distinct}

-- distinct candidates below n
abbrev pub is_suffix : ℕ → List ℕ → Bool
is_suffix n suffix = is_distinct suffix && list_all (λ c. nat_lt c n) suffix

-- the suffix as an order, if it has all n candidates
abbrev pub whole : ℕ → List ℕ → Option (List ℕ)
whole n suffix = if length suffix == n then Some suffix else None
