-- The laws of budgets.
use Rattle.std.specs.Prelude.{◌≡◌, ◌^◌}
use Rattle.budget.specs.declared.limits.TheConstants.{MOST_NODES, DEFAULT_NODES, MOST_SETS}

-- the limits and the default; the maximum number of sets is the number of all sets of 20 candidates
pub record Limits : Type 0 where
  pub nodes : MOST_NODES ≡ 200000
  pub default_nodes : DEFAULT_NODES ≡ 100000
  pub sets : MOST_SETS ≡ 1048576
  pub all_sets : MOST_SETS ≡ 2 ^ 20
