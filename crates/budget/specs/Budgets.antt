-- The limits of a budget.
use Rattle.std.specs.Prelude.{◌≤◌}
use Rattle.budget.specs.declared.budget.Budget.{Budget}
use Rattle.budget.specs.declared.budget.Budget.TheVariants.{Nodes, Sets}
use Rattle.budget.specs.declared.limits.TheConstants.{MOST_NODES, MOST_SETS}

-- from 1 to the maximum of its kind
abbrev pub IsWithin : Budget → Type 0
IsWithin (Nodes nodes) = (1 ≤ nodes) × (nodes ≤ MOST_NODES)
IsWithin (Sets sets) = (1 ≤ sets) × (sets ≤ MOST_SETS)
