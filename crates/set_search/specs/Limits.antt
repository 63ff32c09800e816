-- How far a walk goes.
use Rattle.std.specs.Prelude.{ℕ, Bool, nat_lt, nat_le, List}
use Rattle.assertions.specs.Steps.{step}
use Rattle.set_search.specs.declared.by_margin.Limit.{Limit}
use Rattle.set_search.specs.declared.by_margin.Limit.TheVariants.{Below, AtMost}

abbrev pub lets : Limit → ℕ → Bool
lets (Below limit) margin = nat_lt margin limit
lets (AtMost limit) margin = nat_le margin limit

-- a walk by the steps that the limit lets through
abbrev pub within : Limit → ℕ → List (List ℕ) → ℕ → ℕ → Bool
within limit n records set c = lets limit (step n records set c)
