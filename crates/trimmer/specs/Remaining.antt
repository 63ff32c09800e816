-- The claims that are left while they are tried from last to first.
use Rattle.std.specs.Prelude.{List, ◌++◌, map}
use Rattle.assertions.specs.declared.assertion.Assertion.{Assertion}
use Rattle.assertions.specs.declared.assertion.Claim.{Claim}

-- the claims that haven't been tried, and those after them that stay
pub record Left : Type 0 where
  pub untried : List Claim
  pub kept : List Claim

abbrev pub assertions_in : Left → List Assertion
assertions_in left = map (λ claim. claim.assertion) (left.untried ++ left.kept)
