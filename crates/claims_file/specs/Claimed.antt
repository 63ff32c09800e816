-- What a claims file says of a contest.
use Rattle.std.specs.Prelude.{ℕ, ◌<◌, List, All, IsTrue}
use Rattle.assertions.specs.Assertions.{is_proper}
use Rattle.assertions.specs.declared.assertion.Assertion.{Assertion}

-- a candidate is its place in the contest's list of candidates, from 0
pub record Claimed : Type 0 where
  pub winner : ℕ
  pub assertions : List Assertion

-- the claims are sound for n candidates
pub record AreSound (n : ℕ) (claims : Claimed) : Type 0 where
  pub winner : claims.winner < n
  pub proper : All (λ a. IsTrue (is_proper n a)) claims.assertions
