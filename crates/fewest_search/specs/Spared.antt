-- What is left of claims that cover after each NEB that can be removed is dropped.
use Rattle.std.specs.Prelude.{◌≡◌, ◌⊎◌, ℕ, List, ◌++◌, None, Ok, Contains, IsPermutation}
use Rattle.assertions.specs.declared.assertion.Assertion.{Assertion}
use Rattle.assertions.specs.declared.assertion.Claim.{Claim}
use Rattle.set_walk.specs.Answers.{first_within}
use Rattle.set_walk.specs.Walks.{passes}
use Rattle.nen_cut.specs.Floors.{assertions_in}
use Rattle.fewest_search.specs.InOrder.{IsRising}
use Rattle.fewest_search.specs.Needed.{IsNeededWithin}

-- the NENs, followed by the NEBs in any order
pub record AreInTurn (nebs nens claims : List Claim) : Type 0 where
  pub later : List Claim
  pub joined : claims ≡ nens ++ later
  pub same : IsPermutation nebs later

-- these claims are left besides those that stay; they still cover within the budget, and no claim of them can be removed
pub record AreLeft (n winner sets : ℕ) (claims stay left : List Claim) : Type 0 where
  pub part : (claim : Claim) → Contains left claim → Contains claims claim
  pub covered : first_within n winner sets (passes (assertions_in (stay ++ left))) ≡ Ok None
  pub needed : (claim : Claim) → Contains left claim →
      IsNeededWithin n winner sets (assertions_in (stay ++ left)) claim.assertion

-- the NEBs that are needed and all NENs, in the fixed order
pub record AreSpared (n winner sets : ℕ) (nebs nens claims : List Claim) : Type 0 where
  pub part : (claim : Claim) → Contains claims claim → Contains (nebs ++ nens) claim
  pub stay : (a : Assertion) → Contains (assertions_in nens) a → Contains (assertions_in claims) a
  pub covered : first_within n winner sets (passes (assertions_in claims)) ≡ Ok None
  pub needed : (claim : Claim) → Contains claims claim →
      Contains nens claim ⊎ IsNeededWithin n winner sets (assertions_in claims) claim.assertion
  pub rising : IsRising claims
