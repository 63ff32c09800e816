-- Claims in the fixed order.
use Rattle.std.specs.Prelude.{ℕ, List, Contains, AllPairs, IsTrue}
use Rattle.assertions.specs.declared.assertion.Assertion.{Assertion}
use Rattle.assertions.specs.declared.assertion.Claim.{Claim}
use Rattle.assertions.specs.FixedOrder.{is_before}
use Rattle.nen_cut.specs.Floors.{assertions_in}

abbrev pub entry_of : Claim → Assertion × ℕ
entry_of claim = (claim.assertion, claim.margin)

-- each assertion comes before the later ones
abbrev pub IsRising : List Claim → Type 0
IsRising claims = AllPairs (λ a b. IsTrue (is_before a b)) (assertions_in claims)

-- they are in the fixed order, and have the same assertions
pub record AreInOrder (claims list : List Claim) : Type 0 where
  pub rising : IsRising list
  pub from : (claim : Claim) → Contains list claim → Contains claims claim
  pub each : (a : Assertion) → Contains (assertions_in claims) a → Contains (assertions_in list) a
