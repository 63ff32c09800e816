-- What the risk limit asks of assertions: they prove the winner if they are true, and have their margins over the linked records.
use Rattle.std.specs.Prelude.{ℕ, ◌<◌, List, map, IsTrue}
use Rattle.std.specs.List.{list_all}
use Rattle.assertions.specs.declared.assertion.Assertion.{Assertion}
use Rattle.assertions.specs.Assertions.{is_proper}
use Rattle.assertions.specs.Refutation.{covers}
use Rattle.assertion_file.specs.Content.{Content, candidate_count}
use Rattle.manifest.specs.declared.recorded.Recorded.{Recorded}
use Rattle.session_state.specs.Claims.{audited}
use Rattle.session_state.specs.RiskOfValues.{AreClaims}

-- the assertions refute each order of n candidates that elects another one
pub record Cover (n winner : ℕ) (assertions : List Assertion) : Type 0 where
  pub winner_below : winner < n
  pub proper : IsTrue (list_all (is_proper n) assertions)
  pub covering : IsTrue (covers n winner assertions)

abbrev pub claimed : Content → List Assertion
claimed file = map (λ claim. claim.assertion) file.claims

pub record AreAuditable (file : Content) (recorded : List Recorded) : Type 0 where
  pub cover : Cover (candidate_count file) file.winner (claimed file)
  pub claims : AreClaims (audited file) recorded
