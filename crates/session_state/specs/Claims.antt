-- What is audited: functions of rankings with their margins, as in an assertion file.
use Rattle.std.specs.Prelude.{ℕ, List, map, zip}
use Rattle.assertions.specs.declared.assertion.Claim.{Claim}
use Rattle.assertions.specs.Assorter.{assorter_value}
use Rattle.assertion_file.specs.Content.{Content as FileContent}
use Rattle.session_state.specs.Draws.{Audited}

-- each value with its margin
abbrev pub audited_by : List (List ℕ → ℕ) → List ℕ → List Audited
audited_by values margins =
    map (λ claim. record { value = claim.0; margin = claim.1 }) (zip values margins)

-- ---- the claims of an assertion file

-- the value of a ranking for each of its claims
abbrev pub values_of : FileContent → List (List ℕ → ℕ)
values_of file = map (λ claim. assorter_value claim.assertion) file.claims

abbrev pub audited_claim : Claim → Audited
audited_claim claim = record { value = assorter_value claim.assertion; margin = claim.margin }

abbrev pub audited : FileContent → List Audited
audited file = map audited_claim file.claims
