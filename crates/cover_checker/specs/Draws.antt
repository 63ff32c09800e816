-- The draws that a file plans.
use Rattle.std.specs.Prelude.{◌≡◌, ℕ, List, map, Option, IfSome}
use Rattle.assertions.specs.declared.assertion.Claim.{Claim}
use Rattle.assertion_file.specs.Content.{Plan, Content}
use Rattle.km_risk.specs.Clean.{clean_draws}

-- the clean draws of each claim, or None if it takes a full count, for this number of cards, gamma, and the risk limit
abbrev pub clean_draws_for : ℕ → ℕ → ℕ → List Claim → List (Option ℕ)
clean_draws_for cards gamma limit claims =
    map (λ claim. clean_draws cards claim.margin gamma limit) claims

-- the clean draws of a claim under the plan's terms
abbrev pub clean_draws_of : Plan → Claim → Option ℕ
clean_draws_of plan claim = clean_draws plan.cards claim.margin plan.gamma plan.limit

abbrev pub IsPlanOf : List Claim → Plan → Type 0
IsPlanOf claims plan = plan.draws ≡ clean_draws_for plan.cards plan.gamma plan.limit claims

-- if the file has a plan, it plans the clean draws of its claims
abbrev pub HasCleanDraws : Content → Type 0
HasCleanDraws file = IfSome file.plan (IsPlanOf file.claims)
