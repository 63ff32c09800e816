-- The limits of the terms for which clean draws are planned.
use Rattle.irv_base.specs.declared.limits.TheConstants.{GREATEST_GAMMA, GREATEST_LIMIT, MOST_CARDS}
use Rattle.command.specs.Limits.{IsUpTo}
use Rattle.command.specs.declared.plan_terms.PlanTerms.{PlanTerms}

pub record AreWithinLimits (terms : PlanTerms) : Type 0 where
  pub cards : IsUpTo MOST_CARDS terms.cards
  pub limit : IsUpTo GREATEST_LIMIT terms.limit
  pub gamma : IsUpTo GREATEST_GAMMA terms.gamma
