-- A certificate with the draws of a clean audit.
use Rattle.std.specs.Prelude.{◌≤◌, ℕ, List, map, Some}
use Rattle.irv_base.specs.declared.limits.TheConstants.{GREATEST_GAMMA, GREATEST_LIMIT, MOST_CARDS}
use Rattle.assertion_file.specs.Content.{Content, Plan, margins_of}
use Rattle.km_risk.specs.Clean.{clean_draws}

-- the plan for claims with these margins, over this many cards, with gamma in thousandths and the risk limit in millionths
abbrev pub plan_over : ℕ → ℕ → ℕ → List ℕ → Plan
plan_over cards gamma limit margins = record {
  cards = cards;
  gamma = gamma;
  limit = limit;
  draws = map (λ margin. clean_draws cards margin gamma limit) margins;
}

-- the plan for the claims of a file
abbrev pub plan_of : ℕ → ℕ → ℕ → Content → Plan
plan_of cards gamma limit file =
    plan_over cards gamma limit (margins_of file)

abbrev pub planned : ℕ → ℕ → ℕ → Content → Content
planned cards gamma limit file = record file { plan = Some (plan_of cards gamma limit file) }

-- a clean audit can be planned for a contest with this many records
pub record CanBePlanned (cards gamma limit records : ℕ) : Type 0 where
  pub some_cards : records ≤ cards
  pub most_cards : cards ≤ MOST_CARDS
  pub some_gamma : 1 ≤ gamma
  pub most_gamma : gamma ≤ GREATEST_GAMMA
  pub some_limit : 1 ≤ limit
  pub most_limit : limit ≤ GREATEST_LIMIT
