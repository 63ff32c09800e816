-- The draws of a clean audit, as an assertion file carries them.
use Rattle.std.proofs.Common.{◌≤◌, ◌*◌, ℕ, zero, suc, List, length, map, Option, Some, None, All, IfSome, MatchOption, subst, arith, ◌∙◌}
use Rattle.std.proofs.lemmas.List.{length-map}
use Rattle.std.proofs.lemmas.Simd.{map-map}
use Rattle.irv_base.specs.declared.limits.TheConstants.{GREATEST_LIMIT}
use Rattle.irv_base.proofs.Members.{from_map}
use Rattle.assertions.specs.declared.assertion.Claim.{Claim}
use Rattle.assertion_file.specs.Content.{IsDrawCount, IsSoundPlan}
use Rattle.km_risk.specs.declared.limits.TheConstants.{MILLIONTH}
use Rattle.km_risk.specs.Counts.{clean}
use Rattle.km_risk.specs.Printed.{printed_risk}
use Rattle.km_risk.specs.Clean.{clean_draws, IsLeast, IsNeverWithinMost}
use Rattle.km_risk.proofs.CleanDraws.{least_law}
use Rattle.cover_checker.specs.Draws.{IsPlanOf}
use Rattle.cover_checker.proofs.Held.{all-from_members}
use Rattle.contest_search.specs.Planned.{plan_over, CanBePlanned}

abbrev pub margin_in : Claim → ℕ
margin_in claim = claim.margin

module _ (cards gamma limit : ℕ) where
  -- without a draw the risk is one
  some : (margin n : ℕ) → limit ≤ GREATEST_LIMIT → printed_risk cards margin gamma (clean n) ≤ limit * MILLIONTH → 1 ≤ n
  unfolding printed_risk
  some margin zero few enough = absurd (omega (arith, few, enough))
  some margin (suc n) few enough = omega arith

  pub draws_counted : (margin : ℕ) → limit ≤ GREATEST_LIMIT → IfSome (clean_draws cards margin gamma limit) IsDrawCount
  draws_counted margin few = by (clean_draws cards margin gamma limit) (least_law cards margin gamma limit) where
    by : (draws : Option ℕ) → MatchOption draws (IsNeverWithinMost cards margin gamma limit) (IsLeast cards margin gamma limit) → IfSome draws IsDrawCount
    by None never = tt
    by (Some n) least = record { some = some margin n few least.enough; most = least.within_draws }

  abbrev pub draws_at : ℕ → Option ℕ
  draws_at margin = clean_draws cards margin gamma limit

  all_counted : (margins : List ℕ) → limit ≤ GREATEST_LIMIT → All (λ draws. IfSome draws IsDrawCount) (map draws_at margins)
  all_counted margins few =
      all-from_members (λ draws. IfSome draws IsDrawCount) (map draws_at margins) (λ draws among.
      let (margin, there, is) = from_map draws_at draws margins among in
      subst (λ draws. IfSome draws IsDrawCount) is (draws_counted margin few))

  -- the plan for the margins of claims has the clean draws of the claims
  pub plan_clean : (claims : List Claim) → IsPlanOf claims (plan_over cards gamma limit (map margin_in claims))
  plan_clean claims = map-map draws_at margin_in claims

  pub plan_sound : (records : ℕ) (claims : List Claim) → CanBePlanned cards gamma limit records →
      IsSoundPlan records (length claims) (plan_over cards gamma limit (map margin_in claims))
  plan_sound records claims can = record {
    some_cards = can.some_cards;
    most_cards = can.most_cards;
    some_gamma = can.some_gamma;
    most_gamma = can.most_gamma;
    some_limit = can.some_limit;
    most_limit = can.most_limit;
    each = length-map (map margin_in claims) draws_at ∙ length-map claims margin_in;
    draws = all_counted (map margin_in claims) can.most_limit;
  }
