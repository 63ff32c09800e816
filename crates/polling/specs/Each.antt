-- A poll that is looked at after each draw: for each claim, the first draw after which its printed risk is within the limit.
--
-- Each claim has its own gamma, which its file and the terms of the poll fix before a card is drawn.
use Rattle.std.specs.Prelude.{ℕ, ◌+◌, ◌-◌, ◌*◌, ◌/◌, ◌≤◌, min, max, Bool, List, [], ◌∷◌, length, map, take, Option, is_some, unwrap_or}
use Rattle.std.specs.List.{list_all}
use Rattle.assertions.specs.Assorter.{assorter_value}
use Rattle.assertions.specs.declared.assertion.Claim.{Claim}
use Rattle.assertion_file.specs.Content.{Content}
use Rattle.km_risk.specs.AsDrawn.{first_within, risk_as_drawn}
use Rattle.km_risk.specs.declared.limits.TheConstants.{GREATEST_EACH_GAMMA}
use Rattle.assorters.specs.declared.seen.Seen.{Seen}
use Rattle.assorters.specs.Cards.{seen_value}
use Rattle.audit_session.specs.Going.{seen_at}
use Rattle.polling.specs.Polls.{counted}
use Rattle.polling.specs.declared.each.ClaimEnd.{ClaimEnd}

-- ---- what is polled

-- a claim: a function of rankings, and its gamma in thousandths
pub record Polled : Type 0 where
  pub value : List ℕ → ℕ
  pub gamma : ℕ

pub record IsGamma (gamma : ℕ) : Type 0 where
  pub some : 1 ≤ gamma
  pub most : gamma ≤ GREATEST_EACH_GAMMA

abbrev pub IsMarginOf : Claim → Type 0
IsMarginOf claim = 1 ≤ claim.margin

-- the gamma that fits a margin of this many votes among this many cards: 500 (cards / margin - 1), rounded to the nearest whole number,
-- and brought within its limits
abbrev pub best_gamma : ℕ → ℕ → ℕ
best_gamma cards margin =
    min GREATEST_EACH_GAMMA (max 1 ((1000 * (cards - margin) + margin) / (2 * margin)))

-- the given gamma, or, if there is none, the one that fits the margin of the claim
abbrev pub gamma_of : Option ℕ → ℕ → Claim → ℕ
gamma_of gamma cards claim = unwrap_or gamma (best_gamma cards claim.margin)

abbrev pub polled_claim : Option ℕ → ℕ → Claim → Polled
polled_claim gamma cards claim =
    record { value = assorter_value claim.assertion; gamma = gamma_of gamma cards claim }

-- the claims of a file, over this many cards
abbrev pub polled_of : Option ℕ → ℕ → Content → List Polled
polled_of gamma cards file = map (polled_claim gamma cards) file.claims

-- ---- a claim, by the seen values of the drawn cards

module _ (limit gamma : ℕ) (values : List ℕ) where
  -- the draw that confirms it: the first one after which its printed risk is within the limit
  abbrev pub confirmed_at : Option ℕ
  confirmed_at = first_within 1 1 gamma limit values

  -- the number of draws it takes: those up to that draw, or all if there is none
  abbrev pub draws_of : ℕ
  draws_of = unwrap_or confirmed_at (length values)

  -- its counts and its risk after them
  abbrev pub end_of : ClaimEnd
  end_of = record {
    gamma = gamma;
    counts = counted (take draws_of values);
    risk = risk_as_drawn 1 1 gamma (take draws_of values);
    confirmed = confirmed_at;
  }

abbrev pub has_confirmed : ClaimEnd → Bool
has_confirmed end = is_some end.confirmed

-- ---- all claims

abbrev pub most_of : List ℕ → ℕ
most_of [] = 0
most_of (n ∷ ns) = max n (most_of ns)

-- what the cards seen for these draws count as for a claim
abbrev pub values_of : List Seen → List ℕ → Polled → List ℕ
values_of seen drawn claim = map (λ card. seen_value claim.value (seen_at seen card)) drawn

module _ (limit : ℕ) (claims : List Polled) (seen : List Seen) (drawn : List ℕ) where
  abbrev pub ends_of : List ClaimEnd
  ends_of =
      map (λ claim. end_of limit claim.gamma (values_of seen drawn claim)) claims

  -- every claim is confirmed by some draw
  abbrev pub is_each_confirmed : Bool
  is_each_confirmed =
      list_all (λ claim. is_some (confirmed_at limit claim.gamma (values_of seen drawn claim)))
      claims

  -- the number of draws needed: those up to the one that confirms the last claim, or all if some claim isn't confirmed
  abbrev pub asked : ℕ
  asked =
      most_of (map (λ claim. draws_of limit claim.gamma (values_of seen drawn claim)) claims)
