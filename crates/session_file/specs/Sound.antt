-- Whether a session keeps the invariants of a session, as a test.
use Rattle.std.specs.Prelude.{ℕ, Bool, true, ◌&&◌, ◌==◌, nat_le, nat_lt, List, [], ◌∷◌, length, map}
use Rattle.std.specs.List.{list_all}
use Rattle.std.specs.Cmp.Lexicographic.{pointwise}
use Rattle.irv_base.specs.Names.{is_name}
use Rattle.irv_base.specs.declared.limits.TheConstants.{GREATEST_GAMMA, GREATEST_LIMIT, MOST_CARDS, MOST_DRAWS}
use Rattle.sampler.specs.Seeds.{is_seed}
use Rattle.km_risk.specs.Counts.{draws_in}
use Rattle.session_state.specs.Content.{Content}
use Rattle.session_state.specs.Sessions.{Round, Session, risks_of}

-- ---- numbers within the limits of an audit

abbrev pub is_cards : ℕ → Bool
is_cards cards = nat_le cards MOST_CARDS

abbrev pub is_limit : ℕ → Bool
is_limit limit = nat_le 1 limit && nat_le limit GREATEST_LIMIT

abbrev pub is_gamma : ℕ → Bool
is_gamma gamma = nat_le 1 gamma && nat_le gamma GREATEST_GAMMA

abbrev pub is_draws : ℕ → Bool
is_draws draws = nat_le 1 draws && nat_le draws MOST_DRAWS

-- ---- margins

abbrev pub is_margin : ℕ → ℕ → Bool
is_margin cards margin = nat_le 1 margin && nat_le margin cards

-- there is a margin, and each is 1 to the number of cards
abbrev pub are_margins : ℕ → List ℕ → Bool
are_margins cards margins = nat_le 1 (length margins) && list_all (is_margin cards) margins

-- ---- rounds

-- the first number is above this one, and every other number is above the one before it
abbrev pub rises_above : ℕ → List ℕ → Bool
rises_above before [] = true
rises_above before (draws ∷ later) = nat_lt before draws && rises_above draws later

-- there are counts for each claim
abbrev pub has_counts : List ℕ → Round → Bool
has_counts margins round = length round.counts == length margins

-- the counts of each claim are over all draws
abbrev pub counts_all : Round → Bool
counts_all round = list_all (λ counts. draws_in counts == round.draws) round.counts

module _ (cards gamma : ℕ) (margins : List ℕ) (round : Round) where
  -- each claim has a risk, which is the printed risk of its counts
  abbrev pub has_risks : Bool
  has_risks = pointwise ◌==◌ round.risks (risks_of cards gamma margins round.counts)

  abbrev pub is_round : Bool
  is_round = is_draws round.draws && has_counts margins round && counts_all round && has_risks

-- ---- the session

abbrev pub are_rounds : Session → Bool
are_rounds session =
    rises_above 0 (map (λ round. round.draws) session.rounds)
    && list_all (is_round session.cards session.gamma session.margins) session.rounds

abbrev pub is_session : Session → Bool
is_session session =
    is_cards session.cards && is_limit session.limit && is_gamma session.gamma
    && are_margins session.cards session.margins && are_rounds session

abbrev pub is_sound : Content → Bool
is_sound content = is_name content.contest && is_seed content.seed && is_session content.session
