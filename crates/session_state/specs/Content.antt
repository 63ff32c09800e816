-- What a session says: its contest, seed, files and rounds.
use Rattle.std.specs.Prelude.{ℕ, ◌≤◌, List, [], ◌∷◌, ◌++◌, All}
use Rattle.irv_base.specs.Names.{Id}
use Rattle.irv_base.specs.declared.limits.TheConstants.{GREATEST_GAMMA, GREATEST_LIMIT, MOST_CARDS, MOST_DRAWS}
use Rattle.assertion_file.specs.Content.{Content as FileContent, margins_of}
use Rattle.session_state.specs.declared.digests.Digests.{Digests}
use Rattle.session_state.specs.Sessions.{Round, Session, IsSession}

pub record Content : Type 0 where
  pub contest : Id
  pub seed : List ℕ
  pub digests : Digests
  pub session : Session

-- the session's numbers are within the limits of an audit
pub record IsWithinLimits (session : Session) : Type 0 where
  pub most_cards : session.cards ≤ MOST_CARDS
  pub some_limit : 1 ≤ session.limit
  pub most_limit : session.limit ≤ GREATEST_LIMIT
  pub some_gamma : 1 ≤ session.gamma
  pub most_gamma : session.gamma ≤ GREATEST_GAMMA
  pub most_draws : All (λ round. round.draws ≤ MOST_DRAWS) session.rounds

pub record IsSound (content : Content) : Type 0 where
  pub limits : IsWithinLimits content.session
  pub session : IsSession content.session

-- ---- how it begins and continues

-- the session with these margins and no rounds
abbrev pub begun_with : Id → ℕ → List ℕ → List ℕ → ℕ → ℕ → Digests → Content
begun_with contest cards margins seed limit gamma digests = record {
  contest = contest;
  seed = seed;
  digests = digests;
  session =
      record { cards = cards; margins = margins; limit = limit; gamma = gamma; rounds = [] };
}

-- the same with the margins of an assertion file
abbrev pub begun : Id → ℕ → FileContent → List ℕ → ℕ → ℕ → Digests → Content
begun contest cards file seed limit gamma digests =
    begun_with contest cards (margins_of file) seed limit gamma digests

abbrev pub with_round : Content → Round → Content
with_round content round =
    record content {
      session = record content.session { rounds = content.session.rounds ++ round ∷ [] };
    }
