-- How the audit of a contest ends, by its own ballots and by what is seen of the cards for it. A search finds something, and then there is
-- one round of the draws that all contests share.
use Rattle.std.specs.Prelude.{◌≡◌, ◌≤◌, ◌*◌, ℕ, nat_le, Bool, List, zip, length, None}
use Rattle.std.specs.List.{AllZip, list_all}
use Rattle.irv_base.specs.declared.limits.TheConstants.{GREATEST_GAMMA, GREATEST_LIMIT, MOST_DRAWS, MOST_WORKERS}
use Rattle.budget.specs.declared.budget.Budget.TheVariants.{Nodes}
use Rattle.ballots.specs.Ballots.{BallotFile}
use Rattle.assertion_file.specs.Content.{Content}
use Rattle.manifest.specs.Cards.{Batches}
use Rattle.manifest.specs.Linked.{linked_of}
use Rattle.manifest.specs.declared.recorded.Recorded.{Recorded}
use Rattle.km_risk.specs.declared.draws.Counts.{Counts}
use Rattle.km_risk.specs.declared.limits.TheConstants.{MILLIONTH}
use Rattle.session_state.specs.Claims.{audited}
use Rattle.session_state.specs.Draws.{round_to}
use Rattle.session_state.specs.Sessions.{Round}
use Rattle.audit_session.specs.Going.{all_seen, drawn_cards}
use Rattle.audit_session.specs.Refusals.{without_record}
use Rattle.seen_file.specs.Seen.{Entry}
use Rattle.contest_search.specs.Found.{FoundIn}
use Rattle.contest_search.specs.declared.found.Found.{Found}
use Rattle.contest_search.specs.declared.found.Found.TheVariants.{Certificate, Tie as FoundTie, Spent as FoundSpent}
use Rattle.contest_set.specs.declared.end.ContestEnd.{ContestEnd}
use Rattle.contest_set.specs.declared.end.ContestEnd.TheVariants.{Tied, Spent, Audited}
use Rattle.contest_set.specs.declared.terms.SharedTerms.{SharedTerms}

pub record AreWithinLimits (terms : SharedTerms) : Type 0 where
  pub some_draws : 1 ≤ terms.draws
  pub most_draws : terms.draws ≤ MOST_DRAWS
  pub some_limit : 1 ≤ terms.limit
  pub most_limit : terms.limit ≤ GREATEST_LIMIT
  pub some_gamma : 1 ≤ terms.gamma
  pub most_gamma : terms.gamma ≤ GREATEST_GAMMA
  pub some_workers : 1 ≤ terms.workers
  pub most_workers : terms.workers ≤ MOST_WORKERS

-- each risk is within the limit
abbrev pub are_confirmed : ℕ → List ℕ → Bool
are_confirmed limit risks = list_all (λ risk. nat_le risk (limit * MILLIONTH)) risks

-- what a search of a contest finds, on these terms
abbrev pub Finds : SharedTerms → BallotFile → Found → Type 0
Finds terms ballots found = FoundIn (Nodes terms.nodes) ballots found

-- the round of all draws over the claims of a file, if this is recorded and this is seen of the cards
abbrev pub round_over : SharedTerms → List Recorded → List Entry → Content → Round
round_over terms recorded seen file =
    let cards : ℕ = length recorded in
    round_to terms.gamma (audited file) recorded (all_seen seen cards)
    (drawn_cards terms.seed cards terms.draws) terms.draws

module _ (batches : Batches) (terms : SharedTerms) where
  -- the contest has a winner, each drawn card has its record, and the claims have these counts and risks
  pub record IsAudited (ballots : BallotFile) (seen : List Entry) (file : Content)
      (counts : List Counts) (risks : List ℕ) (signed : Bool) : Type 0 where
    pub found : Finds terms ballots (Certificate file)
    pub none_unseen :
        without_record terms.seed (length (linked_of batches ballots)) seen terms.draws ≡ None
    pub counts_are : counts ≡ (round_over terms (linked_of batches ballots) seen file).counts
    pub risks_are : risks ≡ (round_over terms (linked_of batches ballots) seen file).risks
    pub signed_off : signed ≡ are_confirmed terms.limit risks

  -- the audit of one contest ends this way
  abbrev pub EndsAs : BallotFile → List Entry → ContestEnd → Type 0
  EndsAs ballots seen (Tied round tied tally) = Finds terms ballots (FoundTie round tied tally)
  EndsAs ballots seen (Spent last order margin) =
      Finds terms ballots (FoundSpent last order margin)
  EndsAs ballots seen (Audited file counts risks signed) =
      IsAudited ballots seen file counts.items risks.items signed

  -- each contest ends this way, by what is seen for it
  abbrev pub AreEnds : List BallotFile → List (List Entry) → List ContestEnd → Type 0
  AreEnds list seen ends = AllZip (λ one end. EndsAs one.0 one.1 end) (zip list seen) ends
