-- The risk limit of the audit of a plurality contest, on one page. `PluralityRiskLimit`, the last record, is the promise; the records
-- before it are the premises. The terms (`AreTerms`) and what is counted (`AreSignedOff`) are defined in
-- `session_state/specs/RiskOfValues.antt`, for claims of any kind: this is one case of `ValuesRiskLimit` there.
--
-- Ballots and a manifest of the cards are published. The ballots say who has won. For each loser there is a claim that the winner has more
-- first preferences (`specs/Plural.antt`). Cards are drawn by their numbers, each time from all of them. A drawn card is looked for, its
-- ranking is read by hand, and it is compared with its record. At the end of a round the audit may be signed off. Suppose that on the
-- cards another candidate has as many first preferences as the winner, or more. Then the audit can be signed off, at any draw, on few of
-- all sequences of n cards.
--
-- The files, the limit and gamma are given first, and the sequences are counted afterwards. So in an audit they are fixed and published
-- before the seed is known, as in an audit by assertions (`audit_laws/specs/RiskLimit.antt` has numbers). There is only one seed: an audit
-- that begins again with another one is the same audit's second try. The ends of the rounds may be left open.
--
-- The promise is a count, and says nothing about chance. It is up to the seed to make every sequence as easy to draw as every other.
use Rattle.std.specs.Prelude.{◌≢◌, ◌≡◌, ℕ, ◌*◌, ◌^◌, ◌<◌, ◌≤◌, List, length, None, Ok}
use Rattle.ballots.specs.Ballots.{BallotFile, IsSound as AreSound}
use Rattle.manifest.specs.Cards.{Batches, AreBatches, cards_of}
use Rattle.manifest.specs.Linked.{linked_of, first_without_card}
use Rattle.km_risk.specs.Exact.{millionths_in_one}
use Rattle.session_state.specs.RiskOfValues.{AreTerms, AreSignedOff}
use Rattle.plurality.specs.Plurality.{first_preferences}
use Rattle.plurality.specs.Plural.{Outcome, claims_of, outcome_of}

-- ---- what is given

-- two files, and the outcome of the ballots
pub record ArePublished (batches : Batches) (ballots : BallotFile)
    (outcome : Outcome) : Type 0 where
  -- what the readers guarantee about a manifest and about ballots
  pub manifest_sound : AreBatches batches.ids batches.counts
  pub ballots_sound : AreSound ballots
  -- each ballot has a card
  pub linked : first_without_card batches ballots ≡ None
  -- one candidate has more first preferences than any other
  pub counted : outcome_of (length ballots.candidates) ballots.rankings ≡ Ok outcome

-- the actual rankings of the cards, whatever they are: another candidate has as many first preferences as the winner, or more
pub record HaveAnother (n winner cards : ℕ) (actual : List (List ℕ)) : Type 0 where
  pub one_each : length actual ≡ cards
  pub other : ℕ
  pub below : other < n
  pub differs : other ≢ winner
  pub as_many : first_preferences actual winner ≤ first_preferences actual other

-- ---- what is promised

-- the audit can be signed off on at most limit millionths of all cards ^ n sequences
abbrev pub PluralityRiskLimit : Type 0
PluralityRiskLimit =
    (limit gamma n : ℕ) (batches : Batches) (ballots : BallotFile) (outcome : Outcome)
    (actual signed : List (List ℕ)) →
    ArePublished batches ballots outcome → AreTerms limit gamma →
    HaveAnother (length ballots.candidates) outcome.winner (length (cards_of batches)) actual →
    AreSignedOff limit gamma (claims_of outcome) (linked_of batches ballots) actual n signed →
    length signed * millionths_in_one ≤ limit * length (cards_of batches) ^ n
