-- The risk limit of a poll that is looked at after each draw. `EachLimit`, the last record, is the promise; the records before it are the
-- premises. They are those of `PollLimit`, with a gamma for each claim. When a poll like this confirms (`is_each_confirmed`) is defined in
-- `polling/specs/Each.antt`.
--
-- The candidates and the winner are those of the assertions, and the gammas are given first. So in a poll they are fixed and published
-- before the seed is known. A gamma may follow from the margin that the assertion file states. It may not follow from what is seen.
use Rattle.std.specs.Prelude.{◌≡◌, ◌≢◌, ℕ, ◌*◌, ◌^◌, ◌<◌, ◌≤◌, List, length, map, take, sum_by, All, AllPairs, Contains, IsTrue}
use Rattle.assertions.specs.declared.assertion.Assertion.{Assertion}
use Rattle.assertions.specs.Assorter.{assorter_value}
use Rattle.km_risk.specs.Exact.{millionths_in_one}
use Rattle.km_risk.specs.Reach.{IsSequence}
use Rattle.assorters.specs.declared.seen.Seen.{Seen}
use Rattle.assorters.specs.Cards.{IsAssorter}
use Rattle.seen_file.specs.Seen.{Entry}
use Rattle.session_state.specs.Readings.{AreReadings}
use Rattle.audit_session.specs.Going.{all_seen, drawn_cards}
use Rattle.audit_session.specs.Laws.{AreTrueEntries}
use Rattle.audit_laws.specs.Claims.{Cover}
use Rattle.audit_laws.specs.RiskLimit.{MayElectAnother}
use Rattle.polling.specs.Each.{Polled, is_each_confirmed}

-- ---- what is counted

module _ (limit : ℕ) (claims : List Polled) (actual : List (List ℕ)) where
  -- the poll can confirm each claim within some number of these draws; some cards may be missing, and the others are read as they are
  pub record MayBeEachConfirmed (draws : List ℕ) : Type 0 where
    pub seen : List Seen
    pub readings : AreReadings actual seen
    pub so_far : ℕ
    pub few : so_far ≤ length draws
    pub confirmed : IsTrue (is_each_confirmed limit claims seen (take so_far draws))

  -- it can do so on each of these sequences of n cards, no two of which are the same
  pub record AreEachConfirmed (n : ℕ) (sequences : List (List ℕ)) : Type 0 where
    pub drawn : All (IsSequence (length actual) n) sequences
    pub differ : AllPairs ◌≢◌ sequences
    pub each : All MayBeEachConfirmed sequences

-- the limit in millionths, and the gamma of each claim in thousandths
pub record AreEachTerms (limit : ℕ) (claims : List Polled) : Type 0 where
  pub below_one : limit < millionths_in_one
  pub positive : All (λ claim. 1 ≤ claim.gamma) claims

-- ---- what is promised

-- the promise for claims with values from 0 to 2, one of which isn't true of the actual rankings: the mean of its values is at most 1
abbrev pub EachValuesLimit : Type 0
EachValuesLimit =
    (limit n : ℕ) (claims : List Polled) (actual sequences : List (List ℕ)) (claim : Polled) →
    AreEachTerms limit claims → All (λ claim. IsAssorter claim.value) claims →
    Contains claims claim → sum_by claim.value actual ≤ length actual →
    AreEachConfirmed limit claims actual n sequences →
    length sequences * millionths_in_one ≤ limit * length actual ^ n

-- the promise for assertions that prove a winner, if the actual rankings may elect another candidate
abbrev pub EachLimit : Type 0
EachLimit =
    (candidates winner limit n : ℕ) (assertions : List Assertion) (claims : List Polled)
    (actual sequences : List (List ℕ)) →
    Cover candidates winner assertions →
    map (λ claim. claim.value) claims ≡ map assorter_value assertions → AreEachTerms limit claims →
    MayElectAnother candidates winner (length actual) actual →
    AreEachConfirmed limit claims actual n sequences →
    length sequences * millionths_in_one ≤ limit * length actual ^ n

-- ---- which polls it counts

-- a poll that confirms each claim by the draws of a seed is counted, if each drawn card was read as it was; it is also counted among longer
-- sequences, however many draws the seed then gives
abbrev pub EachIsCounted : Type 0
EachIsCounted =
    (limit draws most : ℕ) (seed : List ℕ) (claims : List Polled) (entries : List Entry)
    (actual : List (List ℕ)) →
    1 ≤ length actual → draws ≤ most →
    AreTrueEntries actual entries (drawn_cards seed (length actual) draws) →
    IsTrue (is_each_confirmed limit claims (all_seen entries (length actual))
    (drawn_cards seed (length actual) draws)) →
    IsSequence (length actual) most (drawn_cards seed (length actual) most)
    × MayBeEachConfirmed limit claims actual (drawn_cards seed (length actual) most)
