-- The risk limit of a poll. `PollLimit`, the last record, is the promise; the records before it are the premises. The terms (`AreTerms`)
-- and what is read from the cards (`AreReadings`) are defined in `session_state/specs/RiskOfValues.antt` and `Readings.antt`. Which
-- assertions prove a winner (`Cover`) and which cards don't elect that winner (`MayElectAnother`) are defined in
-- `audit_laws/specs/Claims.antt` and `RiskLimit.antt`. When a poll confirms (`is_confirmed`) is defined in `polling/specs/Polls.antt`.
--
-- A manifest of the cards and assertions are published. Cards are drawn by their numbers, each time from all of them. A drawn card is
-- looked for, and its ranking is read by hand. After any draw the poll may be looked at. Suppose that the cards don't elect the winner
-- that the assertions prove, or that a tie among them could be broken so that they don't. Then the poll confirms all assertions, at any
-- draw, on few of all sequences of n cards. Nothing is required of records or of margins.
--
-- The candidates and the winner are those of the assertions. In a poll they come from the assertion file, and so does the contest. That
-- these are the candidates and the contest of the cards is not part of the law, and no command can check it.
--
-- The assertions, the limit and gamma are given first, and the sequences are counted afterwards. So in a poll they are fixed and published
-- before the seed is known. Two choices of gamma together confirm on more sequences than either alone. Take two cards that are in truth a
-- tie, a limit of 250,600 millionths, and seven draws. Gamma 1 confirms on 32 of 128 sequences, gamma 500 confirms on 12, and at least one
-- of the two confirms on 34, but the limit allows 32. There is only one seed: a poll that begins again with another one is the same poll's
-- second try. The draws at which the poll is looked at may be left open.
--
-- The promise is the counting law of a comparison with another factor (`PollIsComparison` and `FactorLaw` in `polling/specs/Laws.antt`,
-- `ProductCountingLaw` in `km_risk/specs/Laws.antt`). It is a count, and says nothing about chance. It is up to the seed to make every
-- sequence as easy to draw as every other.
use Rattle.std.specs.Prelude.{◌≢◌, ℕ, ◌*◌, ◌^◌, ◌≤◌, List, length, map, take, sum_by, All, AllPairs, Contains, IsTrue}
use Rattle.assertions.specs.declared.assertion.Assertion.{Assertion}
use Rattle.assertions.specs.Assorter.{assorter_value}
use Rattle.km_risk.specs.Exact.{millionths_in_one}
use Rattle.km_risk.specs.Reach.{IsSequence}
use Rattle.assorters.specs.declared.seen.Seen.{Seen}
use Rattle.assorters.specs.Cards.{IsAssorter}
use Rattle.session_state.specs.Readings.{AreReadings}
use Rattle.session_state.specs.RiskOfValues.{AreTerms}
use Rattle.audit_laws.specs.Claims.{Cover}
use Rattle.audit_laws.specs.RiskLimit.{MayElectAnother}
use Rattle.polling.specs.Polls.{is_confirmed}

-- ---- what is counted

module _ (limit gamma : ℕ) (values : List (List ℕ → ℕ)) (actual : List (List ℕ)) where
  -- the poll can confirm all claims after some number of these draws; some cards may be missing, and the others are read as they are
  pub record MayBeConfirmed (draws : List ℕ) : Type 0 where
    pub seen : List Seen
    pub readings : AreReadings actual seen
    pub so_far : ℕ
    pub few : so_far ≤ length draws
    pub confirmed : IsTrue (is_confirmed limit gamma values seen (take so_far draws))

  -- it can do so on each of these sequences of n cards, no two of which are the same
  pub record AreConfirmed (n : ℕ) (sequences : List (List ℕ)) : Type 0 where
    pub drawn : All (IsSequence (length actual) n) sequences
    pub differ : AllPairs ◌≢◌ sequences
    pub each : All MayBeConfirmed sequences

-- ---- what is promised

-- the promise for claims with values from 0 to 2, one of which isn't true of the actual rankings: the mean of its values is at most 1
abbrev pub PollValuesLimit : Type 0
PollValuesLimit =
    (limit gamma n : ℕ) (values : List (List ℕ → ℕ)) (actual sequences : List (List ℕ))
    (value : List ℕ → ℕ) →
    AreTerms limit gamma → All IsAssorter values → Contains values value →
    sum_by value actual ≤ length actual →
    AreConfirmed limit gamma values actual n sequences →
    length sequences * millionths_in_one ≤ limit * length actual ^ n

-- the promise for assertions that prove a winner, if the actual rankings may elect another candidate
abbrev pub PollLimit : Type 0
PollLimit =
    (candidates winner limit gamma n : ℕ) (assertions : List Assertion)
    (actual sequences : List (List ℕ)) →
    Cover candidates winner assertions → AreTerms limit gamma →
    MayElectAnother candidates winner (length actual) actual →
    AreConfirmed limit gamma (map assorter_value assertions) actual n sequences →
    length sequences * millionths_in_one ≤ limit * length actual ^ n
