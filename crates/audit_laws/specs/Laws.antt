-- What the risk limit follows from.
use Rattle.std.specs.Prelude.{◌≡◌, ◌≢◌, ℕ, ◌*◌, ◌^◌, ◌≤◌, List, length, sum_by, count_by, Contains, None, IsTrue}
use Rattle.std.specs.List.{range_with_len}
use Rattle.irv_base.specs.Orders.{is_order}
use Rattle.irv_base.specs.Tabulation.{is_possible}
use Rattle.assertions.specs.declared.assertion.Assertion.{Assertion}
use Rattle.assertions.specs.Assorter.{assorter_value}
use Rattle.assertions.specs.Suffixes.{IsAlternative}
use Rattle.ballots.specs.Ballots.{BallotFile, IsSound as AreSound}
use Rattle.assertion_file.specs.Content.{Content as FileContent, IsSound as IsSoundFile, candidate_count}
use Rattle.cover_checker.specs.Holds.{Holds}
use Rattle.cover_checker.specs.Outcomes.{IsWinner}
use Rattle.manifest.specs.Cards.{Batches, AreBatches, cards_of}
use Rattle.manifest.specs.Linked.{linked_of, first_without_card}
use Rattle.manifest.specs.declared.recorded.Recorded.{Recorded}
use Rattle.km_risk.specs.Exact.{millionths_in_one}
use Rattle.km_risk.specs.Reach.{sequences}
use Rattle.assorters.specs.declared.seen.Seen.{Seen}
use Rattle.session_state.specs.Claims.{audited}
use Rattle.session_state.specs.Readings.{AreReadings}
use Rattle.session_state.specs.RiskOfValues.{AreTerms, AreSignedOff}
use Rattle.session_state.specs.Draws.{is_signed_off_on}
use Rattle.audit_laws.specs.Claims.{AreAuditable, Cover}
use Rattle.audit_laws.specs.RiskLimit.{MayElectAnother}

-- ---- the risk limit by claims

-- three files that were read and fit together: each ballot has a card, and the assertion file holds for the ballots
pub record FitTogether (batches : Batches) (ballots : BallotFile)
    (file : FileContent) : Type 0 where
  pub manifest_sound : AreBatches batches.ids batches.counts
  pub ballots_sound : AreSound ballots
  pub file_sound : IsSoundFile file
  pub linked : first_without_card batches ballots ≡ None
  pub holds : Holds ballots file

-- the claims of files like these are fit for an audit of the linked records
abbrev pub HeldIsAuditable : Type 0
HeldIsAuditable =
    (batches : Batches) (ballots : BallotFile) (file : FileContent) →
    FitTogether batches ballots file → AreAuditable file (linked_of batches ballots)

-- if the actual rankings may elect another candidate, each cover has an assertion that isn't true of them: the mean of its values is at
-- most 1
abbrev pub SomeIsUntrue : Type 0
SomeIsUntrue =
    (n winner cards : ℕ) (assertions : List Assertion) (actual : List (List ℕ)) →
    Cover n winner assertions → MayElectAnother n winner cards actual →
    (a : Assertion) × Contains assertions a × (sum_by (assorter_value a) actual ≤ length actual)

-- the risk limit holds for such claims, however they were made
abbrev pub ClaimsRiskLimit : Type 0
ClaimsRiskLimit =
    (limit gamma draws : ℕ) (file : FileContent) (recorded : List Recorded)
    (actual signed : List (List ℕ)) →
    AreAuditable file recorded → AreTerms limit gamma →
    MayElectAnother (candidate_count file) file.winner (length recorded) actual →
    AreSignedOff limit gamma (audited file) recorded actual draws signed →
    length signed * millionths_in_one ≤ limit * length recorded ^ draws

-- the risk limit as a count of the listed sequences, if what is read from the cards is fixed before anything is drawn
abbrev pub CountedRiskLimit : Type 0
CountedRiskLimit =
    (limit gamma draws : ℕ) (file : FileContent) (recorded : List Recorded)
    (actual : List (List ℕ)) (seen : List Seen) →
    AreAuditable file recorded → AreTerms limit gamma →
    MayElectAnother (candidate_count file) file.winner (length recorded) actual →
    AreReadings actual seen →
    count_by (is_signed_off_on limit gamma (audited file) recorded seen)
    (sequences (range_with_len 1 (length recorded)) draws) * millionths_in_one
    ≤ limit * length recorded ^ draws

-- the risk limit holds for files that fit together, no matter which check showed that they do
abbrev pub HeldRiskLimit : Type 0
HeldRiskLimit =
    (limit gamma n : ℕ) (batches : Batches) (ballots : BallotFile) (file : FileContent)
    (actual sequences : List (List ℕ)) →
    FitTogether batches ballots file → AreTerms limit gamma →
    MayElectAnother (candidate_count file) file.winner (length (cards_of batches)) actual →
    AreSignedOff limit gamma (audited file) (linked_of batches ballots) actual n sequences →
    length sequences * millionths_in_one ≤ limit * length (cards_of batches) ^ n

-- ---- the wrong winner

-- the plain case: the tabulated order of the actual rankings elects another candidate
abbrev pub OtherWinnerIsWrong : Type 0
OtherWinnerIsWrong =
    (n winner other cards : ℕ) (actual : List (List ℕ)) → length actual ≡ cards →
    IsWinner n actual other → other ≢ winner →
    MayElectAnother n winner cards actual

-- if each possible order of the actual rankings elects another candidate, then one does, because there is always a possible order
abbrev pub EachElectsAnother : Type 0
EachElectsAnother =
    (n winner cards : ℕ) (actual : List (List ℕ)) → length actual ≡ cards →
    ((order : List ℕ) → IsTrue (is_order n order) → IsTrue (is_possible actual order) →
    IsAlternative n winner order) →
    MayElectAnother n winner cards actual
