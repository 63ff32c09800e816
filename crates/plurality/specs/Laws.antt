-- The laws of plurality contests, and what their risk limit follows from.
use Rattle.std.specs.Prelude.{◌≡◌, ◌≢◌, ◌⊎◌, ◌↔◌, ℕ, ◌+◌, ◌*◌, ◌^◌, ◌<◌, ◌≤◌, List, length, sum_by, count_by, All, Ok, Err}
use Rattle.std.specs.List.{range_with_len}
use Rattle.irv_base.specs.Candidates.{all_but}
use Rattle.ballots.specs.Ballots.{BallotFile}
use Rattle.manifest.specs.Cards.{Batches}
use Rattle.manifest.specs.Linked.{linked_of}
use Rattle.manifest.specs.declared.recorded.Recorded.{Recorded}
use Rattle.km_risk.specs.Exact.{millionths_in_one}
use Rattle.km_risk.specs.Reach.{sequences}
use Rattle.assorters.specs.declared.seen.Seen.{Seen}
use Rattle.session_state.specs.Draws.{is_signed_off_on}
use Rattle.session_state.specs.Readings.{AreReadings}
use Rattle.session_state.specs.RiskOfValues.{AreClaims, AreTerms, AreSignedOff}
use Rattle.plurality.specs.Plurality.{WinsPlurality, first_preferences}
use Rattle.plurality.specs.Plural.{Outcome, Tie, claims_of, lead, outcome_of, values_of, won_by}
use Rattle.plurality.specs.Ties.{AreTied}
use Rattle.plurality.specs.RiskLimit.{ArePublished, HaveAnother}

-- ==== the outcome

-- a candidate has won exactly if every other candidate has fewer first preferences
abbrev pub WonLaw : Type 0
WonLaw =
    (n winner : ℕ) (records : List (List ℕ)) → winner < n →
    (WinsPlurality n records winner ↔ (outcome_of n records ≡ Ok (won_by n records winner)))

-- there is a tie exactly if there is no outcome, and the tie is this one
abbrev pub TieLaw : Type 0
TieLaw =
    (n : ℕ) (records : List (List ℕ)) (tie : Tie) → 1 ≤ n →
    ((outcome_of n records ≡ Err tie) ↔ AreTied n records tie)

-- ==== the claims

-- what the records count for adds up to one for each record, plus the difference in first preferences
abbrev pub LeadLaw : Type 0
LeadLaw =
    (winner loser : ℕ) (records : List (List ℕ)) → winner ≢ loser →
    sum_by (lead winner loser) records + first_preferences records loser
    ≡ length records + first_preferences records winner

-- for any rankings, all claims are true, each with a mean value of more than 1, exactly if the winner has strictly more first preferences
-- than every other candidate
abbrev pub WinnerIsFirst : Type 0
WinnerIsFirst =
    (n : ℕ) (outcome : Outcome) (records : List (List ℕ)) →
    outcome.losers ≡ all_but n outcome.winner →
    (All (λ value. length records < sum_by value records) (values_of outcome)
    ↔ WinsPlurality n records outcome.winner)

-- for any rankings, either the winner has won, or another candidate has at least as many first preferences
abbrev pub WonOrAnother : Type 0
WonOrAnother =
    (n winner : ℕ) (actual : List (List ℕ)) →
    WinsPlurality n actual winner ⊎ HaveAnother n winner (length actual) actual

-- ==== the risk limit by claims

-- the claims of published files are fit for an audit of the linked records
abbrev pub PublishedAreClaims : Type 0
PublishedAreClaims =
    (batches : Batches) (ballots : BallotFile) (outcome : Outcome) →
    ArePublished batches ballots outcome →
    AreClaims (claims_of outcome) (linked_of batches ballots)

-- a winner among n candidates whose rivals are all the others, with one margin for each
pub record HasRivals (n : ℕ) (outcome : Outcome) : Type 0 where
  pub losers_are : outcome.losers ≡ all_but n outcome.winner
  pub margin_each : length outcome.margins ≡ length outcome.losers

-- the risk limit holds for such claims, however they were made, if each margin is that of its claim over the records
abbrev pub ClaimsRiskLimit : Type 0
ClaimsRiskLimit =
    (limit gamma n draws : ℕ) (outcome : Outcome) (recorded : List Recorded)
    (actual signed : List (List ℕ)) →
    HasRivals n outcome → AreClaims (claims_of outcome) recorded → AreTerms limit gamma →
    HaveAnother n outcome.winner (length recorded) actual →
    AreSignedOff limit gamma (claims_of outcome) recorded actual draws signed →
    length signed * millionths_in_one ≤ limit * length recorded ^ draws

-- the risk limit as a count of the listed sequences, if what is read from the cards is fixed before anything is drawn
abbrev pub CountedRiskLimit : Type 0
CountedRiskLimit =
    (limit gamma n draws : ℕ) (outcome : Outcome) (recorded : List Recorded)
    (actual : List (List ℕ)) (seen : List Seen) →
    HasRivals n outcome → AreClaims (claims_of outcome) recorded → AreTerms limit gamma →
    HaveAnother n outcome.winner (length recorded) actual → AreReadings actual seen →
    count_by (is_signed_off_on limit gamma (claims_of outcome) recorded seen)
    (sequences (range_with_len 1 (length recorded)) draws) * millionths_in_one
    ≤ limit * length recorded ^ draws
