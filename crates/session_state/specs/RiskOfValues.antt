-- The risk limit of any claims, each a function of rankings and a margin. The promise is `ValuesRiskLimit`, at the end; the records before it
-- are the premises. It doesn't say what the claims are about.
use Rattle.std.specs.Prelude.{◌≡◌, ◌≢◌, ℕ, ◌*◌, ◌^◌, ◌<◌, ◌≤◌, List, length, sum_by, count_by, All, AllPairs, Contains, IsTrue, pos}
use Rattle.std.specs.List.{range_with_len}
use Rattle.manifest.specs.declared.recorded.Recorded.{Recorded}
use Rattle.km_risk.specs.Exact.{millionths_in_one}
use Rattle.km_risk.specs.Reach.{IsSequence, sequences}
use Rattle.assorters.specs.declared.seen.Seen.{Seen}
use Rattle.assorters.specs.Cards.{IsAssorter, margin_over}
use Rattle.session_state.specs.Readings.{AreReadings}
use Rattle.session_state.specs.Sessions.{Session, is_signed_off}
use Rattle.session_state.specs.Draws.{Audited, IsSessionOf, is_signed_off_on}

-- ---- what is given

-- the values of each claim are 0, 1 and 2, and its margin over the records is at least one vote
pub record AreClaims (claims : List Audited) (recorded : List Recorded) : Type 0 where
  pub assorters : All (λ claim. IsAssorter claim.value) claims
  pub margins : All (λ claim. pos claim.margin ≡ margin_over claim.value recorded) claims
  pub positive : All (λ claim. 1 ≤ claim.margin) claims

-- the risk limit in millionths, and gamma in thousandths
pub record AreTerms (limit gamma : ℕ) : Type 0 where
  pub below_one : limit < millionths_in_one
  pub positive : 1 ≤ gamma

-- the claim isn't true of the actual rankings: they have a mean value of at most one
abbrev pub IsUntrue : Audited → List (List ℕ) → Type 0
IsUntrue claim actual = sum_by claim.value actual ≤ length actual

-- ---- what is counted

module _ (limit gamma : ℕ) (claims : List Audited) (recorded : List Recorded)
    (actual : List (List ℕ)) where
  -- the audit can be signed off on these draws: some cards may be missing, and the others are read as they are; the rounds may end anywhere,
  -- even after a look at the draws; and the session of the draws is signed off at its last round
  pub record MayBeSignedOff (draws : List ℕ) : Type 0 where
    pub seen : List Seen
    pub readings : AreReadings actual seen
    pub session : Session
    pub drawn : IsSessionOf limit gamma claims recorded seen draws session
    pub signed_off : IsTrue (is_signed_off session)

  -- a session may be signed off on each of these sequences of n cards, and no two of them are the same
  pub record AreSignedOff (n : ℕ) (signed : List (List ℕ)) : Type 0 where
    pub drawn : All (IsSequence (length recorded) n) signed
    pub differ : AllPairs ◌≢◌ signed
    pub each : All MayBeSignedOff signed

-- ---- what is promised

-- if a claim isn't true, these are at most limit millionths of all sequences
abbrev pub ValuesRiskLimit : Type 0
ValuesRiskLimit =
    (limit gamma n : ℕ) (claims : List Audited) (recorded : List Recorded)
    (actual signed : List (List ℕ)) (claim : Audited) →
    AreTerms limit gamma → AreClaims claims recorded → length actual ≡ length recorded →
    Contains claims claim → IsUntrue claim actual →
    AreSignedOff limit gamma claims recorded actual n signed →
    length signed * millionths_in_one ≤ limit * length recorded ^ n

-- the same as a count of the listed sequences, if what is read on the cards is fixed before anything is drawn
abbrev pub CountedValuesRiskLimit : Type 0
CountedValuesRiskLimit =
    (limit gamma n : ℕ) (claims : List Audited) (recorded : List Recorded)
    (actual : List (List ℕ)) (seen : List Seen) (claim : Audited) →
    AreTerms limit gamma → AreClaims claims recorded → length actual ≡ length recorded →
    Contains claims claim → IsUntrue claim actual → AreReadings actual seen →
    count_by (is_signed_off_on limit gamma claims recorded seen)
    (sequences (range_with_len 1 (length recorded)) n) * millionths_in_one
    ≤ limit * length recorded ^ n
