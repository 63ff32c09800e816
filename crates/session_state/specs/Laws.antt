-- The laws of sessions.
use Rattle.std.specs.Prelude.{◌≡◌, ◌↔◌, ℕ, ◌-◌, ◌<◌, ◌≤◌, List, [], map, length, take, slice_index_or, All, Option, IfSome, IsTrue}
use Rattle.irv_base.specs.Names.{Id}
use Rattle.manifest.specs.declared.recorded.Recorded.{Recorded}
use Rattle.km_risk.specs.Exact.{is_within, millionths_in_one}
use Rattle.assorters.specs.declared.seen.Seen.{Seen}
use Rattle.assorters.specs.declared.seen.Seen.TheVariants.{Missing}
use Rattle.assorters.specs.Cards.{IsAssorter, discrepancy_of}
use Rattle.session_state.specs.Content.{Content}
use Rattle.session_state.specs.Inputs.{HasFacts, has_facts}
use Rattle.session_state.specs.Sessions.{Session, IsSession, is_signed_off}
use Rattle.session_state.specs.Draws.{Audited, IsSessionOf, Agrees, IsSignedOffOn, is_signed_off_on, seen_of_all}
use Rattle.session_state.specs.Readings.{IsReading, AreReadings}

-- a session of draws keeps the invariants of a session, and its counts are those of the draws
abbrev pub SessionLaw : Type 0
SessionLaw =
    (limit gamma : ℕ) (claims : List Audited) (recorded : List Recorded) (seen : List Seen)
    (draws : List ℕ) (session : Session) →
    1 ≤ length claims → All (λ claim. IsAssorter claim.value) claims →
    All (λ claim. (1 ≤ claim.margin) × (claim.margin ≤ length recorded)) claims →
    (IsSessionOf limit gamma claims recorded seen draws session
    ↔ (IsSession session × Agrees limit gamma claims recorded seen draws session))

-- a session that is signed off has confirmed each claim: after some of the draws, its exact risk was within the limit
abbrev pub SignedOffLaw : Type 0
SignedOffLaw =
    (limit gamma : ℕ) (claims : List Audited) (recorded : List Recorded) (seen : List Seen)
    (draws : List ℕ) (session : Session) →
    1 ≤ length recorded → 1 ≤ gamma → limit < millionths_in_one →
    All (λ claim. IsAssorter claim.value) claims →
    All (λ claim. claim.margin ≤ length recorded) claims →
    IsSessionOf limit gamma claims recorded seen draws session → IsTrue (is_signed_off session) →
    All
    (λ claim. (k : ℕ) × (k ≤ length draws)
    × IsTrue (is_within (length recorded) claim.margin gamma limit
    (map (discrepancy_of claim.value recorded seen) (take k draws))))
    claims

-- wherever its rounds end, no session of draws is signed off if the session with a round after each draw isn't
abbrev pub EveryDrawLaw : Type 0
EveryDrawLaw =
    (limit gamma : ℕ) (claims : List Audited) (recorded : List Recorded) (seen : List Seen)
    (draws : List ℕ) →
    IsSignedOffOn limit gamma claims recorded seen draws
    ↔ IsTrue (is_signed_off_on limit gamma claims recorded seen draws)

-- readings of some cards are readings of all, and are kept
abbrev pub PartlySeenLaw : Type 0
PartlySeenLaw =
    (looked_at : ℕ → Option Seen) (actual : List (List ℕ)) →
    ((card : ℕ) → 1 ≤ card → card ≤ length actual →
    IfSome (looked_at card) (IsReading (slice_index_or actual (card - 1) []))) →
    AreReadings actual (seen_of_all looked_at (length actual))
    × ((card : ℕ) → 1 ≤ card → card ≤ length actual →
    IfSome (looked_at card)
    (λ seen. slice_index_or (seen_of_all looked_at (length actual)) (card - 1) Missing ≡ seen))

-- a session has some facts exactly if the test says so
abbrev pub FactsLaw : Type 0
FactsLaw =
    (content : Content) (cards : ℕ) (contest : Id) (margins : List ℕ) →
    HasFacts content cards contest margins ↔ IsTrue (has_facts content cards contest margins)
