-- The laws of several contests: each is read, and ends, only by its own ballots and by what is seen for it, and has its risk limit.
use Rattle.std.specs.Prelude.{◌≡◌, ◌≤◌, ◌*◌, ◌^◌, ℕ, Bool, true, false, List, [], ◌∷◌, filter, length, map, slice_get, Some, None, Ok, Option, IsSomeAnd, IsTrue, ⊤}
use Rattle.csv_rows.specs.Rows.{Fields}
use Rattle.irv_base.specs.Names.{Id, is_same, all_differ}
use Rattle.ballots.specs.Ballots.{BallotFile, IsSound as AreSound}
use Rattle.ballots.specs.Grammar.{ballots_of}
use Rattle.assertion_file.specs.Content.{Content, candidate_count}
use Rattle.manifest.specs.Cards.{AreBatches, Batches, cards_of}
use Rattle.manifest.specs.Linked.{first_without_card, linked_of}
use Rattle.km_risk.specs.Exact.{millionths_in_one}
use Rattle.km_risk.specs.Reach.{IsSequence}
use Rattle.km_risk.specs.declared.draws.Counts.{Counts}
use Rattle.seen_file.specs.Reading.{seen_by_records}
use Rattle.seen_file.specs.Seen.{Entry}
use Rattle.session_state.specs.Claims.{audited}
use Rattle.session_state.specs.RiskOfValues.{AreSignedOff, AreTerms, MayBeSignedOff}
use Rattle.audit_session.specs.Going.{drawn_cards}
use Rattle.audit_session.specs.Laws.{AreTrueEntries}
use Rattle.audit_laws.specs.RiskLimit.{MayElectAnother}
use Rattle.contest_search.specs.declared.found.Found.TheVariants.{Certificate}
use Rattle.contest_set.specs.Ends.{AreEnds, AreWithinLimits, EndsAs, Finds, IsAudited}
use Rattle.contest_set.specs.SeenBy.{contest_ids, seen_by_rows}
use Rattle.contest_set.specs.declared.end.ContestEnd.{ContestEnd}
use Rattle.contest_set.specs.declared.end.ContestEnd.TheVariants.{Tied, Spent, Audited}
use Rattle.contest_set.specs.declared.terms.SharedTerms.{SharedTerms}

-- ---- what is seen for a contest

-- the record is of this contest
abbrev pub is_about : Id → Fields → Bool
is_about contest [] = false
is_about contest (id ∷ []) = false
is_about contest (id ∷ of ∷ rest) = is_same of contest

abbrev pub without_contest : Fields → Fields
without_contest [] = []
without_contest (id ∷ []) = id ∷ []
without_contest (id ∷ of ∷ rest) = id ∷ rest

abbrev pub records_about : Id → List Fields → List Fields
records_about contest rows = filter (is_about contest) rows

-- what is seen for each contest is what its own records say, without the contest's id
abbrev pub SeenIsEach : Type 0
SeenIsEach =
    (batches : Batches) (list : List BallotFile) (rows : List Fields) (each : List (List Entry)) →
    IsTrue (all_differ (contest_ids list)) → seen_by_rows batches list rows ≡ Ok each →
    map (λ ballots. seen_by_records batches ballots.candidates
    (map without_contest (records_about ballots.contest rows))) list
    ≡ map Ok each

-- the same is seen for a contest without the other contests and their records
abbrev pub SeenAlone : Type 0
SeenAlone =
    (batches : Batches) (list : List BallotFile) (rows : List Fields) (each : List (List Entry))
    (place : ℕ) (ballots : BallotFile) (entries : List Entry) →
    IsTrue (all_differ (contest_ids list)) → seen_by_rows batches list rows ≡ Ok each →
    slice_get list place ≡ Some ballots → slice_get each place ≡ Some entries →
    seen_by_rows batches (ballots ∷ []) (records_about ballots.contest rows) ≡ Ok (entries ∷ [])

-- ---- how a contest ends

-- a contest ends among the others as it does if it is audited alone, by any number of workers
abbrev pub EndsAlone : Type 0
EndsAlone =
    (batches : Batches) (terms : SharedTerms) (workers : ℕ) (list : List BallotFile)
    (seen : List (List Entry)) (ends : List ContestEnd) (place : ℕ) (ballots : BallotFile)
    (entries : List Entry) →
    AreEnds batches terms list seen ends →
    slice_get list place ≡ Some ballots → slice_get seen place ≡ Some entries →
    IsSomeAnd (slice_get ends place)
    (λ end. AreEnds batches (record terms { workers = workers }) (ballots ∷ []) (entries ∷ [])
    (end ∷ []))

-- the same end, unless a budget runs out
abbrev pub AreSame : ContestEnd → ContestEnd → Type 0
AreSame (Spent last order margin) other = ⊤
AreSame (Tied round tied tally) (Spent last order margin) = ⊤
AreSame (Tied round tied tally) (Tied round' tied' tally') =
    (round ≡ round') × (tied ≡ tied') × (tally ≡ tally')
AreSame (Tied round tied tally) (Audited file counts risks signed) = ⊥
AreSame (Audited file counts risks signed) (Spent last order margin) = ⊤
AreSame (Audited file counts risks signed) (Tied round tied tally) = ⊥
AreSame (Audited file counts risks signed) (Audited file' counts' risks' signed') =
    (file ≡ file') × (counts.items ≡ counts'.items) × (risks.items ≡ risks'.items)
    × (signed ≡ signed')

-- a contest has one end, unless its budget runs out
abbrev pub OneEnd : Type 0
OneEnd =
    (batches : Batches) (terms : SharedTerms) (ballots : BallotFile) (seen : List Entry)
    (end other : ContestEnd) →
    EndsAs batches terms ballots seen end → EndsAs batches terms ballots seen other →
    AreSame end other

-- ---- the risk limit of each contest by itself

-- a contest that is signed off is counted, at any number of draws up to the maximum, if what is seen of the drawn cards for it is true of
-- their actual rankings
abbrev pub EndIsCounted : Type 0
EndIsCounted =
    (batches : Batches) (terms : SharedTerms) (most : ℕ) (ballots : BallotFile) (seen : List Entry)
    (file : Content) (counts : List Counts) (risks : List ℕ) (actual : List (List ℕ)) →
    AreWithinLimits terms → terms.draws ≤ most → 1 ≤ length (cards_of batches) →
    length actual ≡ length (cards_of batches) →
    IsAudited batches terms ballots seen file counts risks true →
    let drawn : ℕ → List ℕ = drawn_cards terms.seed (length (cards_of batches)) in
    AreTrueEntries actual seen (drawn terms.draws) →
    IsSequence (length (cards_of batches)) most (drawn most)
    × MayBeSignedOff terms.limit terms.gamma (audited file) (linked_of batches ballots) actual
    (drawn most)

-- if the actual rankings of the cards may elect another candidate, then the audit of a contest that was read may be signed off on at most
-- limit millionths of all sequences of n cards
abbrev pub EachRiskLimit : Type 0
EachRiskLimit =
    (terms : SharedTerms) (n : ℕ) (bytes : List ℕ) (asked : Option Id) (batches : Batches)
    (ballots : BallotFile) (file : Content) (actual signed : List (List ℕ)) →
    AreBatches batches.ids batches.counts → AreSound ballots →
    ballots_of bytes asked ≡ Ok ballots → first_without_card batches ballots ≡ None →
    Finds terms ballots (Certificate file) → AreTerms terms.limit terms.gamma →
    MayElectAnother (candidate_count file) file.winner (length (cards_of batches)) actual →
    AreSignedOff terms.limit terms.gamma (audited file) (linked_of batches ballots) actual n
    signed →
    length signed * millionths_in_one ≤ terms.limit * length (cards_of batches) ^ n
