-- The risk limit of whole audits of a plurality contest, from the words of their calls to the count. `PluralSignedOffAreFew`, at the end, is
-- the promise; the records before it are the premises. They are the same as for audits by assertions (`SignedOff.antt`), with a different
-- count of who won.
use Rattle.std.specs.Prelude.{◌≡◌, ◌≢◌, ℕ, ◌*◌, ◌^◌, ◌≤◌, List, length, All, AllPairs, Some, IsTrue}
use Rattle.desk.specs.Desk.{File}
use Rattle.manifest.specs.Cards.{cards_of}
use Rattle.km_risk.specs.Exact.{millionths_in_one}
use Rattle.session_state.specs.Content.{Content}
use Rattle.session_state.specs.RiskOfValues.{MayBeSignedOff}
use Rattle.session_state.specs.Sessions.{is_signed_off}
use Rattle.audit_session.specs.Laws.{AreTrueEntries}
use Rattle.plurality.specs.RiskLimit.{HaveAnother}
use Rattle.raire_cli.specs.CardFiles.{CardBytes}
use Rattle.raire_cli.specs.NextRound.{drawn}
use Rattle.raire_cli.specs.Pluralities.{Counted, PluralGoesOn, SayCounted, claims, recorded}
use Rattle.raire_cli.specs.RoundFiles.{RoundInputs}

-- the cards that the seed of the session draws
abbrev pub drawn_in : RoundInputs Counted → ℕ → List ℕ
drawn_in inputs = drawn inputs.session (recorded inputs) inputs.entries

-- ---- a session that is signed off

-- If the drawn cards were read as they are, a session that an audit of a plurality contest signs off is among those that the risk limit
-- counts. This also holds among longer sequences.
abbrev pub PluralSignedOffIsCounted : Type 0
PluralSignedOffIsCounted =
    (words : List (List ℕ)) (files : List File) (next : Content)
    (on : PluralGoesOn words files next) (actual : List (List ℕ)) (most : ℕ) →
    IsTrue (is_signed_off next.session) → on.asks.task.draws ≤ most →
    length actual ≡ length (recorded on.inputs) →
    AreTrueEntries actual on.inputs.entries (drawn_in on.inputs on.asks.task.draws) →
    MayBeSignedOff on.inputs.session.session.limit on.inputs.session.session.gamma
    (claims on.inputs) (recorded on.inputs) actual (drawn_in on.inputs most)

-- ---- what is given

-- What is announced before a seed is drawn: two files and the terms.
pub record AnnouncedPlurality : Type 0 where
  -- the bytes of the ballots and of the manifest
  pub bytes : CardBytes
  -- the ballots of the contest, the cards and the winner that these bytes say
  pub counted : Counted
  pub say : SayCounted (Some counted.ballots.contest) bytes counted
  -- the limit in millionths, and gamma in thousandths
  pub limit : ℕ
  pub gamma : ℕ

-- ---- what is counted

-- The cards have these actual rankings, and no audit goes beyond this number of draws.
module _ (announced : AnnouncedPlurality) (actual : List (List ℕ)) (most : ℕ) where
  -- an audit of what was announced is signed off, and its seed draws this sequence
  pub record IsPluralSignedOffOn (sequence : List ℕ) : Type 0 where
    -- `run` promises this if an audit of a plurality contest ends with status 0 (`IsPluralityAudited`)
    pub words : List (List ℕ)
    pub files : List File
    pub next : Content
    pub on : PluralGoesOn words files next
    pub signed_off : IsTrue (is_signed_off next.session)
    -- it is about the files that were announced, and its session has the contest and the terms
    pub same_files : on.bytes.basis ≡ announced.bytes
    pub same_contest : on.inputs.session.contest ≡ announced.counted.ballots.contest
    pub same_limit : on.inputs.session.session.limit ≡ announced.limit
    pub same_gamma : on.inputs.session.session.gamma ≡ announced.gamma
    -- it ends at any one of the draws of the sequence
    pub few : on.asks.task.draws ≤ most
    -- each card that it drew is missing or was read as it is
    pub true_entries :
        AreTrueEntries actual on.inputs.entries (drawn_in on.inputs on.asks.task.draws)
    -- the sequence is what its seed draws, even after the audit ends
    pub of_seed : sequence ≡ drawn_in on.inputs most

-- ---- what is promised

-- On the cards another candidate has at least as many first preferences as the winner. Then an audit is signed off on at most limit
-- millionths of all cards ^ most sequences.
abbrev pub PluralSignedOffAreFew : Type 0
PluralSignedOffAreFew =
    (announced : AnnouncedPlurality) (actual : List (List ℕ)) (most : ℕ)
    (sequences : List (List ℕ)) →
    HaveAnother (length announced.counted.ballots.candidates) announced.counted.outcome.winner
    (length (cards_of announced.counted.batches)) actual →
    -- no two of the sequences are the same, and an audit is signed off on each
    AllPairs ◌≢◌ sequences →
    All (IsPluralSignedOffOn announced actual most) sequences →
    length sequences * millionths_in_one
    ≤ announced.limit * length (cards_of announced.counted.batches) ^ most
