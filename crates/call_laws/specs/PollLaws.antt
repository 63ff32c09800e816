-- The risk limit of whole polls, from the words of their calls to the count. `ConfirmedAreFew`, the last record, is the promise; the
-- records before it are the premises.
--
-- Think of all polls that could be held on the cards of a manifest. They have the same manifest, assertion file, limit and gamma, and each
-- has its own seed. If some way of breaking the ties of the cards elects a candidate other than the assertion file's winner, then one of
-- these polls confirms all claims on few of all sequences of draws.
--
-- No record of any card is read, and the margins of the file aren't used. The promise is a count, and says nothing about chance.
use Rattle.std.specs.Prelude.{◌≡◌, ◌≢◌, ℕ, ◌*◌, ◌^◌, ◌≤◌, List, length, All, AllPairs, Ok, IsTrue}
use Rattle.desk.specs.Desk.{File}
use Rattle.manifest.specs.Cards.{Batches, cards_of}
use Rattle.manifest.specs.Manifest.{manifest_of}
use Rattle.assertion_file.specs.Content.{Content, candidate_count}
use Rattle.assertion_file.specs.Reading.{assertion_file_of}
use Rattle.km_risk.specs.Exact.{millionths_in_one}
use Rattle.session_state.specs.Claims.{values_of}
use Rattle.audit_session.specs.Laws.{AreTrueEntries}
use Rattle.audit_laws.specs.RiskLimit.{MayElectAnother}
use Rattle.polling.specs.PollLimit.{MayBeConfirmed}
use Rattle.raire_cli.specs.Polls.{IsPollOf, cards, drawn, is_confirmed_by}

-- ---- a poll that confirms

-- If the drawn cards were read as they are, a poll that confirms all claims is among those that the risk limit of polls counts. This also
-- holds among longer sequences.
abbrev pub ConfirmedIsCounted : Type 0
ConfirmedIsCounted =
    (words : List (List ℕ)) (files : List File) (poll : IsPollOf words files)
    (actual : List (List ℕ)) (most : ℕ) →
    IsTrue (is_confirmed_by poll) → poll.asks.task.draws ≤ most →
    length actual ≡ cards poll.asks.task poll.inputs →
    AreTrueEntries actual poll.inputs.entries
    (drawn poll.asks.task poll.inputs poll.asks.task.draws) →
    MayBeConfirmed poll.asks.task.limit poll.asks.task.gamma (values_of poll.inputs.file) actual
    (drawn poll.asks.task poll.inputs most)

-- ---- what is given

-- What is announced before a seed is drawn: two files and the terms.
pub record AnnouncedPoll : Type 0 where
  -- the bytes of the manifest and of the assertion file
  pub manifest : List ℕ
  pub assertions : List ℕ
  -- the cards and the claims that they say
  pub batches : Batches
  pub file : Content
  pub says_cards : manifest_of manifest ≡ Ok batches
  pub says_claims : assertion_file_of assertions ≡ Ok file
  -- the limit in millionths, and gamma in thousandths
  pub limit : ℕ
  pub gamma : ℕ

-- ---- what is counted

-- The cards have these actual rankings, and no poll goes beyond this number of draws.
module _ (announced : AnnouncedPoll) (actual : List (List ℕ)) (most : ℕ) where
  -- a poll of what was announced confirms all claims, and its seed draws this sequence
  pub record IsConfirmedOn (sequence : List ℕ) : Type 0 where
    -- `run` promises this if a poll ends with status 0 (`IsPolled`)
    pub words : List (List ℕ)
    pub files : List File
    pub poll : IsPollOf words files
    pub confirmed : IsTrue (is_confirmed_by poll)
    -- it uses the files and the terms that were announced
    pub same_manifest : poll.bytes.manifest ≡ announced.manifest
    pub same_assertions : poll.bytes.assertions ≡ announced.assertions
    pub same_limit : poll.asks.task.limit ≡ announced.limit
    pub same_gamma : poll.asks.task.gamma ≡ announced.gamma
    -- it ends at any one of the draws of the sequence
    pub few : poll.asks.task.draws ≤ most
    -- each card that it drew is missing or was read as it is
    pub true_entries : AreTrueEntries actual poll.inputs.entries
        (drawn poll.asks.task poll.inputs poll.asks.task.draws)
    -- the sequence is what its seed draws, even after the poll ends
    pub of_seed : sequence ≡ drawn poll.asks.task poll.inputs most

-- ---- what is promised

-- The actual rankings, one for each card, may elect a candidate other than the assertion file's winner. Then a poll confirms all claims on
-- at most limit millionths of all cards ^ most sequences.
abbrev pub ConfirmedAreFew : Type 0
ConfirmedAreFew =
    (announced : AnnouncedPoll) (actual : List (List ℕ)) (most : ℕ)
    (sequences : List (List ℕ)) →
    MayElectAnother (candidate_count announced.file) announced.file.winner
    (length (cards_of announced.batches)) actual →
    -- no two of the sequences are the same, and a poll confirms all claims on each
    AllPairs ◌≢◌ sequences →
    All (IsConfirmedOn announced actual most) sequences →
    length sequences * millionths_in_one
    ≤ announced.limit * length (cards_of announced.batches) ^ most
