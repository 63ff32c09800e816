-- The risk limit of whole polls with a look after each draw, from the words of their calls to the count. `EachConfirmedAreFew`, at the end,
-- is the promise; the records before it are the premises.
--
-- Think of all polls that could be held on the cards of a manifest. They have the same manifest, assertion file, limit and gamma, and each
-- has its own seed. If some way of breaking the ties of the cards elects a candidate other than the assertion file's winner, then one of
-- these polls confirms all claims on few of all sequences of draws.
--
-- No record of any card is read. The margins of the file choose the gammas if the words say so, and are used for nothing else. The promise is
-- a count, and says nothing about chance.
use Rattle.std.specs.Prelude.{◌≡◌, ◌≢◌, ℕ, ◌*◌, ◌^◌, ◌≤◌, List, length, All, AllPairs, Ok, Option, IsTrue}
use Rattle.desk.specs.Desk.{File}
use Rattle.manifest.specs.Cards.{Batches, cards_of}
use Rattle.manifest.specs.Manifest.{manifest_of}
use Rattle.assertion_file.specs.Content.{Content, candidate_count}
use Rattle.assertion_file.specs.Reading.{assertion_file_of}
use Rattle.km_risk.specs.Exact.{millionths_in_one}
use Rattle.audit_session.specs.Laws.{AreTrueEntries}
use Rattle.audit_laws.specs.RiskLimit.{MayElectAnother}
use Rattle.polling.specs.EachLimit.{MayBeEachConfirmed}
use Rattle.raire_cli.specs.PollsEach.{IsEachPollOf, cards, claims, drawn, is_confirmed_by}

-- ---- a poll that confirms

-- If the drawn cards were read as they are, a poll that confirms all claims is among those that the risk limit of polls counts. This also
-- holds among longer sequences.
abbrev pub EachConfirmedIsCounted : Type 0
EachConfirmedIsCounted =
    (words : List (List ℕ)) (files : List File) (poll : IsEachPollOf words files)
    (actual : List (List ℕ)) (most : ℕ) →
    IsTrue (is_confirmed_by poll) → poll.asks.task.draws ≤ most →
    length actual ≡ cards poll.asks.task poll.inputs →
    AreTrueEntries actual poll.inputs.entries
    (drawn poll.asks.task poll.inputs poll.asks.task.draws) →
    MayBeEachConfirmed poll.asks.task.limit (claims poll.asks.task poll.inputs) actual
    (drawn poll.asks.task poll.inputs most)

-- ---- what is given

-- What is announced before a seed is drawn: two files and the terms.
pub record AnnouncedEachPoll : Type 0 where
  -- the bytes of the manifest and of the assertion file
  pub manifest : List ℕ
  pub assertions : List ℕ
  -- the cards and the claims that they say
  pub batches : Batches
  pub file : Content
  pub says_cards : manifest_of manifest ≡ Ok batches
  pub says_claims : assertion_file_of assertions ≡ Ok file
  -- the limit in millionths, and gamma in thousandths, or none if each claim has the gamma that fits its margin
  pub limit : ℕ
  pub gamma : Option ℕ

-- ---- what is counted

-- The cards have these actual rankings, and no poll goes beyond this number of draws.
module _ (announced : AnnouncedEachPoll) (actual : List (List ℕ)) (most : ℕ) where
  -- a poll of what was announced confirms all claims, and its seed draws this sequence
  pub record IsEachConfirmedOn (sequence : List ℕ) : Type 0 where
    -- `run` promises this if a poll ends with status 0 (`IsPolledEach`)
    pub words : List (List ℕ)
    pub files : List File
    pub poll : IsEachPollOf words files
    pub confirmed : IsTrue (is_confirmed_by poll)
    -- it uses the files and the terms that were announced
    pub same_manifest : poll.bytes.manifest ≡ announced.manifest
    pub same_assertions : poll.bytes.assertions ≡ announced.assertions
    pub same_limit : poll.asks.task.limit ≡ announced.limit
    pub same_gamma : poll.asks.task.gamma ≡ announced.gamma
    -- it ends at any one of the draws of the sequence
    pub few : poll.asks.task.draws ≤ most
    -- each card that it drew is missing or was read as it is
    pub true_entries : AreTrueEntries actual poll.inputs.entries
        (drawn poll.asks.task poll.inputs poll.asks.task.draws)
    -- the sequence is what its seed draws, even after the poll ends
    pub of_seed : sequence ≡ drawn poll.asks.task poll.inputs most

-- ---- what is promised

-- The actual rankings, one for each card, may elect a candidate other than the assertion file's winner. Then a poll confirms all claims on
-- at most limit millionths of all cards ^ most sequences.
abbrev pub EachConfirmedAreFew : Type 0
EachConfirmedAreFew =
    (announced : AnnouncedEachPoll) (actual : List (List ℕ)) (most : ℕ)
    (sequences : List (List ℕ)) →
    MayElectAnother (candidate_count announced.file) announced.file.winner
    (length (cards_of announced.batches)) actual →
    -- no two of the sequences are the same, and a poll confirms all claims on each
    AllPairs ◌≢◌ sequences →
    All (IsEachConfirmedOn announced actual most) sequences →
    length sequences * millionths_in_one
    ≤ announced.limit * length (cards_of announced.batches) ^ most
