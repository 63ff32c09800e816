-- The risk limit of whole audits, from the words of their calls to the count. `SignedOffAreFew`, the last record, is the promise; the
-- records before it are the premises.
--
-- Think of all audits that could be held of one contest. They have the same files, limit and gamma, and each has its own session and seed.
-- If some way of breaking the ties of the cards elects a candidate other than the assertion file's winner, then one of these audits is
-- signed off on few of all sequences of draws.
--
-- Even after a look at its draws, each audit may choose the number of rounds and where they end, which of the drawn cards are missing, what
-- is noted for cards that weren't drawn, its words, and the names of its files. Several seeds may draw the same cards, but a sequence counts
-- only once.
--
-- The promise is a count, and says nothing about chance. An audit that begins again with another seed draws another sequence. If you may try
-- seeds until one audit is signed off, you will find one of the few.
use Rattle.std.specs.Prelude.{◌≡◌, ◌≢◌, ℕ, ◌*◌, ◌^◌, ◌≤◌, List, length, All, AllPairs, Some, IsTrue}
use Rattle.desk.specs.Desk.{File}
use Rattle.manifest.specs.Cards.{cards_of}
use Rattle.assertion_file.specs.Content.{candidate_count}
use Rattle.km_risk.specs.Exact.{millionths_in_one}
use Rattle.session_state.specs.Content.{Content}
use Rattle.session_state.specs.Sessions.{is_signed_off}
use Rattle.audit_session.specs.Laws.{AreTrueEntries}
use Rattle.audit_laws.specs.RiskLimit.{MayElectAnother}
use Rattle.raire_cli.specs.Audits.{GoesOn, drawn}
use Rattle.raire_cli.specs.Basis.{Basis, FileBytes, Say}

-- ---- what is given

-- What is announced before a seed is drawn: three files and the terms.
pub record Announced : Type 0 where
  -- the bytes of the ballots, the manifest and the assertion file
  pub bytes : FileBytes
  -- the ballots, the cards and the assertions that they say
  pub basis : Basis
  -- they say this about the contest of the assertion file
  pub say : Say (Some basis.file.contest) bytes basis
  -- The limit in millionths, and gamma in thousandths. They are announced because the promise doesn't hold for terms that are chosen after a
  -- look at the draws. For example, two cards are recorded for one candidate, but there is actually a tie. A limit of 250,600 allows 32 of the
  -- 128 sequences of seven draws. With gamma 1, 32 sequences may be signed off; with gamma 500, 12; and with either of the two gammas, 34.
  pub limit : ℕ
  pub gamma : ℕ

-- ---- what is counted

-- The cards have these actual rankings, and no audit goes beyond this number of draws.
module _ (announced : Announced) (actual : List (List ℕ)) (most : ℕ) where
  -- an audit of what was announced is signed off, and its seed draws this sequence
  pub record IsSignedOffOn (sequence : List ℕ) : Type 0 where
    -- a call continues its session, which is then signed off: `run` promises this if an audit ends with status 0 (`IsAudited`)
    pub words : List (List ℕ)
    pub files : List File
    pub next : Content
    pub on : GoesOn words files next
    pub signed_off : IsTrue (is_signed_off next.session)
    -- it is about the files that were announced
    pub same_files : on.bytes.basis ≡ announced.bytes
    -- its session has the terms that were announced
    pub same_limit : on.inputs.session.session.limit ≡ announced.limit
    pub same_gamma : on.inputs.session.session.gamma ≡ announced.gamma
    -- it ends at any one of the draws of the sequence
    pub few : on.asks.task.draws ≤ most
    -- each card that it drew is missing or was read as it is
    pub true_entries : AreTrueEntries actual on.inputs.entries (drawn on.inputs on.asks.task.draws)
    -- the sequence is what its seed draws, even after the audit ends
    pub of_seed : sequence ≡ drawn on.inputs most

-- ---- what is promised

-- The actual rankings, one for each card, may elect a candidate other than the assertion file's winner. Then an audit is signed off on at
-- most limit millionths of all cards ^ most sequences.
abbrev pub SignedOffAreFew : Type 0
SignedOffAreFew =
    (announced : Announced) (actual : List (List ℕ)) (most : ℕ) (sequences : List (List ℕ)) →
    MayElectAnother (candidate_count announced.basis.file) announced.basis.file.winner
    (length (cards_of announced.basis.batches)) actual →
    -- no two of the sequences are the same, and an audit is signed off on each
    AllPairs ◌≢◌ sequences →
    All (IsSignedOffOn announced actual most) sequences →
    length sequences * millionths_in_one
    ≤ announced.limit * length (cards_of announced.basis.batches) ^ most
