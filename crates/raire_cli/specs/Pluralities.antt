-- What it means for the session of an audit of a plurality contest to be opened and to continue.
use Rattle.std.specs.Prelude.{◌≡◌, ◌⊎◌, ◌↔◌, ℕ, List, [], length, Option, None, IfSome, Ok, IsTrue}
use Rattle.sha2.specs.Sha256.{sha256}
use Rattle.desk.specs.Desk.{File}
use Rattle.irv_base.specs.Names.{Id}
use Rattle.ballots.specs.Ballots.{BallotFile}
use Rattle.ballots.specs.Grammar.{ballots_of}
use Rattle.manifest.specs.Cards.{Batches, cards_of}
use Rattle.manifest.specs.Linked.{first_without_card, linked_of}
use Rattle.manifest.specs.Manifest.{manifest_of}
use Rattle.manifest.specs.declared.recorded.Recorded.{Recorded}
use Rattle.session_state.specs.Content.{Content, begun_with}
use Rattle.session_state.specs.Draws.{Audited}
use Rattle.session_state.specs.Inputs.{IsOf}
use Rattle.session_state.specs.Sessions.{is_signed_off}
use Rattle.session_state.specs.declared.digests.Digests.{Digests}
use Rattle.session_file.specs.Text.{session_text}
use Rattle.plurality.specs.Plural.{Outcome, claims_of, outcome_of}
use Rattle.plurality.specs.Plurality.{WinsPlurality}
use Rattle.cli_base.specs.Ends.{Writing, Took}
use Rattle.command_line.specs.declared.commands.Command.TheVariants.{AuditPlurality, OpenPlurality}
use Rattle.raire_cli.specs.Asks.{Asks}
use Rattle.raire_cli.specs.CardFiles.{AreCardFiles, CardBytes}
use Rattle.raire_cli.specs.NextRound.{IsNextRound, WereWithin}
use Rattle.raire_cli.specs.RoundFiles.{AreRoundFiles, RoundBytes, RoundInputs, SayRound}

-- ---- the contest and its cards

-- there is no assertion file, so its digest is that of no bytes
abbrev pub digests_of : CardBytes → Digests
digests_of bytes =
    record {
      ballots = sha256 bytes.ballots;
      manifest = sha256 bytes.manifest;
      assertions = sha256 [];
    }

-- the ballots, the cards, and the winner by first preferences with the margins
pub record Counted : Type 0 where
  pub ballots : BallotFile
  pub batches : Batches
  pub outcome : Outcome

-- the bytes say this, for this contest, or for the only one if none is named
pub record SayCounted (contest : Option Id) (bytes : CardBytes) (counted : Counted) : Type 0 where
  pub ballots : ballots_of bytes.ballots contest ≡ Ok counted.ballots
  pub manifest : manifest_of bytes.manifest ≡ Ok counted.batches
  -- each ballot has a card
  pub placed : first_without_card counted.batches counted.ballots ≡ None
  -- the winner has strictly more first preferences than each other candidate
  pub wins : WinsPlurality (length counted.ballots.candidates) counted.ballots.rankings
      counted.outcome.winner
  -- the losers are all the other candidates, and the margins are the differences
  pub outcome : outcome_of (length counted.ballots.candidates) counted.ballots.rankings
      ≡ Ok counted.outcome

-- ---- a session is opened

-- the words open this session
pub record OpensPlurality (words : List (List ℕ)) (files : List File)
    (session : Content) : Type 0 where
  pub asks : Asks OpenPlurality words
  pub bytes : CardBytes
  pub held : AreCardFiles asks.task.ballots asks.task.manifest files bytes
  pub counted : Counted
  pub say : SayCounted asks.task.contest bytes counted
  -- it has the contest, the cards, the margins of the count, the seed, limit and gamma that the words give, the digests, and no rounds
  pub is : session
      ≡ begun_with counted.ballots.contest (length (cards_of counted.batches))
      counted.outcome.margins asks.task.seed asks.task.limit asks.task.gamma (digests_of bytes)

-- ---- a session continues

module _ (inputs : RoundInputs Counted) where
  -- what is recorded for each card
  abbrev pub recorded : List Recorded
  recorded = linked_of inputs.basis.batches inputs.basis.ballots

  -- for each loser, the claim that the winner has more first preferences
  abbrev pub claims : List Audited
  claims = claims_of inputs.basis.outcome

-- the session that the words name continues, and this is the session afterward
pub record PluralGoesOn (words : List (List ℕ)) (files : List File)
    (next : Content) : Type 0 where
  pub asks : Asks AuditPlurality words
  pub bytes : RoundBytes CardBytes
  pub held : AreRoundFiles asks.task.session asks.task.seen
      (AreCardFiles asks.task.ballots asks.task.manifest) files bytes
  pub inputs : RoundInputs Counted
  pub say : SayRound SayCounted inputs.basis.batches inputs.basis.ballots.candidates bytes inputs
  -- the session has the files' digests, cards, contest and margins
  pub of_files : IsOf inputs.session (digests_of bytes.basis)
      (length (cards_of inputs.basis.batches)) inputs.basis.ballots.contest
      inputs.basis.outcome.margins
  pub is_next : IsNextRound inputs.session (recorded inputs) inputs.entries (claims inputs)
      asks.task.draws next

-- for each claim, the exact risk was within the limit after some number of the draws
abbrev pub WerePluralWithin : {words : List (List ℕ)} {files : List File} {next : Content} →
    PluralGoesOn words files next → Type 0
WerePluralWithin on =
    WereWithin on.inputs.session (recorded on.inputs) on.inputs.entries (claims on.inputs)
    on.asks.task.draws

-- ---- what `run` promises

-- Status 0 when the words open a plurality session: `out` has this session.
abbrev pub IsPluralityOpened : Option (List File) → List (List ℕ) → ℕ → Writing → Type 0
IsPluralityOpened held words status out =
    IfSome held (λ files. Asks OpenPlurality words → status ≡ 0 →
    (session : Content) × OpensPlurality words files session × Took out (session_text session))

-- Statuses 0 and 10 of a round: `out` has the session with one more round, which is the round of its files. The status is 0 exactly when
-- the session is signed off. In that case the exact risk of each claim was within the limit.
abbrev pub IsPluralityAudited : Option (List File) → List (List ℕ) → ℕ → Writing → Type 0
IsPluralityAudited held words status out =
    IfSome held (λ files. Asks AuditPlurality words → (status ≡ 0) ⊎ (status ≡ 10) →
    (next : Content) × (on : PluralGoesOn words files next) × Took out (session_text next)
    × ((status ≡ 0) ↔ IsTrue (is_signed_off next.session))
    × (status ≡ 0 → WerePluralWithin on))
