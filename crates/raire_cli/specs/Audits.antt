-- What it means for the session of an audit to continue.
use Rattle.std.specs.Prelude.{◌≡◌, ◌⊎◌, ◌↔◌, ℕ, List, length, Option, IfSome, IsTrue}
use Rattle.desk.specs.Desk.{File}
use Rattle.manifest.specs.Cards.{cards_of}
use Rattle.manifest.specs.Linked.{linked_of}
use Rattle.manifest.specs.declared.recorded.Recorded.{Recorded}
use Rattle.session_state.specs.Content.{Content}
use Rattle.session_state.specs.Draws.{Audited}
use Rattle.session_state.specs.Claims.{audited}
use Rattle.session_state.specs.Inputs.{IsOfInputs}
use Rattle.session_state.specs.Sessions.{is_signed_off}
use Rattle.audit_session.specs.Going.{drawn_cards}
use Rattle.session_file.specs.Text.{session_text}
use Rattle.cli_base.specs.Ends.{Writing, Took}
use Rattle.command.specs.declared.audit.AuditTask.{AuditTask}
use Rattle.command_line.specs.declared.commands.Command.TheVariants.{Audit}
use Rattle.raire_cli.specs.Asks.{Asks}
use Rattle.raire_cli.specs.NextRound.{IsNextRound, WereWithin}
use Rattle.raire_cli.specs.RoundFiles.{AreRoundFiles, RoundBytes, RoundInputs, SayRound}
use Rattle.raire_cli.specs.Basis.{AreHeld, Basis, BelongTogether, FileBytes, FileNames, Say, digests_of}

-- the names of the files that the session is about
abbrev pub names_of : AuditTask → FileNames
names_of task =
    record { ballots = task.ballots; manifest = task.manifest; assertions = task.assertions }

-- ---- the session continues

module _ (inputs : RoundInputs Basis) where
  -- what is recorded for each card
  abbrev pub recorded : List Recorded
  recorded = linked_of inputs.basis.batches inputs.basis.ballots

  abbrev pub cards : ℕ
  cards = length recorded

  abbrev pub claims : List Audited
  claims = audited inputs.basis.file

  -- the cards that the seed of the session draws
  abbrev pub drawn : ℕ → List ℕ
  drawn draws = drawn_cards inputs.session.seed cards draws

-- the session that the words name continues, and this is the session afterward
pub record GoesOn (words : List (List ℕ)) (files : List File) (next : Content) : Type 0 where
  pub asks : Asks Audit words
  pub bytes : RoundBytes FileBytes
  pub held : AreRoundFiles asks.task.session asks.task.seen (AreHeld (names_of asks.task)) files
      bytes
  pub inputs : RoundInputs Basis
  pub say : SayRound Say inputs.basis.batches inputs.basis.file.candidates bytes inputs
  -- the session has the files' digests, cards, contest and margins
  pub of_files : IsOfInputs inputs.session (digests_of bytes.basis)
      (length (cards_of inputs.basis.batches)) inputs.basis.file
  pub together : BelongTogether inputs.basis
  pub is_next : IsNextRound inputs.session (recorded inputs) inputs.entries (claims inputs)
      asks.task.draws next

-- for each assertion, the exact risk was within the limit after some number of the draws
abbrev pub WereAllWithin : {words : List (List ℕ)} {files : List File} {next : Content} →
    GoesOn words files next → Type 0
WereAllWithin on =
    WereWithin on.inputs.session (recorded on.inputs) on.inputs.entries (claims on.inputs)
    on.asks.task.draws

-- ---- what `run` promises

-- Statuses 0 and 10 of an audit: `out` has the session with one more round, which is the round of its files. The status is 0 exactly when
-- the session is signed off. In that case the exact risk of each assertion was within the limit.
abbrev pub IsAudited : Option (List File) → List (List ℕ) → ℕ → Writing → Type 0
IsAudited held words status out =
    IfSome held (λ files. Asks Audit words → (status ≡ 0) ⊎ (status ≡ 10) →
    (next : Content) × (on : GoesOn words files next) × Took out (session_text next)
    × ((status ≡ 0) ↔ IsTrue (is_signed_off next.session))
    × (status ≡ 0 → WereAllWithin on))
