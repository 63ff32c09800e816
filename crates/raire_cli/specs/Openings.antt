-- What it means for the session of an audit to be opened.
use Rattle.std.specs.Prelude.{◌≡◌, ℕ, List, length, Option, IfSome}
use Rattle.desk.specs.Desk.{File}
use Rattle.manifest.specs.Cards.{cards_of}
use Rattle.session_state.specs.Content.{Content, begun}
use Rattle.session_file.specs.Text.{session_text}
use Rattle.cli_base.specs.Ends.{Writing, Took}
use Rattle.command.specs.declared.open.OpenTask.{OpenTask}
use Rattle.command_line.specs.declared.commands.Command.TheVariants.{Open}
use Rattle.raire_cli.specs.Asks.{Asks}
use Rattle.raire_cli.specs.Basis.{AreHeld, Basis, BelongTogether, FileBytes, FileNames, Say, digests_of}

-- the names of the files that the session is to be about
abbrev pub names_of : OpenTask → FileNames
names_of task =
    record { ballots = task.ballots; manifest = task.manifest; assertions = task.assertions }

-- ---- the session

-- the words open this session
pub record Opens (words : List (List ℕ)) (files : List File) (session : Content) : Type 0 where
  pub asks : Asks Open words
  pub bytes : FileBytes
  pub held : AreHeld (names_of asks.task) files bytes
  pub basis : Basis
  pub say : Say asks.task.contest bytes basis
  pub together : BelongTogether basis
  -- it has the assertion file's contest and margins, the manifest's cards, the seed, limit and gamma that the words give, the files' digests,
  -- and no rounds
  pub is : session ≡ begun basis.file.contest (length (cards_of basis.batches)) basis.file asks.task.seed
      asks.task.limit asks.task.gamma (digests_of bytes)

-- ---- what `run` promises

-- Status 0 of `open`: `out` has the session that the words open.
abbrev pub IsOpened : Option (List File) → List (List ℕ) → ℕ → Writing → Type 0
IsOpened held words status out = IfSome held (λ files. Asks Open words → status ≡ 0 →
    (session : Content) × Opens words files session × Took out (session_text session))
