-- Which polls end with their result.
use Rattle.std.specs.Prelude.{◌≡◌, ◌⊎◌, ℕ, List, Option, None, IfSome}
use Rattle.desk.specs.Desk.{File}
use Rattle.manifest.specs.Manifest.{manifest_of}
use Rattle.assertion_file.specs.Reading.{assertion_file_of}
use Rattle.seen_file.specs.Reading.{seen_of}
use Rattle.audit_session.specs.Refusals.{unseen_draw}
use Rattle.polling.specs.Each.{asked}
use Rattle.cli_base.specs.Ends.{Writing}
use Rattle.cli_base.specs.Statuses.{IsQuiet}
use Rattle.command_line.specs.declared.commands.Command.TheVariants.{Poll, PollEach}
use Rattle.poll_command.specs.Poll.{uncovered}
use Rattle.raire_cli.specs.Asks.{Asks}
use Rattle.raire_cli.specs.Held.{Says}
use Rattle.raire_cli.specs.Polls.{PollInputs, cards}
use Rattle.raire_cli.specs.PollsEach as each

-- The three files of a poll are held, not too long and accepted. With this many nodes it is known that the claims refute every order that
-- elects a candidate other than the file's winner.
pub record ArePollable (files : List File) (manifest assertions seen : List ℕ) (nodes : ℕ)
    (inputs : PollInputs) : Type 0 where
  pub of_manifest : Says files manifest manifest_of inputs.batches
  pub of_assertions : Says files assertions assertion_file_of inputs.file
  pub of_seen : Says files seen (seen_of inputs.batches inputs.file.candidates) inputs.entries
  pub covered : uncovered nodes inputs.file ≡ None

-- The words ask for a poll of files like these, and each drawn card has a record of what is seen.
pub record IsPollable (words : List (List ℕ)) (files : List File) : Type 0 where
  pub asks : Asks Poll words
  pub inputs : PollInputs
  pub are : ArePollable files asks.task.manifest asks.task.assertions asks.task.seen asks.task.nodes
      inputs
  pub all_told :
      unseen_draw asks.task.seed (cards asks.task inputs) inputs.entries asks.task.draws ≡ None

-- The words ask for a poll of files like these with a look after each draw, and each card that is needed has a record of what is seen.
pub record IsEachPollable (words : List (List ℕ)) (files : List File) : Type 0 where
  pub asks : Asks PollEach words
  pub inputs : PollInputs
  pub are : ArePollable files asks.task.manifest asks.task.assertions asks.task.seen asks.task.nodes
      inputs
  pub all_told :
      unseen_draw asks.task.seed (each.cards asks.task inputs) inputs.entries
      (asked asks.task.limit (each.claims asks.task inputs) (each.seen asks.task inputs)
      (each.drawn asks.task inputs asks.task.draws))
      ≡ None

-- ---- what `run` promises

-- If memory was found and no count of faults rose, every poll like these ends with its result.
abbrev pub IsPollComplete : Option (List File) → List (List ℕ) → Type 0 → ℕ → Writing → Writing →
    Type 0
IsPollComplete held words failed status out err =
    IfSome held (λ files. IsPollable words files ⊎ IsEachPollable words files →
    IsQuiet failed out err → (status ≡ 0) ⊎ (status ≡ 10) ⊎ (status ≡ 9))
