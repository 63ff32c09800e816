-- What it means for a poll to confirm the claims of an assertion file, using only what is seen of drawn cards.
use Rattle.std.specs.Prelude.{◌≡◌, ◌⊎◌, ◌↔◌, ℕ, Bool, List, length, map, All, Option, None, Some, IfSome, Ok, IsTrue}
use Rattle.desk.specs.Desk.{File, held_bytes}
use Rattle.assertion_file.specs.Content.{Content, candidate_count}
use Rattle.assertion_file.specs.Reading.{assertion_file_of}
use Rattle.manifest.specs.Cards.{Batches, cards_of}
use Rattle.manifest.specs.Manifest.{manifest_of}
use Rattle.assorters.specs.Cards.{seen_value}
use Rattle.km_risk.specs.Exact.{is_within}
use Rattle.seen_file.specs.Reading.{seen_of}
use Rattle.seen_file.specs.Seen.{Entry}
use Rattle.session_state.specs.Claims.{values_of}
use Rattle.audit_session.specs.Going.{all_seen, drawn_cards, seen_at}
use Rattle.audit_session.specs.Refusals.{unseen_draw}
use Rattle.audit_laws.specs.Claims.{Cover, claimed}
use Rattle.polling.specs.Polls.{is_confirmed}
use Rattle.cli_base.specs.Ends.{Writing, Took}
use Rattle.command.specs.declared.poll.PollTask.{PollTask}
use Rattle.command_line.specs.declared.commands.Command.TheVariants.{Poll}
use Rattle.poll_command.specs.Poll.{poll_text}
use Rattle.raire_cli.specs.Asks.{Asks}

-- ---- the files

-- the bytes of the three files
pub record PollBytes : Type 0 where
  pub manifest : List ℕ
  pub assertions : List ℕ
  pub seen : List ℕ

-- the files that the words name are held, and have these bytes
pub record ArePollFiles (task : PollTask) (files : List File) (bytes : PollBytes) : Type 0 where
  pub manifest : held_bytes task.manifest files ≡ Some bytes.manifest
  pub assertions : held_bytes task.assertions files ≡ Some bytes.assertions
  pub seen : held_bytes task.seen files ≡ Some bytes.seen

-- the cards, the assertions, and what is seen of some cards
pub record PollInputs : Type 0 where
  pub batches : Batches
  pub file : Content
  pub entries : List Entry

-- the bytes say this
pub record SayPoll (bytes : PollBytes) (inputs : PollInputs) : Type 0 where
  pub manifest : manifest_of bytes.manifest ≡ Ok inputs.batches
  pub assertions : assertion_file_of bytes.assertions ≡ Ok inputs.file
  pub seen : seen_of inputs.batches inputs.file.candidates bytes.seen ≡ Ok inputs.entries

-- ---- the poll

module _ (task : PollTask) (inputs : PollInputs) where
  abbrev pub cards : ℕ
  cards = length (cards_of inputs.batches)

  -- the cards that the seed draws
  abbrev pub drawn : ℕ → List ℕ
  drawn draws = drawn_cards task.seed cards draws

  -- for each claim, the printed risk that follows from what is seen of the drawn cards is within the limit
  abbrev pub confirms : Bool
  confirms =
      is_confirmed task.limit task.gamma (values_of inputs.file) (all_seen inputs.entries cards)
      (drawn task.draws)

  -- for each claim, the exact risk that follows from what is seen of the drawn cards is within the limit
  abbrev pub WereWithin : Type 0
  WereWithin = All
      (λ value. IsTrue (is_within 1 1 task.gamma task.limit
      (map (λ card. seen_value value (seen_at (all_seen inputs.entries cards) card))
      (drawn task.draws))))
      (values_of inputs.file)

-- the poll that the words ask for
pub record IsPollOf (words : List (List ℕ)) (files : List File) : Type 0 where
  pub asks : Asks Poll words
  pub bytes : PollBytes
  pub held : ArePollFiles asks.task files bytes
  pub inputs : PollInputs
  pub say : SayPoll bytes inputs
  -- the claims refute every order that elects a candidate other than the file's winner
  pub cover : Cover (candidate_count inputs.file) inputs.file.winner (claimed inputs.file)
  -- each drawn card has a record of what is seen
  pub all_told :
      unseen_draw asks.task.seed (cards asks.task inputs) inputs.entries asks.task.draws ≡ None

-- the poll's counts and risks, as they are printed
abbrev pub told_of : {words : List (List ℕ)} {files : List File} → IsPollOf words files → List ℕ
told_of poll =
    poll_text poll.asks.task poll.inputs.batches poll.inputs.file poll.inputs.entries

abbrev pub is_confirmed_by : {words : List (List ℕ)} {files : List File} →
    IsPollOf words files → Bool
is_confirmed_by poll = confirms poll.asks.task poll.inputs

abbrev pub WereAllWithin : {words : List (List ℕ)} {files : List File} →
    IsPollOf words files → Type 0
WereAllWithin poll = WereWithin poll.asks.task poll.inputs

-- ---- what `run` promises

-- Statuses 0 and 10 of a poll: `out` has the result of the poll of the words and files. The status is 0 exactly when the poll confirms every
-- claim. In that case the exact risk of each claim is within the limit.
abbrev pub IsPolled : Option (List File) → List (List ℕ) → ℕ → Writing → Type 0
IsPolled held words status out =
    IfSome held (λ files. Asks Poll words → (status ≡ 0) ⊎ (status ≡ 10) →
    (poll : IsPollOf words files) × Took out (told_of poll)
    × ((status ≡ 0) ↔ IsTrue (is_confirmed_by poll))
    × (status ≡ 0 → WereAllWithin poll))
