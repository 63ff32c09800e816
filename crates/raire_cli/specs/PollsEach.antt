-- What it means for a poll with a look after each draw to confirm the claims of an assertion file, using only what is seen of drawn cards.
use Rattle.std.specs.Prelude.{◌≡◌, ◌⊎◌, ◌↔◌, ℕ, ◌*◌, ◌<◌, ◌≤◌, Bool, List, length, take, All, Option, None, Some, IfSome, IsTrue}
use Rattle.desk.specs.Desk.{File, held_bytes}
use Rattle.assertion_file.specs.Content.{candidate_count}
use Rattle.manifest.specs.Cards.{cards_of}
use Rattle.km_risk.specs.AsDrawn.{is_within_as_drawn, risk_as_drawn}
use Rattle.km_risk.specs.Exact.{is_within}
use Rattle.km_risk.specs.declared.limits.TheConstants.{MILLIONTH}
use Rattle.assorters.specs.declared.seen.Seen.{Seen}
use Rattle.audit_session.specs.Going.{all_seen, drawn_cards}
use Rattle.audit_session.specs.Refusals.{unseen_draw}
use Rattle.audit_laws.specs.Claims.{Cover, claimed}
use Rattle.polling.specs.Each.{Polled, asked, confirmed_at, is_each_confirmed, polled_of, values_of}
use Rattle.cli_base.specs.Ends.{Writing, Took}
use Rattle.command.specs.declared.poll_each.PollEachTask.{PollEachTask}
use Rattle.command_line.specs.declared.commands.Command.TheVariants.{PollEach}
use Rattle.poll_command.specs.Each.{each_text}
use Rattle.raire_cli.specs.Asks.{Asks}
use Rattle.raire_cli.specs.Polls.{PollBytes, PollInputs, SayPoll}

-- the files that the words name are held, and have these bytes
pub record AreEachFiles (task : PollEachTask) (files : List File) (bytes : PollBytes) : Type 0 where
  pub manifest : held_bytes task.manifest files ≡ Some bytes.manifest
  pub assertions : held_bytes task.assertions files ≡ Some bytes.assertions
  pub seen : held_bytes task.seen files ≡ Some bytes.seen

-- ---- the poll

module _ (task : PollEachTask) (inputs : PollInputs) where
  abbrev pub cards : ℕ
  cards = length (cards_of inputs.batches)

  -- the cards that the seed draws
  abbrev pub drawn : ℕ → List ℕ
  drawn draws = drawn_cards task.seed cards draws

  -- what is seen of each card
  abbrev pub seen : List Seen
  seen = all_seen inputs.entries cards

  -- the claims of the file, each with the gamma that the words give, or with the one that fits its margin
  abbrev pub claims : List Polled
  claims = polled_of task.gamma cards inputs.file

  -- the values that what is seen of the drawn cards has for a claim, up to this number of draws
  abbrev pub seen_values : Polled → ℕ → List ℕ
  seen_values claim draws = take draws (values_of seen (drawn task.draws) claim)

  -- the draw that confirms a claim, if one does
  abbrev pub confirmed_by : Polled → Option ℕ
  confirmed_by claim = confirmed_at task.limit claim.gamma (values_of seen (drawn task.draws) claim)

  -- this is the first draw after which the printed risk is within the limit, and at that draw the exact risk is too
  pub record IsFirst (claim : Polled) (draw : ℕ) : Type 0 where
    pub some : 1 ≤ draw
    pub among : draw ≤ task.draws
    pub printed : IsTrue (is_within_as_drawn 1 1 claim.gamma task.limit (seen_values claim draw))
    pub exact : IsTrue (is_within 1 1 claim.gamma task.limit (seen_values claim draw))
    pub not_before : (k : ℕ) → 1 ≤ k → k < draw →
        task.limit * MILLIONTH < risk_as_drawn 1 1 claim.gamma (seen_values claim k)

  -- each claim is confirmed by some draw
  abbrev pub confirms : Bool
  confirms = is_each_confirmed task.limit claims seen (drawn task.draws)

-- the poll that the words ask for
pub record IsEachPollOf (words : List (List ℕ)) (files : List File) : Type 0 where
  pub asks : Asks PollEach words
  pub bytes : PollBytes
  pub held : AreEachFiles asks.task files bytes
  pub inputs : PollInputs
  pub say : SayPoll bytes inputs
  -- the claims refute every order that elects a candidate other than the file's winner
  pub cover : Cover (candidate_count inputs.file) inputs.file.winner (claimed inputs.file)
  -- each card that is needed has a record of what is seen; these are the cards up to the draw that confirms the last claim, or all of them
  pub all_told :
      unseen_draw asks.task.seed (cards asks.task inputs) inputs.entries
      (asked asks.task.limit (claims asks.task inputs) (seen asks.task inputs)
      (drawn asks.task inputs asks.task.draws))
      ≡ None

-- the poll's counts and risks, as they are printed
abbrev pub told_of : {words : List (List ℕ)} {files : List File} →
    IsEachPollOf words files → List ℕ
told_of poll =
    each_text poll.asks.task poll.inputs.batches poll.inputs.file poll.inputs.entries

abbrev pub is_confirmed_by : {words : List (List ℕ)} {files : List File} →
    IsEachPollOf words files → Bool
is_confirmed_by poll = confirms poll.asks.task poll.inputs

-- for each claim, the draw that confirms it, if there is one, is the first that could
abbrev pub AreFirst : {words : List (List ℕ)} {files : List File} →
    IsEachPollOf words files → Type 0
AreFirst poll = All
    (λ claim. IfSome (confirmed_by poll.asks.task poll.inputs claim)
    (IsFirst poll.asks.task poll.inputs claim))
    (claims poll.asks.task poll.inputs)

-- ---- what `run` promises

-- Statuses 0 and 10 of a poll with a look after each draw: `out` has the poll of the words and files. The status is 0 exactly when each
-- claim is confirmed by some draw. A claim is confirmed by the first draw after which its printed risk is within the limit, and at that draw
-- its exact risk is too.
abbrev pub IsPolledEach : Option (List File) → List (List ℕ) → ℕ → Writing → Type 0
IsPolledEach held words status out =
    IfSome held (λ files. Asks PollEach words → (status ≡ 0) ⊎ (status ≡ 10) →
    (poll : IsEachPollOf words files) × Took out (told_of poll)
    × ((status ≡ 0) ↔ IsTrue (is_confirmed_by poll)) × AreFirst poll)
