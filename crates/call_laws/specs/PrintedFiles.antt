-- What a search, a trim or an adoption printed, and a later call that is given it: two successive calls of `run`.
use Rattle.std.specs.Prelude.{◌≡◌, ◌⊎◌, ◌≤◌, ℕ, List, ◌++◌, length, Option, Some, None, Ok}
use Rattle.budget.specs.declared.budget.Budget.{Budget}
use Rattle.budget.specs.declared.budget.Budget.TheVariants.{Sets}
use Rattle.desk.specs.Desk.{File, held_bytes}
use Rattle.irv_base.specs.Names.{Id}
use Rattle.irv_base.specs.declared.limits.TheConstants.{MOST_FILE_BYTES}
use Rattle.ballots.specs.Ballots.{BallotFile}
use Rattle.manifest.specs.Cards.{Batches}
use Rattle.manifest.specs.Linked.{first_without_card}
use Rattle.manifest.specs.Manifest.{manifest_of}
use Rattle.cli_base.specs.Ends.{Took}
use Rattle.cli_base.specs.Statuses.{IsAnswered}
use Rattle.command_line.specs.declared.commands.Command.TheVariants.{Adopt, Check, Open, Trim, Search, SearchFewest}
use Rattle.raire_cli.specs.Asks.{Asks}
use Rattle.call_laws.specs.Agreement.{Call, Failed, IsSettled}
use Rattle.raire_cli.specs.Answers.{asked}
use Rattle.raire_cli.specs.Confirmation.{AsksFor}
use Rattle.raire_cli.specs.Fewest.{AsksForFewest}
use Rattle.raire_cli.specs.Held.{AreBallots}

-- The call had these words, over a desk that holds these files. It ended with status 0, and `out`, which reports what it takes, took this
-- text.
pub record HasPrinted (words : List (List ℕ)) (files : List File) (call : Call)
    (text : List ℕ) : Type 0 where
  pub answer : IsAnswered (asked words) (Some files) (Failed call) call.status call.out call.err
  pub done : call.status ≡ 0
  pub before : List ℕ
  pub told_before : call.out.before ≡ Some before
  pub told_after : call.out.after ≡ Some (before ++ text)

-- ---- the files of the later call

-- Under the first name, the desk of the later call holds the ballots that the first call read under its own name. Under the second name it
-- holds this text, which isn't too long for a file.
pub record HoldsPrinted (own : List ℕ) (files more : List File)
    (text ballots assertions : List ℕ) : Type 0 where
  pub same_ballots : held_bytes ballots more ≡ held_bytes own files
  pub printed : held_bytes assertions more ≡ Some text
  pub is_short : length text ≤ MOST_FILE_BYTES

-- the words ask to adopt claims about these ballots
pub record AsksToAdopt (words : List (List ℕ)) (files : List File) (ballots : BallotFile)
    : Type 0 where
  pub adopt : Asks Adopt words
  pub are : AreBallots files adopt.task.ballots adopt.task.contest ballots

-- Under this name the desk of the later call holds a manifest that is accepted and has a card for each ballot of the search or the adoption.
pub record HoldsCards (words : List (List ℕ)) (files more : List File)
    (manifest : List ℕ) : Type 0 where
  pub bytes : List ℕ
  pub held : held_bytes manifest more ≡ Some bytes
  pub is_short : length bytes ≤ MOST_FILE_BYTES
  pub batches : Batches
  pub accepted : manifest_of bytes ≡ Ok batches
  pub placed : (ballots : BallotFile) (winner : ℕ) →
      AsksFor words files ballots winner ⊎ AsksForFewest words files ballots winner →
      first_without_card batches ballots ≡ None
  pub placed_adopted : (ballots : BallotFile) → AsksToAdopt words files ballots →
      first_without_card batches ballots ≡ None

-- ---- the words of the later call

-- they ask for a check, with the contest and the budget of the first call
pub record ChecksTheSame (contest : Option Id) (budget : Budget) (others : List (List ℕ)) : Type 0 where
  pub asks : Asks Check others
  pub same_contest : asks.task.contest ≡ contest
  pub same_budget : asks.task.budget ≡ budget

-- they ask to open a session, with the contest and the budget of the first call
pub record OpensTheSame (contest : Option Id) (budget : Budget) (others : List (List ℕ)) : Type 0 where
  pub asks : Asks Open others
  pub same_contest : asks.task.contest ≡ contest
  pub same_budget : asks.task.budget ≡ budget

-- they ask for a trim, with the contest and the budget of the first call
pub record TrimsTheSame (contest : Option Id) (budget : Budget) (others : List (List ℕ)) : Type 0 where
  pub asks : Asks Trim others
  pub same_contest : asks.task.contest ≡ contest
  pub same_budget : asks.task.budget ≡ budget

-- ---- the laws

-- A check accepts what a search printed: it ends with status 0 if nothing fails in it and memory is found.
abbrev pub PrintedIsAccepted : Type 0
PrintedIsAccepted =
    (words others : List (List ℕ)) (search : Asks Search words)
    (check : ChecksTheSame search.task.contest search.task.budget others) (files more : List File) (first second : Call)
    (text : List ℕ) → HasPrinted words files first text →
    HoldsPrinted search.task.ballots files more text check.asks.task.ballots check.asks.task.assertions →
    IsSettled others more second → second.status ≡ 0

-- A session is opened with what a search printed if each ballot has a card.
abbrev pub PrintedIsOpened : Type 0
PrintedIsOpened =
    (words others : List (List ℕ)) (search : Asks Search words)
    (opening : OpensTheSame search.task.contest search.task.budget others) (files more : List File) (first second : Call)
    (text : List ℕ) → HasPrinted words files first text →
    HoldsPrinted search.task.ballots files more text opening.asks.task.ballots opening.asks.task.assertions →
    HoldsCards words files more opening.asks.task.manifest → IsSettled others more second → second.status ≡ 0

-- The same holds for what a search for the fewest NENs printed, with the same number of sets.
abbrev pub FewestIsAccepted : Type 0
FewestIsAccepted =
    (words others : List (List ℕ)) (search : Asks SearchFewest words)
    (check : ChecksTheSame search.task.contest (Sets search.task.sets) others) (files more : List File)
    (first second : Call) (text : List ℕ) → HasPrinted words files first text →
    HoldsPrinted search.task.ballots files more text check.asks.task.ballots check.asks.task.assertions →
    IsSettled others more second → second.status ≡ 0

abbrev pub FewestIsOpened : Type 0
FewestIsOpened =
    (words others : List (List ℕ)) (search : Asks SearchFewest words)
    (opening : OpensTheSame search.task.contest (Sets search.task.sets) others) (files more : List File)
    (first second : Call) (text : List ℕ) → HasPrinted words files first text →
    HoldsPrinted search.task.ballots files more text opening.asks.task.ballots opening.asks.task.assertions →
    HoldsCards words files more opening.asks.task.manifest → IsSettled others more second → second.status ≡ 0

-- A check accepts what a trim printed.
abbrev pub TrimmedIsAccepted : Type 0
TrimmedIsAccepted =
    (words others : List (List ℕ)) (trim : Asks Trim words)
    (check : ChecksTheSame trim.task.contest trim.task.budget others)
    (files more : List File) (first second : Call) (text : List ℕ) →
    HasPrinted words files first text →
    HoldsPrinted trim.task.ballots files more text check.asks.task.ballots check.asks.task.assertions →
    IsSettled others more second → second.status ≡ 0

-- A check accepts what an adoption printed.
abbrev pub AdoptedIsAccepted : Type 0
AdoptedIsAccepted =
    (words others : List (List ℕ)) (adopt : Asks Adopt words)
    (check : ChecksTheSame adopt.task.contest adopt.task.budget others)
    (files more : List File) (first second : Call) (text : List ℕ) →
    HasPrinted words files first text →
    HoldsPrinted adopt.task.ballots files more text check.asks.task.ballots check.asks.task.assertions →
    IsSettled others more second → second.status ≡ 0

-- A session is opened with what an adoption printed if each ballot has a card.
abbrev pub AdoptedIsOpened : Type 0
AdoptedIsOpened =
    (words others : List (List ℕ)) (adopt : Asks Adopt words)
    (opening : OpensTheSame adopt.task.contest adopt.task.budget others)
    (files more : List File) (first second : Call) (text : List ℕ) →
    HasPrinted words files first text →
    HoldsPrinted adopt.task.ballots files more text opening.asks.task.ballots opening.asks.task.assertions →
    HoldsCards words files more opening.asks.task.manifest → IsSettled others more second → second.status ≡ 0

-- Another trim prints what a trim printed as it is, unless the budget runs out.
abbrev pub TrimmedIsTrimmed : Type 0
TrimmedIsTrimmed =
    (words others : List (List ℕ)) (trim : Asks Trim words)
    (again : TrimsTheSame trim.task.contest trim.task.budget others)
    (files more : List File) (first second : Call) (text : List ℕ) →
    HasPrinted words files first text →
    HoldsPrinted trim.task.ballots files more text again.asks.task.ballots again.asks.task.assertions →
    IsSettled others more second → (second.status ≡ 4) ⊎ ((second.status ≡ 0) × Took second.out text)
