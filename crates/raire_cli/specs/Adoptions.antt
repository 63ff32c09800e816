-- What it means for claims to be adopted.
use Rattle.std.specs.Prelude.{◌≡◌, ◌⊎◌, ℕ, List, Option, IfSome, Ok}
use Rattle.desk.specs.Desk.{File}
use Rattle.irv_base.specs.Tabulation.{AllElect}
use Rattle.assertions.specs.Laws.{IsProof}
use Rattle.ballots.specs.Ballots.{BallotFile}
use Rattle.assertion_file.specs.Content.{Content}
use Rattle.assertion_file.specs.Reading.{assertion_file_of}
use Rattle.assertion_file.specs.Text.{assertion_file_text}
use Rattle.claims_file.specs.Claimed.{Claimed}
use Rattle.cover_checker.specs.Checks.{IsAnswer}
use Rattle.cover_checker.specs.Covers.{IsEnough}
use Rattle.cover_checker.specs.declared.checked.Checked.TheVariants.{Accepted}
use Rattle.adoption.specs.Adopted.{IsAdopted, each_once}
use Rattle.cli_base.specs.Ends.{Writing, Took}
use Rattle.cli_base.specs.Statuses.{IsQuiet}
use Rattle.command_line.specs.declared.commands.Command.TheVariants.{Adopt}
use Rattle.contest_search.specs.Contest.{candidate_count}
use Rattle.raire_cli.specs.Asks.{Asks}
use Rattle.raire_cli.specs.Held.{AreClaimed}

-- the claims that the words name are adopted as this assertion file
pub record IsAdoptedOf (words : List (List ℕ)) (files : List File) (file : Content) : Type 0 where
  pub asks : Asks Adopt words
  pub ballots : BallotFile
  pub claims : Claimed
  pub are : AreClaimed files asks.task.ballots asks.task.claims asks.task.contest ballots claims
  -- each assertion of the claims file is true of the records, and together they refute every order that elects a candidate other than its
  -- winner; the assertion file has the same assertions, each once, in the fixed order, with its margin over the records
  pub adopted : IsAdopted ballots claims file
  -- every way of breaking ties elects the winner
  pub decided : AllElect (candidate_count ballots) ballots.rankings file.winner
  -- the printed file says the same when it is read
  pub reads_back : assertion_file_of (assertion_file_text file) ≡ Ok file
  -- and a check of the same ballots with the same budget accepts it
  pub accepted : IsAnswer asks.task.budget ballots file (Ok Accepted)

-- ---- what `run` promises

-- Status 0 of an adoption: `out` has the assertion file of the claims. Its assertions are those that were named, each once. Each is true
-- of the records with its margin. Together they refute every order that elects a candidate other than the file's winner, and every way of
-- breaking ties elects this winner.
abbrev pub AreAdopted : Option (List File) → List (List ℕ) → ℕ → Writing → Type 0
AreAdopted held words status out = IfSome held (λ files. Asks Adopt words → status ≡ 0 →
    (file : Content) × IsAdoptedOf words files file × Took out (assertion_file_text file))

-- The words ask to adopt claims that prove their winner: each is true of the records, and they refute every order that elects another
-- candidate. The budget is large enough for them.
pub record AreAdoptable (words : List (List ℕ)) (files : List File) : Type 0 where
  pub asks : Asks Adopt words
  pub ballots : BallotFile
  pub claims : Claimed
  pub are : AreClaimed files asks.task.ballots asks.task.claims asks.task.contest ballots claims
  pub proof : IsProof (candidate_count ballots) claims.winner ballots.rankings claims.assertions
  pub enough : IsEnough asks.task.budget (candidate_count ballots) claims.winner
      (each_once (candidate_count ballots) claims.assertions)

-- If memory was found and no count of faults rose, claims like these are adopted.
abbrev pub IsAdoptionComplete : Option (List File) → List (List ℕ) → Type 0 → ℕ → Writing →
    Writing → Type 0
IsAdoptionComplete held words failed status out err =
    IfSome held (λ files. AreAdoptable words files → IsQuiet failed out err →
    (status ≡ 0) ⊎ (status ≡ 9))
