-- Which statuses result from some words and files.
use Rattle.std.specs.Prelude.{◌≡◌, ℕ, List}
use Rattle.desk.specs.Desk.{File}
use Rattle.cli_base.specs.Outcome.{Outcome}
use Rattle.cli_base.specs.Script.{AsHeld, MayCome}
use Rattle.call_laws.specs.Agreement.{Call, IsSettled}
use Rattle.raire_cli.specs.Answers.{asked}

-- With these words over these files, an outcome with this status is defined, and no settled call ends with another status.
pub record EndsWith (status : ℕ) (words : List (List ℕ)) (files : List File) : Type 0 where
  pub due : Outcome
  pub defined : MayCome (AsHeld files) (asked words) due
  pub status_is : due.status ≡ status
  pub alone : (call : Call) → IsSettled words files call → call.status ≡ status

-- some words and files end with this status
abbrev pub IsOfSome : ℕ → Type 0
IsOfSome status = (words : List (List ℕ)) × (files : List File) × EndsWith status words files

-- ---- the law

-- Statuses 7, 8 and 9 don't result from words and files. They result from a desk that fails, a sink that fails, and a lack of memory.
pub record EachStatus : Type 0 where
  pub done : IsOfSome 0
  pub bad_words : IsOfSome 1
  pub refused : IsOfSome 2
  pub tie : IsOfSome 3
  pub spent : IsOfSome 4
  pub full_count : IsOfSome 5
  pub differs : IsOfSome 6
  pub unconfirmed : IsOfSome 10
  pub too_long : IsOfSome 11
  pub missing : IsOfSome 12
