-- How a call went.
use Rattle.std.specs.Prelude.{ℕ, List, Option}
use Rattle.desk.specs.Desk.{File}
use Rattle.desk.specs.declared.served.Served.{Served}
use Rattle.cli_base.specs.Begun.{HasCome}
use Rattle.cli_base.specs.Outcome.{Outcome}
use Rattle.cli_base.specs.Script.{Asked, ByDesk}
use Rattle.cli_base.specs.Ends.{Writing, IsWritten}

-- The desk has begun the first files of what is asked for, an outcome followed from them, and the sinks took it or part of it.
pub record Story (asked : Asked) (held : Option (List File)) (failed : Type 0)
    (before after : Served) (status : ℕ) (out err : Writing) : Type 0 where
  pub due : Outcome
  pub come : HasCome (ByDesk held failed) before after asked due
  pub written : IsWritten due status out err
