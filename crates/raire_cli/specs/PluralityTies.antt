-- What it means for a plurality contest to have a tie.
use Rattle.std.specs.Prelude.{◌≡◌, ◌⊎◌, ℕ, List, length, Some}
use Rattle.desk.specs.Desk.{File, held_bytes}
use Rattle.ballots.specs.Ballots.{BallotFile}
use Rattle.session_state.specs.Content.{Content}
use Rattle.session_file.specs.Reading.{session_of}
use Rattle.plurality.specs.Ties.{AreTied}
use Rattle.plurality.specs.Plural.{Tie}
use Rattle.report.specs.Ends.{tie_text}
use Rattle.command_line.specs.declared.commands.Command.TheVariants.{AuditPlurality, OpenPlurality}
use Rattle.raire_cli.specs.Asks.{Asks}
use Rattle.raire_cli.specs.Held.{AreBallots}

-- the words open a session of this contest
pub record OpensOf (words : List (List ℕ)) (files : List File) (ballots : BallotFile) : Type 0 where
  pub asks : Asks OpenPlurality words
  pub are : AreBallots files asks.task.ballots asks.task.contest ballots

-- the words ask for a round of a session of this contest
pub record RoundOf (words : List (List ℕ)) (files : List File) (ballots : BallotFile) : Type 0 where
  pub asks : Asks AuditPlurality words
  pub bytes : List ℕ
  pub held : held_bytes asks.task.session files ≡ Some bytes
  pub session : Content
  pub said : session_of bytes ≡ Some session
  pub are : AreBallots files asks.task.ballots (Some session.contest) ballots

-- this text names the candidates who share the greatest number of first preferences in the contest that the words ask about, and that
-- number, as the tie of a first round
pub record TellsPluralityTie (words : List (List ℕ)) (files : List File)
    (text : List ℕ) : Type 0 where
  pub ballots : BallotFile
  pub asks : OpensOf words files ballots ⊎ RoundOf words files ballots
  pub tie : Tie
  pub tied : AreTied (length ballots.candidates) ballots.rankings tie
  pub shown : text ≡ tie_text ballots.candidates 1 tie.tied tie.tally
