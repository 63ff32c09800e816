-- The votes in a ballot file, which is read piece by piece.
use Rattle.std.specs.Prelude.{◌≡◌, ◌⊎◌, ℕ, List, Option, Result, Ok, Err}
use Rattle.irv_base.specs.Names.{Id}
use Rattle.ballots.specs.Ballots.{BallotFile, votes_of}
use Rattle.ballots.specs.Grammar.{ballots_of}
use Rattle.cli_base.specs.Due.{StopsAt}
use Rattle.cli_base.specs.Outcome.{Verdict}
use Rattle.cli_base.specs.Script.{Bytes, Readings}
use Rattle.cli_base.specs.declared.outcome.Refusal.{Refusal as Stop}
use Rattle.input_files.specs.Judged.{told, IsStopped}
use Rattle.input_files.specs.Refusals.{refused_ballots}

-- what the bytes of a ballot file with this name say about the requested contest, or about the only one
abbrev pub ballots_said : List ℕ → Option Id → List ℕ → Result BallotFile Verdict
ballots_said name asked bytes = told (refused_ballots name) (ballots_of bytes asked)

-- these are the votes in the file, or the call stops because the file isn't read or because what it says is refused
abbrev pub AreVotes : Readings → List ℕ → Option Id → Result BallotFile Stop → Type 0
AreVotes readings name asked (Ok votes) =
    (bytes : List ℕ) × readings name (Bytes bytes)
    × ((ballots : BallotFile) × (ballots_said name asked bytes ≡ Ok ballots)
    × (votes ≡ votes_of ballots))
AreVotes readings name asked (Err refusal) =
    StopsAt readings name refusal
    ⊎ ((bytes : List ℕ) × readings name (Bytes bytes)
    × IsStopped (ballots_said name asked bytes) refusal)
