-- `tabulate FILE`: the rounds of a ballot file's contest, or its first tie if that leaves open who has won.
use Rattle.std.specs.Prelude.{◌≡◌, ◌⊎◌, ◌≤◌, ℕ, List, [], ◌∷◌}
use Rattle.irv_base.specs.Tabulation.{HasNoTie}
use Rattle.assertions.specs.Hardness.{first_bound}
use Rattle.assertions.specs.Suffixes.{IsAlternative}
use Rattle.ballots.specs.Ballots.{BallotFile}
use Rattle.ballots.specs.Grammar.{ballots_of}
use Rattle.report.specs.Ends.{spent_text}
use Rattle.report.specs.Tabulations.{tabulation_text}
use Rattle.cli_base.specs.Outcome.{Verdict, One}
use Rattle.cli_base.specs.declared.outcome.AnswerKind.{AnswerKind}
use Rattle.cli_base.specs.declared.outcome.AnswerKind.TheVariants.{Done, Tie, Spent}
use Rattle.cli_base.specs.Script.{Script, Read, Ends}
use Rattle.command.specs.declared.tabulate.TabulateTask.{TabulateTask}
use Rattle.input_files.specs.Judged.{told, go_on}
use Rattle.input_files.specs.Refusals.{refused_ballots}
use Rattle.contest_search.specs.Budget.{IsRaceSpent}
use Rattle.contest_search.specs.Certificate.{low_of}
use Rattle.contest_search.specs.Contest.{candidate_count, IsWon, IsElected, IsOther}
use Rattle.search_commands.specs.Ends.{HasTie}

-- the lines of a contest that is decided
pub record HasRounds (ballots : BallotFile) (text : List ℕ) : Type 0 where
  pub winner : ℕ
  pub won : IsWon ballots winner
  pub decided : IsElected ballots winner
  pub shown : text ≡ tabulation_text ballots won.order winner

-- there is a tie, and the race to find out whether it matters runs out of budget at this candidate, with an order as a search prints it
pub record IsStopped (nodes : ℕ) (ballots : BallotFile) (last : ℕ) (order : List ℕ)
    (margin : ℕ) : Type 0 where
  pub winner : ℕ
  pub won : IsWon ballots winner
  pub tied : HasNoTie ballots.rankings won.order → ⊥
  pub named : IsOther ballots winner last
  pub cause : IsRaceSpent nodes ballots won.order last
  pub alternative : IsAlternative (candidate_count ballots) winner order
  pub hardness : margin ≡ low_of ballots order
  pub within : margin ≤ first_bound (candidate_count ballots) ballots.rankings won.order
  pub some : 1 ≤ margin

pub record HasStopped (nodes : ℕ) (ballots : BallotFile) (text : List ℕ) : Type 0 where
  pub last : ℕ
  pub order : List ℕ
  pub margin : ℕ
  pub is : IsStopped nodes ballots last order margin
  pub shown : text ≡ spent_text ballots.candidates last order margin

abbrev pub Tabulates : ℕ → BallotFile → Verdict → Type 0
Tabulates nodes ballots verdict =
    One (HasRounds ballots) Done verdict ⊎ One (HasTie ballots) Tie verdict
    ⊎ One (HasStopped nodes ballots) Spent verdict

-- ---- the command

abbrev pub script : TabulateTask → Script
script task = Read task.ballots (λ bytes.
    go_on (told (refused_ballots task.ballots) (ballots_of bytes task.contest)) (λ ballots.
    Ends (Tabulates task.nodes ballots)))

-- the kinds of its answers
abbrev pub kinds : List AnswerKind
kinds = Done ∷ Tie ∷ Spent ∷ []
