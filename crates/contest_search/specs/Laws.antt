-- The number of nodes or sets that suffice for a search, and what the checker says about what the search finds, with or without the draws of
-- a clean audit.
use Rattle.std.specs.Prelude.{◌≡◌, ◌↔◌, ℕ, ◌<◌, ◌≤◌, ◌-◌, ◌*◌, ◌^◌, List, Option, Ok}
use Rattle.budget.specs.declared.budget.Budget.{Budget}
use Rattle.budget.specs.declared.budget.Budget.TheVariants.{Sets}
use Rattle.assertions.specs.Hardness.{first_bound}
use Rattle.assertions.specs.Suffixes.{factorial}
use Rattle.irv_base.specs.Names.{Id}
use Rattle.ballots.specs.Ballots.{BallotFile}
use Rattle.ballots.specs.Grammar.{ballots_of}
use Rattle.assertion_file.specs.Content.{Content}
use Rattle.assertion_file.specs.Reading.{assertion_file_of}
use Rattle.assertion_file.specs.Text.{assertion_file_text}
use Rattle.cover_checker.specs.Checks.{IsAnswer}
use Rattle.cover_checker.specs.Holds.{IsCertificateOf}
use Rattle.cover_checker.specs.declared.checked.Checked.TheVariants.{Accepted}
use Rattle.contest_search.specs.Budget.{nodes_for, sets_of}
use Rattle.contest_search.specs.Contest.{candidate_count, IsOther, IsWon}
use Rattle.contest_search.specs.Found.{FoundIn, IsFoundIn, IsSpentFound}
use Rattle.contest_search.specs.declared.found.Found.{Found}
use Rattle.contest_search.specs.Planned.{planned, CanBePlanned}

-- No search needs more nodes for a candidate than twice the factorial of the number of the other candidates.
abbrev pub NodesAreFew : Type 0
NodesAreFew =
    (ballots : BallotFile) (tabulated : List ℕ) (winner c : ℕ) → IsOther ballots winner c →
    nodes_for ballots tabulated winner c ≤ 2 * factorial (candidate_count ballots - 1)

-- No search needs more sets than the number of all sets minus three.
abbrev pub SetsAreFew : Type 0
SetsAreFew =
    (ballots : BallotFile) (winner : ℕ) → IsWon ballots winner →
    sets_of ballots winner ≤ 2 ^ candidate_count ballots - 3

-- A search by sets runs out of budget exactly if it needs more sets than the budget has and the order that it starts with doesn't have
-- hardness 0.
abbrev pub SpentBySetsExactly : Type 0
SpentBySetsExactly =
    (sets : ℕ) (ballots : BallotFile) (found : Found) (winner : ℕ) (won : IsWon ballots winner) →
    FoundIn (Sets sets) ballots found →
    (IsSpentFound found
    ↔ ((1 ≤ first_bound (candidate_count ballots) ballots.rankings won.order)
    × (sets < sets_of ballots winner)))

-- What is found in ballots that were read is their canonical certificate, can be read back from its text, and is accepted by the checker
-- with the same budget.
abbrev pub FoundIsAccepted : Type 0
FoundIsAccepted =
    (budget : Budget) (bytes : List ℕ) (asked : Option Id) (ballots : BallotFile) (file : Content) →
    ballots_of bytes asked ≡ Ok ballots → IsFoundIn budget ballots file →
    IsCertificateOf ballots file
    × (assertion_file_of (assertion_file_text file) ≡ Ok file)
    × IsAnswer budget ballots file (Ok Accepted)

-- The same holds with the draws of a clean audit.
abbrev pub PlannedIsAccepted : Type 0
PlannedIsAccepted =
    (cards gamma limit : ℕ) (budget : Budget) (bytes : List ℕ) (asked : Option Id) (ballots : BallotFile)
    (file : Content) →
    CanBePlanned cards gamma limit file.records → ballots_of bytes asked ≡ Ok ballots →
    IsFoundIn budget ballots file → let planned = planned cards gamma limit file in
    IsCertificateOf ballots planned
    × (assertion_file_of (assertion_file_text planned) ≡ Ok planned)
    × IsAnswer budget ballots planned (Ok Accepted)
