-- The number of sets that suffice for a search for the fewest NENs, and what the checker says about what the search finds.
use Rattle.std.specs.Prelude.{◌≡◌, ◌↔◌, ℕ, ◌<◌, ◌≤◌, ◌-◌, ◌^◌, List, Option, Ok}
use Rattle.budget.specs.declared.budget.Budget.TheVariants.{Sets}
use Rattle.irv_base.specs.Names.{Id}
use Rattle.ballots.specs.Ballots.{BallotFile}
use Rattle.ballots.specs.Grammar.{ballots_of}
use Rattle.assertion_file.specs.Content.{Content}
use Rattle.assertion_file.specs.Reading.{assertion_file_of}
use Rattle.assertion_file.specs.Text.{assertion_file_text}
use Rattle.cover_checker.specs.Checks.{IsAnswer}
use Rattle.cover_checker.specs.Holds.{Holds}
use Rattle.cover_checker.specs.declared.checked.Checked.TheVariants.{Accepted}
use Rattle.contest_search.specs.Contest.{candidate_count, IsElected, IsWon}
use Rattle.contest_search.specs.Fewest.{FoundFewestIn, IsFewestFoundIn, fewest_sets_of, with_own_margin}
use Rattle.contest_search.specs.Found.{IsSpentFound}
use Rattle.contest_search.specs.declared.found.Found.{Found}
use Rattle.contest_search.specs.Planned.{planned, CanBePlanned}

-- No search needs more sets than the number of all sets minus three.
abbrev pub FewestSetsAreFew : Type 0
FewestSetsAreFew =
    (ballots : BallotFile) (winner : ℕ) → IsWon ballots winner →
    fewest_sets_of ballots winner ≤ 2 ^ candidate_count ballots - 3

-- If a contest is decided, a search runs out of budget exactly if it needs more sets than the budget has.
abbrev pub SpentFewestExactly : Type 0
SpentFewestExactly =
    (sets gap : ℕ) (ballots : BallotFile) (found : Found) (winner : ℕ) → IsWon ballots winner →
    IsElected ballots winner → FoundFewestIn sets gap ballots found →
    (IsSpentFound found ↔ (sets < fewest_sets_of ballots winner))

-- What is printed for ballots that were read holds for them, can be read back from its text, and is accepted by the checker with the same
-- budget.
abbrev pub FewestIsAccepted : Type 0
FewestIsAccepted =
    (sets gap : ℕ) (bytes : List ℕ) (asked : Option Id) (ballots : BallotFile) (file : Content) →
    ballots_of bytes asked ≡ Ok ballots → IsFewestFoundIn sets gap ballots file →
    let own = with_own_margin file in
    Holds ballots own
    × (assertion_file_of (assertion_file_text own) ≡ Ok own)
    × IsAnswer (Sets sets) ballots own (Ok Accepted)

-- The same holds with the draws of a clean audit.
abbrev pub PlannedFewestIsAccepted : Type 0
PlannedFewestIsAccepted =
    (cards gamma limit sets gap : ℕ) (bytes : List ℕ) (asked : Option Id) (ballots : BallotFile)
    (file : Content) →
    CanBePlanned cards gamma limit file.records → ballots_of bytes asked ≡ Ok ballots →
    IsFewestFoundIn sets gap ballots file →
    let planned = planned cards gamma limit (with_own_margin file) in
    Holds ballots planned
    × (assertion_file_of (assertion_file_text planned) ≡ Ok planned)
    × IsAnswer (Sets sets) ballots planned (Ok Accepted)

-- Without a gap, the file is printed as it is found, with the best margin and the order of the certificate.
abbrev pub NoGapIsBest : Type 0
NoGapIsBest =
    (sets : ℕ) (bytes : List ℕ) (asked : Option Id) (ballots : BallotFile) (file : Content) →
    ballots_of bytes asked ≡ Ok ballots → IsFewestFoundIn sets 0 ballots file →
    with_own_margin file ≡ file
