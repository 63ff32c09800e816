-- Whether a check accepts an assertion file, as a test. A command continues with the files that the check accepts.
use Rattle.std.specs.Prelude.{ℕ, ◌-◌, Bool, true, false, ◌&&◌, [], ◌∷◌, length, is_none}
use Rattle.std.specs.List.{list_all, list_any}
use Rattle.irv_base.specs.Orders.{is_order}
use Rattle.irv_base.specs.Tabulation.{is_tabulated}
use Rattle.assertions.specs.Suffixes.{orders_ending}
use Rattle.budget.specs.declared.budget.Budget.{Budget}
use Rattle.ballots.specs.Ballots.{BallotFile}
use Rattle.assertion_file.specs.Content.{Content}
use Rattle.cover_checker.specs.Findings.{is_about}
use Rattle.cover_checker.specs.Checks.{findings}
use Rattle.check_command.specs.Check.{Checks}
use Rattle.cli_base.specs.Script.{Script, Ends}

-- the tabulated order of the contest elects this candidate
abbrev pub is_won : BallotFile → ℕ → Bool
is_won ballots winner =
    let n : ℕ = length ballots.candidates in
    list_any (λ order. is_order n order && is_tabulated ballots.rankings order)
    (orders_ending n (n - 1) (winner ∷ []))

-- the file is about the contest, names its winner, and nothing is found in it
abbrev pub is_accepted : Budget → BallotFile → Content → Bool
is_accepted budget ballots file =
    is_about ballots file && is_won ballots file.winner
    && list_all is_none (findings budget ballots.rankings file file.winner)

abbrev pub on_if : Bool → Script → Script → Script
on_if true next other = next
on_if false next other = other

-- a script that continues if a check accepts the file, and otherwise ends as the check does
abbrev pub if_accepted : Budget → BallotFile → Content → Script → Script
if_accepted budget ballots file next =
    on_if (is_accepted budget ballots file) next (Ends (Checks budget ballots file))
