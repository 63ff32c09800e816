-- Which file is named if the desk fails.
use Rattle.std.proofs.Common.{◌≡◌, inl, inr, ℕ, zero, suc, List, Option, Some, Result, Ok, Err, sym, ap, subst, ◌∙◌, arith}
use Rattle.desk.specs.Desk.{File}
use Rattle.desk.specs.declared.served.Served.{Served}
use Rattle.ballots.specs.Ballots.{BallotFile}
use Rattle.ballots.specs.Grammar.{ballots_of}
use Rattle.assertion_file.specs.Reading.{assertion_file_of}
use Rattle.cli_base.specs.Begun.{HasBegun}
use Rattle.cli_base.specs.Outcome.{Verdict}
use Rattle.cli_base.specs.Script.{Readings, Script, Ends, AsTold, ComesToReadAs, ReachesAs}
use Rattle.command.specs.declared.check.CheckTask.{CheckTask}
use Rattle.check_command.specs.Check.{Checks, after_ballots, script}
use Rattle.input_files.specs.Judged.{told, go_on}
use Rattle.input_files.specs.Refusals.{refused_assertions, refused_ballots}
use Rattle.raire_cli.specs.Answers.{asked_by}
use Rattle.call_laws.specs.ReadFaults.{SecondIsNamed}

two_begun : (files : ℕ) (before after : Served) → before.begins ≡ 0 → after.begins ≡ 2 → HasBegun files before after → files ≡ 2
two_begun zero before after none two begun = absurd (omega (arith, none, two, begun))
two_begun (suc files) before after none two begun = omega (arith, none, two, begun)

-- a file is reached after what is judged, only if that says something
judged_reaches : {A : Type 0} (readings : Readings) (judged : Result A Verdict) (next : A → Script) (n : ℕ) (name : List ℕ) →
    ReachesAs readings (go_on judged next) n name → (value : A) × ReachesAs readings (next value) n name
judged_reaches readings (Ok value) next n name reaches = (value, reaches)
judged_reaches readings (Err verdict) next n name reaches = absurd reaches

second_of_check : (readings : Readings) (task : CheckTask) (files : ℕ) (name : List ℕ) → files ≡ 2 → ReachesAs readings (script task) files name →
    name ≡ task.assertions
second_of_check readings task files name two (inl (one, is)) = absurd (omega (arith, two, one))
second_of_check readings task files name two (inr (more, is, bytes, there, rest)) =
    let (ballots, on) = judged_reaches readings (told (refused_ballots task.ballots) (ballots_of bytes task.contest))
    (λ ballots. after_ballots task.assertions task.budget ballots) more name rest in
    by more (omega (arith, two, is)) ballots on
  where
    by : (n : ℕ) → n ≡ 1 → (ballots : BallotFile) → ReachesAs readings (after_ballots task.assertions task.budget ballots) n name → name ≡ task.assertions
    by n one ballots (inl (first, is)) = sym is
    by n one ballots (inr (more, is, bytes, there, rest)) =
        absurd (judged_reaches readings (told (refused_assertions task.assertions) (assertion_file_of bytes)) (λ file. Ends (Checks task.budget ballots file))
        more name rest).1

pub second_is_named : SecondIsNamed
second_is_named words task is held before after out err none two fault =
    second_of_check (AsTold held) task fault.files fault.name (two_begun fault.files before after none two fault.begun)
    (subst (λ command. ComesToReadAs (AsTold held) (asked_by command) fault.files fault.name) is fault.reached)
