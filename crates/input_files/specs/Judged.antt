-- How a file is judged: it says something, or the call ends because of it.
use Rattle.std.specs.Prelude.{◌≡◌, ◌⊎◌, Option, None, Some, Result, Ok, Err}
use Rattle.cli_base.specs.Outcome.{Outcome, Verdict, outcome, out_of_memory}
use Rattle.cli_base.specs.Due.{due_refusal, IsOrMemory}
use Rattle.cli_base.specs.Script.{Script, ends}
use Rattle.cli_base.specs.declared.outcome.Refusal.{Refusal as Stop}

-- what is read, or a verdict that says in words what is wrong
abbrev pub told : {A Why : Type 0} → (Why → Verdict) → Result A Why → Result A Verdict
told words (Ok value) = Ok value
told words (Err why) = Err (words why)

-- the verdict on what is wrong takes precedence, if there is one
abbrev pub unless : {A : Type 0} → Option Verdict → Result A Verdict → Result A Verdict
unless None judged = judged
unless (Some verdict) judged = Err verdict

-- what is judged next, if nothing has been wrong so far
abbrev pub then_judged : {A B : Type 0} → Result A Verdict → (A → Result B Verdict) →
    Result B Verdict
then_judged (Ok value) next = next value
then_judged (Err verdict) next = Err verdict

-- the script that continues with what is judged
abbrev pub go_on : {A : Type 0} → Result A Verdict → (A → Script) → Script
go_on (Ok value) next = next value
go_on (Err verdict) next = ends verdict

-- ---- what the code does with it

-- this verdict is the answer, or memory ran out
abbrev pub IsTold : Option Verdict → Outcome → Type 0
IsTold None due = due ≡ out_of_memory
IsTold (Some verdict) due = IsOrMemory (outcome verdict) due

-- what is wrong stops the call, or memory ran out
abbrev pub IsStopped : {A : Type 0} → Result A Verdict → Stop → Type 0
IsStopped judged refusal =
    ((verdict : Verdict) × (judged ≡ Err verdict) × (due_refusal refusal ≡ outcome verdict))
    ⊎ (due_refusal refusal ≡ out_of_memory)

-- a call finds the value, or it stops with this verdict or because memory ran out
abbrev pub IsJudged : {A : Type 0} → Result A Verdict → Result A Stop → Type 0
IsJudged judged (Ok value) = judged ≡ Ok value
IsJudged judged (Err refusal) = IsStopped judged refusal
