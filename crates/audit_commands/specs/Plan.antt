-- `plan MANIFEST ASSERTIONS`: the number of draws that a clean audit needs.
use Rattle.std.specs.Prelude.{ℕ, nat_le, if◌then◌else◌, List, [], ◌∷◌, length, codes}
use Rattle.assertion_file.specs.Content.{Content}
use Rattle.assertion_file.specs.Reading.{assertion_file_of}
use Rattle.manifest.specs.Cards.{cards_of}
use Rattle.manifest.specs.Manifest.{manifest_of}
use Rattle.audit_report.specs.Plan.{plan_table}
use Rattle.cli_base.specs.Outcome.{Verdict, Answered, Refused, broken_at}
use Rattle.cli_base.specs.declared.outcome.AnswerKind.{AnswerKind}
use Rattle.cli_base.specs.declared.outcome.AnswerKind.TheVariants.{Done}
use Rattle.cli_base.specs.Script.{Script, Read, ends}
use Rattle.command.specs.declared.plan.PlanTask.{PlanTask}
use Rattle.input_files.specs.Judged.{told, go_on}
use Rattle.input_files.specs.Refusals.{refused_assertions, refused_manifest}

-- the assertions are of more records than the manifest has cards
abbrev pub more_records : List ℕ → Verdict
more_records name = Refused name (broken_at (codes "F7") 0)

-- a plan over this many cards
abbrev pub plan_over : PlanTask → ℕ → Content → Verdict
plan_over task cards file =
    if nat_le file.records cards
    then Answered Done (plan_table file cards task.gamma task.limit)
    else more_records task.assertions

-- the script once the manifest, which has this many cards, has been read
abbrev pub after_manifest : PlanTask → ℕ → Script
after_manifest task cards = Read task.assertions (λ bytes.
    go_on (told (refused_assertions task.assertions) (assertion_file_of bytes)) (λ file.
    ends (plan_over task cards file)))

abbrev pub script : PlanTask → Script
script task = Read task.manifest (λ bytes.
    go_on (told (refused_manifest task.manifest) (manifest_of bytes)) (λ batches.
    after_manifest task (length (cards_of batches))))

-- the kind of its answer
abbrev pub kinds : List AnswerKind
kinds = Done ∷ []
