-- A plan has one end.
use Rattle.std.proofs.Common.{ℕ, Bool, true, false, if◌then◌else◌, nat_le, length, refl, sym, ap, subst, ◌∙◌}
use Rattle.assertion_file.specs.Content.{Content}
use Rattle.assertion_file.specs.Reading.{assertion_file_of}
use Rattle.manifest.specs.Cards.{cards_of}
use Rattle.manifest.specs.Manifest.{manifest_of}
use Rattle.audit_report.specs.Plan.{plan_table}
use Rattle.cli_base.specs.Outcome.{Answered, outcome}
use Rattle.cli_base.specs.Script.{Agree, AreOfKind, IsOfKind, Same}
use Rattle.cli_base.specs.declared.outcome.AnswerKind.TheVariants.{Done}
use Rattle.cli_base.proofs.AmongKinds.{among}
use Rattle.command.specs.declared.plan.PlanTask.{PlanTask}
use Rattle.input_files.specs.Judged.{told}
use Rattle.input_files.specs.Refusals.{refused_assertions, refused_manifest}
use Rattle.input_files.proofs.Going.{go_on-agrees, go_on-kinds, told-only}
use Rattle.audit_commands.specs.Plan.{kinds, more_records, plan_over, script}

pub agrees : (task : PlanTask) → Agree Same (script task)
agrees task = λ m. go_on-agrees (told (refused_manifest task.manifest) (manifest_of m)) _ (λ batches.
    λ a. go_on-agrees (told (refused_assertions task.assertions) (assertion_file_of a)) _ (λ file v w p q. ap outcome (p ∙ sym q)))

over-kind : (task : PlanTask) (cards : ℕ) (file : Content) → IsOfKind kinds (plan_over task cards file)
over-kind task cards file = by (nat_le file.records cards) where
  by : (fits : Bool) → IsOfKind kinds (if fits then Answered Done (plan_table file cards task.gamma task.limit) else more_records task.assertions)
  by true = among kinds Done refl
  by false = tt

pub kinds_are : (task : PlanTask) → AreOfKind kinds (script task)
kinds_are task = λ m. go_on-kinds kinds (told (refused_manifest task.manifest) (manifest_of m)) _
    (told-only (refused_manifest task.manifest) (manifest_of m) (λ why. tt)) (λ batches.
    λ a. go_on-kinds kinds (told (refused_assertions task.assertions) (assertion_file_of a)) _
    (told-only (refused_assertions task.assertions) (assertion_file_of a) (λ why. tt)) (λ file v is.
    subst (IsOfKind kinds) (sym is) (over-kind task (length (cards_of batches)) file)))
