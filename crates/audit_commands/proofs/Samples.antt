-- A sample has one end.
use Rattle.std.proofs.Common.{refl, sym, ap, ◌∙◌}
use Rattle.manifest.specs.Manifest.{manifest_of}
use Rattle.cli_base.specs.Outcome.{outcome}
use Rattle.cli_base.specs.Script.{Agree, AreOfKind, Same}
use Rattle.cli_base.specs.declared.outcome.AnswerKind.TheVariants.{Done}
use Rattle.cli_base.proofs.Ended.{answer-kind}
use Rattle.command.specs.declared.sample.SampleTask.{SampleTask}
use Rattle.input_files.specs.Judged.{told}
use Rattle.input_files.specs.Refusals.{refused_manifest}
use Rattle.input_files.proofs.Going.{go_on-agrees, go_on-kinds, told-only}
use Rattle.audit_commands.specs.Sample.{kinds, script}

pub agrees : (task : SampleTask) → Agree Same (script task)
agrees task = λ m. go_on-agrees (told (refused_manifest task.manifest) (manifest_of m)) _ (λ batches v w p q. ap outcome (p ∙ sym q))

pub kinds_are : (task : SampleTask) → AreOfKind kinds (script task)
kinds_are task = λ m. go_on-kinds kinds (told (refused_manifest task.manifest) (manifest_of m)) _
    (told-only (refused_manifest task.manifest) (manifest_of m) (λ why. tt)) (λ batches v is. answer-kind kinds Done _ v refl is)
