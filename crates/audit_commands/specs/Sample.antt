-- `sample MANIFEST`: the cards that a seed draws.
use Rattle.std.specs.Prelude.{List, [], ◌∷◌}
use Rattle.manifest.specs.Cards.{Batches}
use Rattle.manifest.specs.Manifest.{manifest_of}
use Rattle.audit_report.specs.Sample.{sample_table}
use Rattle.cli_base.specs.Outcome.{Verdict, Answered}
use Rattle.cli_base.specs.declared.outcome.AnswerKind.{AnswerKind}
use Rattle.cli_base.specs.declared.outcome.AnswerKind.TheVariants.{Done}
use Rattle.cli_base.specs.Script.{Script, Read, ends}
use Rattle.command.specs.declared.sample.SampleTask.{SampleTask}
use Rattle.input_files.specs.Judged.{told, go_on}
use Rattle.input_files.specs.Refusals.{refused_manifest}

abbrev pub sample_of : SampleTask → Batches → Verdict
sample_of task batches = Answered Done (sample_table batches task.seed task.draws)

abbrev pub script : SampleTask → Script
script task = Read task.manifest (λ bytes.
    go_on (told (refused_manifest task.manifest) (manifest_of bytes)) (λ batches.
    ends (sample_of task batches)))

-- the kind of its answer
abbrev pub kinds : List AnswerKind
kinds = Done ∷ []
