use Rattle.std.proofs.Common.{◌≡◌, inl, Some, Ok, Err, refl, sym, ap, ◌∙◌}
use Rattle.cli_base.specs.Outcome.{Answered}
use Rattle.cli_base.specs.declared.outcome.AnswerKind.TheVariants.{Done}
use Rattle.trimmer.specs.Trimmed.{trimmed}
use Rattle.trimmer.specs.declared.fault.TrimFault.TheVariants.{Spent}
use Rattle.trim_command.specs.Trim.{trim_verdict}
use Rattle.trim_command.proofs.Trims.{spent-below}
use Rattle.trim_command.proofs.trim.accepted.Goals as goal

pub spent_answer-requires : goal.spent_answer-requires
spent_answer-requires c =
    let is = c.in-Spent.is in
    let e : trimmed c.args.budget c.args.file.now ≡ Err (Spent c.in-Spent.claim c.in-Spent.last) = sym (c.in-Err.ensures (λ m. cc)) ∙ ap Err is in
    spent-below c.args.budget c.args.file.now c.in-Spent.claim c.in-Spent.last e

pub returns-in_ok-print_file-in-Ok : goal.returns-in_ok-print_file-in-Ok
returns-in_ok-print_file-in-Ok c =
    inl (
      Answered Done c.in_ok-print_file-in-Ok.field-0.items,
      ap (trim_verdict c.args.file.now) (sym (c.in-Ok.ensures (λ m. cc)))
          ∙ ap (λ text. Some (Answered Done text)) (sym c.in_ok-print_file-in-Ok.ensures.text),
      refl,
    )
