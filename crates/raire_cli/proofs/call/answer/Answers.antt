use Rattle.std.proofs.Common.{rules, ◌≡◌, ◌∙◌, sym}
use Rattle.cli_base.specs.Due.{due}
use Rattle.cli_base.specs.Outcome.{out_of_memory}
use Rattle.cli_base.proofs.Begun.{memory_here}
use Rattle.command_line.specs.Line.{command_of}
use Rattle.command_line.specs.Words.{texts}
use Rattle.raire_cli.proofs.Begun.{command_come, no_line_come, nothing_begun}
use Rattle.raire_cli.proofs.call.answer.Goals as goal

-- if the words run out of memory, no file is begun
pub returns-in_err-command-clause-due : goal.returns-in_err-command-clause-due
returns-in_err-command-clause-due g c =
    let memory : due c.from_residual.result ≡ out_of_memory = search rules in
    memory_here _ _ _ _ memory

pub returns-in_err-command-clause-served : goal.returns-in_err-command-clause-served
returns-in_err-command-clause-served g c =
    let nine : (due c.from_residual.result).status ≡ 9 = search rules in
    nothing_begun _ _ _ nine

pub returns-in-Some-clause-due : goal.returns-in-Some-clause-due
returns-in-Some-clause-due g c =
    command_come _ (command_of (texts c.args.words.now)) c.in-Some.command _ (sym c.in_ok-command.ensures.read ∙ c.in-Some.is) c.answer_command.ensures.due

pub returns-in-None-clause-due : goal.returns-in-None-clause-due
returns-in-None-clause-due g c = no_line_come _ _ (command_of (texts c.args.words.now)) (sym c.in_ok-command.ensures.read ∙ c.in-None.is)
