use Rattle.std.proofs.Common.{sym, subst}
use Rattle.desk.specs.Count.{Rose}
use Rattle.cli_base.specs.Begun.{HasCome}
use Rattle.cli_base.specs.Due.{due}
use Rattle.cli_base.specs.Script.{ByDesk, Runs}
use Rattle.cli_base.proofs.Begun.{come_now}
use Rattle.search_commands.specs.Trial.{script}
use Rattle.raire_cli.specs.Answers.{script_of}
use Rattle.raire_cli.proofs.commands.answer_command.Goals as goal

pub returns-in-Trial-clause-due : goal.returns-in-Trial-clause-due
returns-in-Trial-clause-due g c =
    let desk = c.args.desk.now in
    let faults = g.D.Desk.faults desk in
    let served = g.D.Desk.served desk in
    subst (λ command. HasCome (ByDesk (g.D.Desk.held desk) (Rose faults faults)) served served (Runs (script_of command)) (due c.answer-in-Trial.result))
    (sym c.in-Trial.is)
    (come_now (ByDesk (g.D.Desk.held desk) (Rose faults faults)) served (script c.in-Trial.task) (due c.answer-in-Trial.result)
    c.answer-in-Trial.ensures)
