use Rattle.command_line.specs.declared.commands.Command.TheVariants.{Tabulate}
use Rattle.command_line.proofs.commands.tabulate.Goals as goal

pub returns : goal.returns
returns c = λ pieces fit shows i. Tabulate (record {
  ballots = c.in_ok-file.ensures _ shows.files.0 i;
  contest = c.contest.ensures pieces fit shows.options.0 i;
  nodes = c.number.ensures pieces fit shows.options.1.0 i;
})
