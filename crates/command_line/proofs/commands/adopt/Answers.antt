use Rattle.command_line.specs.declared.commands.Command.TheVariants.{Adopt}
use Rattle.command_line.proofs.commands.adopt.Goals as goal

pub returns : goal.returns
returns c = λ pieces fit shows i. Adopt (record {
  ballots = c.in_ok-file.ensures _ shows.files.0 i;
  claims = c.in_ok-file-2.ensures _ shows.files.1.0 i;
  contest = c.contest.ensures pieces fit shows.options.0 i;
  budget = c.budget.ensures pieces fit shows.options.1.0 shows.options.1.1.0 i;
})
