use Rattle.command_line.specs.declared.commands.Command.TheVariants.{Trial}
use Rattle.command_line.proofs.commands.trial.Goals as goal

pub returns : goal.returns
returns c = λ pieces fit shows i. Trial (record {
  number = c.number.ensures pieces fit shows.options.0 i;
  candidates = c.number-2.ensures pieces fit shows.options.1.0 i;
  ballots = c.number-3.ensures pieces fit shows.options.1.1.0 i;
  workers = c.number-4.ensures pieces fit shows.options.1.1.1.0 i;
  budget = c.budget.ensures pieces fit shows.options.1.1.1.1.0 shows.options.1.1.1.1.1.0 i;
})
