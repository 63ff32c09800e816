use Rattle.command_line.specs.declared.commands.Command.TheVariants.{SearchFewest}
use Rattle.command_line.proofs.commands.search_fewest.Goals as goal

pub returns : goal.returns
returns c = λ pieces fit shows i. SearchFewest (record {
  ballots = c.in_ok-file.ensures _ shows.files.0 i;
  contest = c.contest.ensures pieces fit shows.options.0 i;
  workers = c.number.ensures pieces fit shows.options.1.0 i;
  sets = c.number-2.ensures pieces fit shows.options.1.1.0 i;
  floor = c.number-3.ensures pieces fit shows.options.1.1.1.0 i;
  gap = c.number-4.ensures pieces fit shows.options.1.1.1.1.0 i;
  plan = c.plan_terms.ensures pieces fit shows.options.1.1.1.1.1.0 shows.options.1.1.1.1.1.1.0 shows.options.1.1.1.1.1.1.1.0 i;
})
