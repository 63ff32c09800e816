use Rattle.command_line.specs.declared.commands.Command.TheVariants.{Audit}
use Rattle.command_line.proofs.commands.audit.Goals as goal

pub returns : goal.returns
returns c = λ pieces fit shows i. Audit (record {
  session = c.in_ok-file.ensures _ shows.files.0 i;
  ballots = c.in_ok-file-2.ensures _ shows.files.1.0 i;
  manifest = c.in_ok-file-3.ensures _ shows.files.1.1.0 i;
  assertions = c.in_ok-file-4.ensures _ shows.files.1.1.1.0 i;
  seen = c.in_ok-file-5.ensures _ shows.files.1.1.1.1.0 i;
  draws = c.number.ensures pieces fit shows.options.0 i;
  budget = c.budget.ensures pieces fit shows.options.1.0 shows.options.1.1.0 i;
})
