use Rattle.command_line.specs.declared.commands.Command.TheVariants.{Plan}
use Rattle.command_line.proofs.commands.plan.Goals as goal

pub returns : goal.returns
returns c = λ pieces fit shows i. Plan (record {
  manifest = c.in_ok-file.ensures _ shows.files.0 i;
  assertions = c.in_ok-file-2.ensures _ shows.files.1.0 i;
  limit = c.number.ensures pieces fit shows.options.0 i;
  gamma = c.number-2.ensures pieces fit shows.options.1.0 i;
})
