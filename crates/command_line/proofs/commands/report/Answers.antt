use Rattle.command_line.specs.declared.commands.Command.TheVariants.{Report}
use Rattle.command_line.proofs.commands.report.Goals as goal

pub returns : goal.returns
returns c = λ pieces fit shows i. Report (record {
  session = c.in_ok-file.ensures _ shows.files.0 i;
})
