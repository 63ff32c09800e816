use Rattle.std.proofs.lemmas.Bool.{and_parts}
use Rattle.command_line.specs.Line.{is_given_right, seed}
use Rattle.command_line.specs.declared.commands.Command.TheVariants.{PollEach}
use Rattle.command_line.specs.declared.table.CommandName.TheVariants as command
use Rattle.command_line.specs.declared.table.OptionName.TheVariants.{Seed}
use Rattle.command_line.proofs.Needed.{parts, seed_given}
use Rattle.command_line.proofs.commands.poll_each.Goals as goal

pub seed-requires : goal.seed-requires
seed-requires c =
    let pieces = c.requires.pieces in
    let line = parts command.PollEach pieces c.requires.right in
    let right = (and_parts (is_given_right Seed pieces) _ line.options).0 in
    (seed pieces, seed_given pieces line.fit right, c.requires.shows.options.0)

pub returns : goal.returns
returns c = λ pieces fit shows i. PollEach (record {
  manifest = c.in_ok-file.ensures _ shows.files.0 i;
  assertions = c.in_ok-file-2.ensures _ shows.files.1.0 i;
  seen = c.in_ok-file-3.ensures _ shows.files.1.1.0 i;
  seed = c.seed.ensures pieces shows.options.0 i;
  draws = c.number.ensures pieces fit shows.options.1.0 i;
  limit = c.number-2.ensures pieces fit shows.options.1.1.0 i;
  gamma = c.each_gamma.ensures pieces fit shows.options.1.1.1.0 i;
  nodes = c.number-3.ensures pieces fit shows.options.1.1.1.1.0 i;
})
