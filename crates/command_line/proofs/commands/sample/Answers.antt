use Rattle.std.proofs.Common.{◌&&◌, true}
use Rattle.std.proofs.lemmas.Bool.{and_parts}
use Rattle.command_line.specs.Line.{is_given_right, seed}
use Rattle.command_line.specs.declared.commands.Command.TheVariants.{Sample}
use Rattle.command_line.specs.declared.table.CommandName.TheVariants as command
use Rattle.command_line.specs.declared.table.OptionName.TheVariants.{Seed, Draws}
use Rattle.command_line.proofs.Needed.{parts, seed_given}
use Rattle.command_line.proofs.commands.sample.Goals as goal

pub seed-requires : goal.seed-requires
seed-requires c =
    let pieces = c.requires.pieces in
    let line = parts command.Sample pieces c.requires.right in
    let right = (and_parts (is_given_right Seed pieces) (is_given_right Draws pieces && true) line.options).0 in
    (seed pieces, seed_given pieces line.fit right, c.requires.shows.options.0)

pub returns : goal.returns
returns c = λ pieces fit shows i. Sample (record {
  manifest = c.in_ok-file.ensures _ shows.files.0 i;
  seed = c.seed.ensures pieces shows.options.0 i;
  draws = c.number.ensures pieces fit shows.options.1.0 i;
})
