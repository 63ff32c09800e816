-- A line in its one form is accepted by the command that is made for it, which then shows its values. There is one row for each command.
use Rattle.std.proofs.Common.{◌≡◌, refl, rules, true, List}
use Rattle.clap.specs.Simple.{is_simple, matches_of}
use Rattle.clap.specs.Takes.{takes}
use Rattle.clap.proofs.OnLiterals.{clap_on_literals}
use Rattle.command_line.specs.OneForm.{app_of_command, one_form, Shows}
use Rattle.command_line.specs.Pieces.{Piece}
use Rattle.command_line.specs.declared.table.CommandName.{CommandName}
use Rattle.command_line.specs.declared.table.CommandName.TheVariants.{Search}

pub record IsTaken (command : CommandName) (pieces : List Piece) : Type 0 where
  pub simple : is_simple (app_of_command command) ≡ true
  pub taken : takes (app_of_command command) (one_form command pieces) ≡ true
  pub shown : Shows command pieces (matches_of (app_of_command command) (one_form command pieces))

pub is_taken : (command : CommandName) (pieces : List Piece) → IsTaken command pieces
unfolding clap_on_literals
is_taken Search pieces = record { simple = refl; taken = refl; shown = record { options = (refl, (refl, (refl, (refl, (refl, (refl, (refl, (refl, tt)))))))); files = (refl, tt) } }
is_taken _ pieces = record { simple = refl; taken = refl; shown = record { options = search rules; files = search rules } }
