use Rattle.std.proofs.Common.{◌≡◌, ◌++◌, take}
use Rattle.command_line.specs.OneForm.{options_given}
use Rattle.command_line.specs.Pieces.{pieces}
use Rattle.command_line.specs.Words.{texts}
use Rattle.command_line.proofs.one_form.push_options.Given as goal

abbrev pub invariant-loop-option : goal.invariant-loop-option
invariant-loop-option l = texts l.line.items ≡ texts l.initial.line.items ++ options_given (take l.option-index l.options) (pieces l.options (texts l.words))
