use Rattle.std.proofs.Common.{◌≡◌, ◌++◌}
use Rattle.command_line.specs.OneForm.{files_given}
use Rattle.command_line.specs.Pieces.{pieces}
use Rattle.command_line.specs.Words.{texts}
use Rattle.command_line.proofs.one_form.push_files.Given as goal

abbrev pub invariant-loop-i : goal.invariant-loop-i
invariant-loop-i l = texts l.line.items ≡ texts l.initial.line.items ++ files_given l.i (pieces l.options (texts l.words))
