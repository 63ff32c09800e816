use Rattle.std.proofs.Common.{◌≡◌, map, take}
use Rattle.clap.specs.Simple.{app_of}
use Rattle.command_line.specs.OneForm.{option_rule, with_rules}
use Rattle.command_line.specs.Table.{text_of}
use Rattle.command_line.proofs.matches.with_options.Given as goal

abbrev pub invariant-loop-option : goal.invariant-loop-option
invariant-loop-option l = app_of l.app ≡ with_rules (app_of l.initial.app) (map (λ option. option_rule (text_of option)) (take l.option-index l.options))
