use Rattle.std.proofs.Common.{◌≡◌, map, take}
use Rattle.clap.specs.Simple.{app_of, new_rule}
use Rattle.command_line.specs.OneForm.{with_rules}
use Rattle.command_line.proofs.matches.with_files.Given as goal

abbrev pub invariant-loop-name : goal.invariant-loop-name
invariant-loop-name l = app_of l.app ≡ with_rules (app_of l.initial.app) (map (λ name. new_rule name.now) (take l.name-index l.files))
