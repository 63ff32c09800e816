use Rattle.std.proofs.Common.{rules, ◌∙◌, sym, ap₂, arith}
use Rattle.clap.specs.Simple.{app_of, new_rule, with_rule}
use Rattle.command_line.proofs.Rules.{with_more}
use Rattle.command_line.proofs.matches.with_files.Goals as goal

pub loop-name-preserved : goal.loop-name-preserved
loop-name-preserved c =
    c.in_ok-app.ensures.shape (search rules)
    ∙ ap₂ with_rule c.loop-name.invariant c.new.ensures.rule
    ∙ sym (with_more (λ name. new_rule name.now) (app_of c.args.app) c.args.files.now c.loop-name.name-index _ (omega arith))
