use Rattle.std.proofs.Common.{rules, ◌∙◌, sym, ap, ap₂, arith}
use Rattle.clap.specs.Simple.{app_of, with_rule}
use Rattle.command_line.specs.OneForm.{option_rule}
use Rattle.command_line.specs.Table.{text_of}
use Rattle.command_line.proofs.Rules.{with_more}
use Rattle.command_line.proofs.matches.with_options.Goals as goal

pub loop-option-preserved : goal.loop-option-preserved
loop-option-preserved c =
    c.in_ok-app.ensures.shape (search rules)
    ∙ ap₂ with_rule c.loop-option.invariant (c.option_arg.ensures.rule ∙ ap option_rule c.text.ensures)
    ∙ sym (with_more (λ option. option_rule (text_of option)) (app_of c.args.app) c.args.options.now c.loop-option.option-index _ (omega arith))
