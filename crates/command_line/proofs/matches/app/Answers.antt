use Rattle.std.proofs.Common.{◌≡◌, ◌∙◌, map, ap, ap₂}
use Rattle.std.proofs.lemmas.Result.{IfOk-weaker}
use Rattle.clap.specs.Simple.{app_of, new_app}
use Rattle.command_line.specs.OneForm.{option_rule, with_rules}
use Rattle.command_line.specs.Table.{text_of}
use Rattle.command_line.proofs.Rules.{rules-of_files}
use Rattle.command_line.proofs.matches.app.Goals as goal

pub returns : goal.returns
returns c =
    let form = c.args.form in
    let with_options : app_of c.in_ok-app.app ≡ with_rules (new_app form.word.now) (map (λ option. option_rule (text_of option)) form.options.now) =
    c.in_ok-app.ensures ∙ ap (λ app. with_rules app (map (λ option. option_rule (text_of option)) form.options.now)) c.new-app.ensures.app in
    IfOk-weaker c.with_files.result _ _ (λ app h. h ∙ ap₂ with_rules with_options (rules-of_files form.files.now)) c.with_files.ensures
