use Rattle.std.proofs.Common.{◌≡◌, ◌∙◌, true, ap, ap₂, subst, sym}
use Rattle.std.proofs.lemmas.Result.{IfErr-weaker, IfOk-weaker}
use Rattle.clap.specs.Simple.{app_of, is_simple, matches_of}
use Rattle.clap.specs.Takes.{takes}
use Rattle.command_line.specs.OneForm.{app_for, app_of_command, Shows}
use Rattle.command_line.proofs.Taken.{is_taken}
use Rattle.command_line.proofs.matches.matches_of.Goals as goal

pub returns-clause-shows : goal.returns-clause-shows
returns-clause-shows c = λ pieces e.
    let command = c.args.command in
    let app-is : app_of c.in_ok-app.field-0 ≡ app_of_command command =
    c.in_ok-app.ensures ∙ (λ i. app_for (c.form.ensures.word i) (c.form.ensures.files i) (c.form.ensures.options i)) in
    let is : is_simple (app_of c.in_ok-app.field-0) ≡ true = ap is_simple app-is ∙ (is_taken command pieces).simple in
    IfOk-weaker c.try_get_matches_from.result _ _ (λ m h. subst (Shows command pieces) (sym ((h is).0 ∙ ap₂ matches_of app-is e))
    (is_taken command pieces).shown)
    c.try_get_matches_from.ensures.matches

pub returns-clause-memory : goal.returns-clause-memory
returns-clause-memory c = λ pieces e.
    let command = c.args.command in
    let app-is : app_of c.in_ok-app.field-0 ≡ app_of_command command =
    c.in_ok-app.ensures ∙ (λ i. app_for (c.form.ensures.word i) (c.form.ensures.files i) (c.form.ensures.options i)) in
    IfErr-weaker c.try_get_matches_from.result _ _ (λ x h. h (ap₂ takes app-is e ∙ (is_taken command pieces).taken)) c.try_get_matches_from.ensures.passes
