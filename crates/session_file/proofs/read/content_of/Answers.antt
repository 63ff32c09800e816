use Rattle.std.proofs.Common.{sym, ap, ◌∙◌}
use Rattle.std.specs.Prelude.{option_map}
use Rattle.std.proofs.lemmas.Result.{err_from_is_err_and}
use Rattle.serde_json.specs.View.{view}
use Rattle.session_file.specs.Views.{stated_heading}
use Rattle.session_file.proofs.Contents.{no_heading, no_margins, no_rounds, with-rounds}
use Rattle.session_file.proofs.read.content_of.Goals as goal

pub returns-in_default-clause-refused : goal.returns-in_default-clause-refused
returns-in_default-clause-refused c = no_heading (view c.args.value.now) (sym c.heading_in.ensures ∙ ap (option_map stated_heading) c.in_default.is)

pub returns-in_err-margins-clause-refused : goal.returns-in_err-margins-clause-refused
returns-in_err-margins-clause-refused c =
    let p = err_from_is_err_and c.from_residual.result c.from_residual.ensures.1 in
    rw (p.1, p.2) (no_margins (view c.args.value.now) (stated_heading c.in-Some.heading) (sym c.in-Some.ensures) _ c.in_err-margins.ensures.refused)

pub returns-in_err-rounds-clause-refused : goal.returns-in_err-rounds-clause-refused
returns-in_err-rounds-clause-refused c =
    let p = err_from_is_err_and c.from_residual-in_err-rounds.result c.from_residual-in_err-rounds.ensures.1 in
    rw (p.1, p.2) (no_rounds (view c.args.value.now) (stated_heading c.in-Some.heading)
    (sym c.in-Some.ensures) _ c.in_ok-margins.ensures.read _ c.in_err-rounds.ensures.refused)

pub returns-in_default-sound_session-clause-refused : goal.returns-in_default-sound_session-clause-refused
returns-in_default-sound_session-clause-refused c =
    with-rounds (view c.args.value.now) (stated_heading c.in-Some.heading) (sym c.in-Some.ensures) _ c.in_ok-margins.ensures.read _ c.in_ok-rounds.ensures.read
    ∙ sym c.sound_session.ensures ∙ c.in_default-sound_session.is

pub returns-clause-read : goal.returns-clause-read
returns-clause-read c =
    with-rounds (view c.args.value.now) (stated_heading c.in-Some.heading) (sym c.in-Some.ensures) _ c.in_ok-margins.ensures.read _ c.in_ok-rounds.ensures.read
    ∙ sym c.in-Some-sound_session.ensures
