use Rattle.std.proofs.Common.{Some, ap, sym, ◌∙◌}
use Rattle.std.specs.Prelude.{option_map}
use Rattle.std.proofs.lemmas.Result.{err_from_is_err_and}
use Rattle.serde_json.specs.View.{view}
use Rattle.session_file.specs.Views.{stated_entry}
use Rattle.session_file.proofs.Rounds.{a_round, no_counts, no_entry, no_risks}
use Rattle.session_file.proofs.lists.DoneRoundStated.stated.Goals as goal

pub returns-in_default-clause-refused : goal.returns-in_default-clause-refused
returns-in_default-clause-refused c = no_entry (view c.args.value.now) (sym c.entry_in.ensures ∙ ap (option_map stated_entry) c.in_default.is)

pub returns-in_err-counts-clause-refused : goal.returns-in_err-counts-clause-refused
returns-in_err-counts-clause-refused c =
    let p = err_from_is_err_and c.from_residual.result c.from_residual.ensures.1 in
    rw (p.1, p.2) (no_counts (view c.args.value.now) (stated_entry c.in-Some.entry) (sym c.in-Some.ensures) _ c.in_err-counts.ensures.refused)

pub returns-in_err-risks-clause-refused : goal.returns-in_err-risks-clause-refused
returns-in_err-risks-clause-refused c =
    let p = err_from_is_err_and c.from_residual-in_err-risks.result c.from_residual-in_err-risks.ensures.1 in
    rw (p.1, p.2) (no_risks (view c.args.value.now) (stated_entry c.in-Some.entry)
    (sym c.in-Some.ensures) _ _ c.in_ok-counts.ensures.read c.in_err-risks.ensures.refused)

pub returns-clause-read : goal.returns-clause-read
returns-clause-read c =
    a_round (view c.args.value.now) (stated_entry c.in-Some.entry) (sym c.in-Some.ensures) _ _ c.in_ok-counts.ensures.read c.in_ok-risks.ensures.read
    ∙ sym (ap Some c.new.ensures)
