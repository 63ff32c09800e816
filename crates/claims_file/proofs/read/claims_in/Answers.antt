use Rattle.std.proofs.Common.{◌∙◌, sym, ap, subst}
use Rattle.std.specs.Prelude.{option_map}
use Rattle.std.proofs.lemmas.Result.{err_from_is_err_and}
use Rattle.serde_json.specs.View.{view}
use Rattle.file_fault.specs.Refusals.{Refuses}
use Rattle.claims_file.specs.Reading.{claims_in}
use Rattle.claims_file.specs.Views.{stated_heading}
use Rattle.claims_file.proofs.Headings.{claims-none, read_claims, refused_assertions, refused_heading}
use Rattle.claims_file.proofs.read.claims_in.Goals as goal

pub returns-in_default-clause-refused : goal.returns-in_default-clause-refused
returns-in_default-clause-refused c =
    subst (Refuses (claims_in c.args.contest.now c.args.names.now (view c.args.value.now))) (sym c.refused.ensures)
    (claims-none c.args.contest.now c.args.names.now (view c.args.value.now) (sym c.heading_in.ensures ∙ ap (option_map stated_heading) c.in_default.is))

pub returns-in_err-winner-clause-refused : goal.returns-in_err-winner-clause-refused
returns-in_err-winner-clause-refused c =
    let p = err_from_is_err_and c.from_residual.result c.from_residual.ensures.1 in
    rw (p.1, p.2)
    (refused_heading c.args.contest.now c.args.names.now (stated_heading c.in-Some.heading) (view c.args.value.now) _ (sym c.in-Some.ensures)
    c.in_err-winner.ensures.refused)

pub returns-in_err-assertions-clause-refused : goal.returns-in_err-assertions-clause-refused
returns-in_err-assertions-clause-refused c =
    let p = err_from_is_err_and c.from_residual-in_err-assertions.result c.from_residual-in_err-assertions.ensures.1 in
    rw (p.1, p.2)
    (refused_assertions c.args.contest.now c.args.names.now (stated_heading c.in-Some.heading) (view c.args.value.now) _ (sym c.in-Some.ensures)
    c.in_ok-winner.ensures.kept c.in_err-assertions.ensures.refused)

pub returns-clause-read : goal.returns-clause-read
returns-clause-read c =
    read_claims c.args.contest.now c.args.names.now (stated_heading c.in-Some.heading) (view c.args.value.now) _ _ (sym c.in-Some.ensures)
    c.in_ok-winner.ensures.kept c.in_ok-winner.ensures.winner c.in_ok-assertions.ensures.read
