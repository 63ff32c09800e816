use Rattle.std.proofs.Common.{◌∙◌, sym}
use Rattle.std.proofs.lemmas.Result.{err_from_is_err_and}
use Rattle.assertion_file.specs.Views.{stated_heading}
use Rattle.assertion_file.specs.declared.fault.FRule.TheVariants.{F5, F6}
use Rattle.assertion_file.proofs.Headings.{refuse, ids-refused, named-refused, HasNamed, same_order, no_order, no_counts, all_kept}
use Rattle.assertion_file.proofs.read.names_of.Goals as goal

pub returns-in_err-ids-clause-refused : goal.returns-in_err-ids-clause-refused
returns-in_err-ids-clause-refused c =
    let p = err_from_is_err_and c.from_residual.result c.from_residual.ensures.1 in
    rw (p.1, p.2) (ids-refused (stated_heading c.args.heading.now) _ c.in_err-ids.ensures.refused)

pub returns-in_err-chosen-clause-refused : goal.returns-in_err-chosen-clause-refused
returns-in_err-chosen-clause-refused c =
    let p = err_from_is_err_and c.from_residual-in_err-chosen.result c.from_residual-in_err-chosen.ensures.1 in
    rw (p.1, p.2) (named-refused (stated_heading c.args.heading.now) _ c.in_ok-ids.ensures.kept c.in_err-chosen.ensures.refused)

pub returns-in_err-order-clause-refused : goal.returns-in_err-order-clause-refused
returns-in_err-order-clause-refused c =
    let heading = stated_heading c.args.heading.now in
    let has : HasNamed heading = record { ids = c.in_ok-ids.ensures.kept; named = c.in_ok-chosen.ensures.kept } in
    let order = same_order heading _ _ (c.as_slice-names.ensures.value ∙ c.in_ok-ids.ensures.candidates) c.in_ok-chosen.ensures.numbers in
    let p = err_from_is_err_and c.from_residual-in_err-order.result c.from_residual-in_err-order.ensures.1 in
    rw (p.1, p.2) (refuse _ F5 _ (no_order heading has (order ∙ c.in_err-order.ensures.none)) c.in_err-order.ensures.rule)

pub returns-then-not-are_counts-clause-refused : goal.returns-then-not-are_counts-clause-refused
returns-then-not-are_counts-clause-refused c =
    let heading = stated_heading c.args.heading.now in
    let has : HasNamed heading = record { ids = c.in_ok-ids.ensures.kept; named = c.in_ok-chosen.ensures.kept } in
    let order = same_order heading _ _ (c.as_slice-names.ensures.value ∙ c.in_ok-ids.ensures.candidates) (c.in_ok-order.ensures.order ∙ c.in_ok-chosen.ensures.numbers) in
    let counts = sym c.are_counts.ensures ∙ c.if-not-are_counts.true in
    refuse _ F6 _ (no_counts heading has (order ∙ c.in_ok-order.ensures.valid) counts) c.refused.ensures

pub returns-clause-kept : goal.returns-clause-kept
returns-clause-kept c =
    let heading = stated_heading c.args.heading.now in
    let has : HasNamed heading = record { ids = c.in_ok-ids.ensures.kept; named = c.in_ok-chosen.ensures.kept } in
    let order = same_order heading _ _ (c.as_slice-names.ensures.value ∙ c.in_ok-ids.ensures.candidates) (c.in_ok-order.ensures.order ∙ c.in_ok-chosen.ensures.numbers) in
    all_kept heading has (order ∙ c.in_ok-order.ensures.valid) (sym c.are_counts.ensures ∙ c.if-not-are_counts.false)
