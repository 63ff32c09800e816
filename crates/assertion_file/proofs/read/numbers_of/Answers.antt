use Rattle.std.proofs.Common.{◌≡◌, Some, refl, sym, ap, ◌∙◌}
use Rattle.irv_base.specs.Names.{is_among}
use Rattle.assertion_file.specs.Views.{stated_heading, stated_ids}
use Rattle.assertion_file.specs.declared.fault.FRule.TheVariants.{F4}
use Rattle.assertion_file.proofs.Headings.{refuse, not_among, all_named, of_order}
use Rattle.assertion_file.proofs.read.numbers_of.Goals as goal

pub returns-in_default-clause-kept : goal.returns-in_default-clause-kept
returns-in_default-clause-kept c =
    let heading = stated_heading c.args.heading.now in
    let winner = ap (λ ids. is_among ids heading.winner) (sym c.requires.same) ∙ c.requires.winner in
    all_named heading winner (rw c.in_default.is refl)

pub returns-in_default-2-clause-refused : goal.returns-in_default-2-clause-refused
returns-in_default-2-clause-refused c =
    let heading = stated_heading c.args.heading.now in
    let winner = ap (λ ids. is_among ids heading.winner) (sym c.requires.same) ∙ c.requires.winner in
    let is : (stated_heading c.args.heading.now).order ≡ Some (stated_ids c.in-Some.order.now) = rw c.in-Some.is refl in
    let out = rw c.in_default-2.is at c.in_ok-numbers.ensures.none in
    refuse _ F4 _ (not_among heading winner (of_order heading _ _ _ c.requires.same is out)) c.refused.ensures

pub returns-clause-kept : goal.returns-clause-kept
returns-clause-kept c =
    let heading = stated_heading c.args.heading.now in
    let winner = ap (λ ids. is_among ids heading.winner) (sym c.requires.same) ∙ c.requires.winner in
    let is : (stated_heading c.args.heading.now).order ≡ Some (stated_ids c.in-Some.order.now) = rw c.in-Some.is refl in
    let order = rw c.in-Some-2.is at c.in_ok-numbers.ensures.among in
    all_named heading winner (of_order heading _ _ _ c.requires.same is order)
