use Rattle.std.proofs.Common.{[], sym, ap, ◌∙◌}
use Rattle.irv_base.specs.Names.{is_among, is_same}
use Rattle.irv_base.proofs.Positions.{stands_at, stands_nowhere}
use Rattle.assertion_file.specs.Views.{stated_heading}
use Rattle.assertion_file.specs.declared.fault.FRule.TheVariants.{F4}
use Rattle.assertion_file.proofs.Headings.{refuse, no_winner}
use Rattle.assertion_file.proofs.read.chosen_of.Goals as goal

pub returns-in_default-clause-refused : goal.returns-in_default-clause-refused
returns-in_default-clause-refused c =
    let heading = stated_heading c.args.heading.now in
    let out = stands_nowhere (λ other. is_same other heading.winner) c.args.names.now (sym c.candidate.ensures ∙ c.in_default.is) in
    refuse _ F4 _ (no_winner heading (ap (λ ids. is_among ids heading.winner) (sym c.requires.same) ∙ out)) c.refused.ensures

pub numbers_of-requires-clause-winner : goal.numbers_of-requires-clause-winner
numbers_of-requires-clause-winner c =
    let heading = stated_heading c.args.heading.now in
    (stands_at (λ other. is_same other heading.winner) c.args.names.now _ [] (sym c.in-Some.ensures)).among
