use Rattle.std.proofs.Common.{ap, rules, true, w64, sym, subst, ◌∙◌, ◌≡◌, SFits, to_z-of_z}
use Rattle.assertions.specs.Assertions.{is_proper, margin}
use Rattle.set_tallies.specs.Bags.{HasTallies}
use Rattle.set_tallies.proofs.Filled.{has-tallies}
use Rattle.assertions.proofs.margins.margin.Goals as goal

pub returns-in-Some-clause-margin : goal.returns-in-Some-clause-margin
returns-in-Some-clause-margin c records h =
    let n = c.args.t.now.bag.n in
    let fits : SFits w64 c.nen_margin.result = search rules in
    let proper = subst (λ a. is_proper n a ≡ true) c.in-Nen.is c.requires in
    to_z-of_z fits ∙ c.nen_margin.ensures n c.in-Nen.rest records (c.in-Some.ensures.tallies records h) proper ∙ ap (margin records) (sym c.in-Nen.is)

pub returns-in_ok-row-in-None-clause-margin : goal.returns-in_ok-row-in-None-clause-margin
returns-in_ok-row-in-None-clause-margin c records h =
    let n = c.args.t.now.bag.n in
    let fits : SFits w64 c.nen_margin-in-None.result = search rules in
    let proper = subst (λ a. is_proper n a ≡ true) c.in-Nen.is c.requires in
    let row : HasTallies records n c.in-Nen.rest c.deref.result.now =
    has-tallies records n c.in-Nen.rest c.deref.result.now (c.deref.ensures.value ∙ c.in_ok-row-in-None.ensures.tallies records h) in
    to_z-of_z fits ∙ c.nen_margin-in-None.ensures n c.in-Nen.rest records row proper ∙ ap (margin records) (sym c.in-Nen.is)
