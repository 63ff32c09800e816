use Rattle.std.proofs.Common.{◌≡◌, ap, arith, subst, sym, ◌∙◌}
use Rattle.assertions.specs.Scores.{all_offered, no_score}
use Rattle.set_tallies.specs.Bags.{AreOf, HasTallies, IsOf, Source}
use Rattle.set_tallies.proofs.Filled.{has-tallies}
use Rattle.assertions.specs.Steps.{more}
use Rattle.set_search.specs.Offers.{offers}
use Rattle.set_search.proofs.Mores.{more-below}
use Rattle.set_search.proofs.Stepping.{step_offered}
use Rattle.set_search.proofs.steps.step_of.Goals as goal

pub row-requires : goal.row-requires
row-requires c =
    let sum = c.with-with.ensures.number c.requires.outside in
    let small = more-below c.args.tallies.now.bag.n c.args.set c.args.c c.requires.set c.requires.below c.requires.outside in
    omega (arith, sum, small)

pub tally-requires : goal.tally-requires
tally-requires c =
    let sum = c.with-with.ensures.number c.requires.outside in
    let small = more-below c.args.tallies.now.bag.n c.args.set c.args.c c.requires.set c.requires.below c.requires.outside in
    omega (arith, sum, small)

pub returns-in-Some-clause-step : goal.returns-in-Some-clause-step
returns-in-Some-clause-step c = λ records of.
    let n = c.args.tallies.now.bag.n in
    let sum = c.with-with.ensures.number c.requires.outside in
    let same : c.with-with.result ≡ more c.args.set c.args.c = omega (arith, sum) in
    let counts = subst (λ a. AreOf a records) (sym c.ahead.ensures.same) (c.ahead.ensures.own.own records of) in
    let tallied = subst (λ s. HasTallies records c.args.tallies.now.bag.n s c.in-Some.row.now) same (c.in-Some.ensures.tallies records of) in
    c.offer_all.ensures records counts
    (subst (λ k. HasTallies records k (more c.args.set c.args.c) c.in-Some.row.now) (sym c.candidates-n.ensures.same) tallied)
    ∙ ap (λ k. all_offered records no_score (offers k c.args.set c.args.c)) c.candidates-n.ensures.same
    ∙ sym (step_offered c.args.tallies.now.bag.n records c.args.set c.args.c c.requires.set c.requires.below c.requires.outside)

pub returns-in_ok-row-in-None-clause-step : goal.returns-in_ok-row-in-None-clause-step
returns-in_ok-row-in-None-clause-step c = λ records of.
    let sum = c.with-with.ensures.number c.requires.outside in
    let same : c.with-with.result ≡ more c.args.set c.args.c = omega (arith, sum) in
    let counts = subst (λ a. AreOf a records) (sym c.ahead-in-None.ensures.same)
    (c.ahead-in-None.ensures.own.own records (subst (λ (t : Source). IsOf t.bag records) (sym c.tally.ensures.same) of)) in
    let row = has-tallies records c.args.tallies.now.bag.n c.with-with.result c.deref.result.now
    (c.deref.ensures.value ∙ c.in_ok-row-in-None.ensures.tallies records of) in
    let tallied = subst (λ s. HasTallies records c.args.tallies.now.bag.n s c.deref.result.now) same row in
    c.offer_all-in-None.ensures records counts
    (subst (λ k. HasTallies records k (more c.args.set c.args.c) c.deref.result.now) (sym c.candidates-n.ensures.same) tallied)
    ∙ ap (λ k. all_offered records no_score (offers k c.args.set c.args.c)) c.candidates-n.ensures.same
    ∙ sym (step_offered c.args.tallies.now.bag.n records c.args.set c.args.c c.requires.set c.requires.below c.requires.outside)
