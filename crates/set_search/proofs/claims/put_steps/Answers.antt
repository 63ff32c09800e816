use Rattle.std.proofs.Common.{◌≡◌, ◌+◌, ◌<◌, ap, arith, subst, sym, ◌∙◌}
use Rattle.assertions.specs.contracts.assertion.AssertionOrd.TheImpl.{ghosts}
use Rattle.set_tallies.specs.Bags.{IsOf, Source}
use Rattle.set_search.specs.Given.{with_each, with_step}
use Rattle.set_search.specs.Offers.{step_score}
use Rattle.set_search.proofs.Giving.{each-left, each-taken, outside_from}
use Rattle.set_search.proofs.claims.put_steps.Goals as goal
use Rattle.set_search.proofs.claims.put_steps.Goals.{then-not-has+in_ok-step+in_ok-put_step, else-not-has}

pub loop-c-preserved : goal.loop-c-preserved
loop-c-preserved c =
    let n = c.args.tallies.now.bag.n in
    let lt : c.loop-c.c < c.args.tallies.now.bag.n = omega (arith, c.loop-c-test.true, c.candidates-c-end.ensures.same) in
    elim c.if-not-has.branch [
      | then-not-has+in_ok-step+in_ok-put_step w ↦ record {
        same = w.tallies-is ∙ w.step_of.ensures.same ∙ c.loop-c.invariant.same;
        put = λ records of.
            let step : w.in_ok-step.step ≡ step_score n records c.args.set c.loop-c.c =
            w.in_ok-step.ensures.step records (subst (λ (t : Source). IsOf t.bag records) (sym c.loop-c.invariant.same) of)
            ∙ ap (λ (t : Source). step_score t.bag.n records c.args.set c.loop-c.c) c.loop-c.invariant.same in
            ap (λ m. with_each ghosts.cmp n records c.args.margin m.entries c.args.set (outside_from c.args.closed (c.loop-c.c + 1) n)) w.claims-is
            ∙ ap (λ es. with_each ghosts.cmp n records c.args.margin es c.args.set (outside_from c.args.closed (c.loop-c.c + 1) n))
            (w.in_ok-put_step.ensures ∙ ap (with_step ghosts.cmp c.args.margin c.loop-c.claims.entries) step)
            ∙ each-taken n records c.args.margin c.loop-c.claims.entries c.args.set c.args.closed c.loop-c.c lt (sym c.has.ensures ∙ w.if-not-has.true)
            ∙ c.loop-c.invariant.put records of;
      }
      | else-not-has w ↦ record {
        same = w.tallies-is ∙ c.loop-c.invariant.same;
        put = λ records of.
            ap (λ m. with_each ghosts.cmp n records c.args.margin m.entries c.args.set (outside_from c.args.closed (c.loop-c.c + 1) n)) w.claims-is
            ∙ each-left n records c.args.margin c.loop-c.claims.entries c.args.set c.args.closed c.loop-c.c lt (sym c.has.ensures ∙ w.if-not-has.false)
            ∙ c.loop-c.invariant.put records of;
      }
    ]
