use Rattle.std.proofs.Common.{◌≡◌, ◌+◌, get_or, take, drop, Some, ap, ◌∙◌, arith}
use Rattle.std.proofs.lemmas.List.{take_more, drop_more}
use Rattle.race_core.specs.declared.event.Event.{Event}
use Rattle.race_core.specs.declared.event.Event.TheVariants.{Take}
use Rattle.race_core.specs.Race.{run, step, taken_count}
use Rattle.race_core.proofs.Runs.{run_push, after_step, count_more, count_stops}
use Rattle.race_core.proofs.state.State.run.Goals as goal

pub loop-i-preserved : goal.loop-i-preserved
loop-i-preserved c =
    let es = c.args.events.now in
    let i = c.loop-i.i in
    let event : Event = get_or es i (Take 0) in
    let stepped : step c.loop-i.self event ≡ Some c.step.new.self = c.if-not-step.ensures.taken in
    let counted = c.loop-i.invariant.counts ∙ ap (λ ds. i + taken_count c.loop-i.self ds) (drop_more es i (Take 0) c.loop-i-test.true)
    ∙ ap (λ n. i + n) (count_more c.loop-i.self event (drop (i + 1) es) c.step.new.self stepped) in
    record {
      ran = ap (run c.args.self.now) (take_more es i (Take 0) c.loop-i-test.true)
          ∙ run_push c.args.self.now (take i es) event c.loop-i.self c.step.new.self c.loop-i.invariant.ran
          (after_step c.loop-i.self event c.step.new.self stepped);
      counts = omega (arith, counted);
    }

pub returns-then-not-step-clause-count : goal.returns-then-not-step-clause-count
returns-then-not-step-clause-count c =
    let es = c.args.events.now in
    let i = c.loop-i.i in
    let event : Event = get_or es i (Take 0) in
    let counted = c.loop-i.invariant.counts ∙ ap (λ ds. i + taken_count c.loop-i.self ds) (drop_more es i (Take 0) c.loop-i-test.true)
    ∙ ap (λ n. i + n) (count_stops c.loop-i.self event (drop (i + 1) es) c.if-not-step.ensures.refused.0) in
    omega (arith, counted)
