use Rattle.std.proofs.Common.{◌≡◌, ℕ, false, ◌+◌, ◌^◌, ◌<◌, ◌≤◌, max, List, length, ap, arith, subst, sym, ◌∙◌}
use Rattle.std.specs.BinaryHeap.{heap_items, heap_len, IsHeap}
use Rattle.std.proofs.lemmas.List.Elements.{All-cons}
use Rattle.std.proofs.lemmas.List.Sorted.{All-permutation}
use Rattle.irv_base.specs.Candidates.{has, members}
use Rattle.set_tallies.specs.Bags.{IsOf, Source}
use Rattle.assertions.specs.Scores.{Score}
use Rattle.assertions.specs.Steps.{more, step}
use Rattle.set_search.specs.Offers.{step_score}
use Rattle.set_search.specs.Waits.{AreAddedUpTo, AreBelow, least_first, waiting_at}
use Rattle.set_search.specs.declared.waiting.Waiting.{Waiting}
use Rattle.set_search.proofs.Adding.{added-left, added-more}
use Rattle.set_search.proofs.Mores.{more-below, size-fits}
use Rattle.set_search.proofs.waiting.put_next.Goals as goal
use Rattle.set_search.proofs.waiting.put_next.Goals.{then-not-has+in_ok-step+in_ok-push, else-not-has}

waiting-is : (n : ℕ) (records : List (List ℕ)) (low set c margin with size : ℕ) → margin ≡ max (step n records set c) low → with ≡ more set c →
    size ≡ length (members set) + 1 →
    (let w : Waiting = record { margin = margin; set = with; size = size } in w) ≡ waiting_at n records low set c
waiting-is n records low set c margin with size e f g = cc

pub overflow_add-size : goal.overflow_add-size
overflow_add-size c = let few = size-fits c.args.set in omega (arith, few, c.len-size.ensures)

pub loop-c-preserved : goal.loop-c-preserved
loop-c-preserved c =
    let n = c.args.tallies.now.bag.n in
    let lt : c.loop-c.c < c.args.tallies.now.bag.n = omega (arith, c.loop-c-test.true, c.candidates-c-end.ensures.same) in
    elim c.if-not-has.branch [
      | then-not-has+in_ok-step+in_ok-push w ↦
          let out : has c.args.closed c.loop-c.c ≡ false = sym c.has.ensures ∙ w.if-not-has.true in
          let outside = c.requires.inside c.loop-c.c out in
          let sum = w.with.ensures.number outside in
          let with : w.with.result ≡ more c.args.set c.loop-c.c = omega (arith, sum) in
          let small = more-below n c.args.set c.loop-c.c c.requires.below lt outside in
          let few = c.loop-c.invariant.few in
          let len = w.in_ok-push.ensures.len in
          record {
            same = w.tallies-is ∙ w.step_of.ensures.same ∙ c.loop-c.invariant.same;
            heap = subst (λ h. IsHeap least_first (heap_items h)) (sym w.waiting-is) (w.in_ok-push.ensures.heap_order c.loop-c.invariant.heap);
            below = subst (λ h. AreBelow n (heap_items h)) (sym w.waiting-is)
                (All-permutation (λ (o : Waiting). o.set < 2 ^ n) _ _ w.in_ok-push.ensures.permutation
                (All-cons (λ (o : Waiting). o.set < 2 ^ n) _ (heap_items c.loop-c.waiting) (subst (λ s. s < 2 ^ n) (sym with) small) c.loop-c.invariant.below));
            few = subst (λ h. heap_len h ≤ heap_len c.args.waiting.now + (c.loop-c.c + 1)) (sym w.waiting-is) (omega (arith, few, len));
            added = λ records of.
                let is-step : w.in_ok-step.step ≡ step_score n records c.args.set c.loop-c.c =
                w.in_ok-step.ensures.step records (subst (λ (t : Source). IsOf t.bag records) (sym c.loop-c.invariant.same) of)
                ∙ ap (λ (t : Source). step_score t.bag.n records c.args.set c.loop-c.c) c.loop-c.invariant.same in
                let low : w.step.inside.low ≡ step n records c.args.set c.loop-c.c = ap (λ (s : Score). s.low) (w.step.view_is ∙ is-step) in
                let margin = w.max.ensures ∙ ap (λ m. max m c.args.low) low in
                let is = waiting-is n records c.args.low c.args.set c.loop-c.c w.max.result w.with.result (c.len-size.result + 1) margin with (ap (λ k. k + 1) c.len-size.ensures) in
                subst (λ h. AreAddedUpTo n records c.args.low c.args.set c.args.closed (c.loop-c.c + 1) (heap_items c.args.waiting.now) (heap_items h))
                (sym w.waiting-is)
                (added-more n records c.args.low c.args.set c.args.closed (heap_items c.args.waiting.now) c.loop-c.c (heap_items c.loop-c.waiting)
                (heap_items w.push.new.self) _ out is
                w.in_ok-push.ensures.permutation (c.loop-c.invariant.added records of));
          }
      | else-not-has w ↦
          let inside = sym c.has.ensures ∙ w.if-not-has.false in
          record {
            same = w.tallies-is ∙ c.loop-c.invariant.same;
            heap = subst (λ h. IsHeap least_first (heap_items h)) (sym w.waiting-is) c.loop-c.invariant.heap;
            below = subst (λ h. AreBelow n (heap_items h)) (sym w.waiting-is) c.loop-c.invariant.below;
            few = subst (λ h. heap_len h ≤ heap_len c.args.waiting.now + (c.loop-c.c + 1)) (sym w.waiting-is) (omega (arith, c.loop-c.invariant.few));
            added = λ records of. subst (λ h. AreAddedUpTo n records c.args.low c.args.set c.args.closed (c.loop-c.c + 1) (heap_items c.args.waiting.now) (heap_items h))
                (sym w.waiting-is)
                (added-left n records c.args.low c.args.set c.args.closed (heap_items c.args.waiting.now) c.loop-c.c (heap_items c.loop-c.waiting) inside
                (c.loop-c.invariant.added records of));
          }
    ]

pub returns-clause-added : goal.returns-clause-added
returns-clause-added c = λ records of.
    let end : c.loop-c.c ≡ c.args.tallies.now.bag.n = omega (arith, c.loop-c-test.false, c.loop-c.auto.c-end, c.candidates-c-end.ensures.same) in
    subst (λ k. AreAddedUpTo c.args.tallies.now.bag.n records c.args.low c.args.set c.args.closed k (heap_items c.args.waiting.now) (heap_items c.loop-c.waiting)) end
    (c.loop-c.invariant.added records of)
