use Rattle.std.proofs.Common.{◌≡◌, ◌<◌, ◌+◌, inl, inr, refl, sym, ap, subst, subst₂, arith, ◌∙◌}
use Rattle.set_tallies.specs.Bags.{IsOf}
use Rattle.suffix_walk.proofs.Scans.{differs, agrees}
use Rattle.certifier.specs.OneCandidate.{IsNext}
use Rattle.certifier.specs.Parts.{IsPart, is_dealt}
use Rattle.certifier.specs.Known.{HasKnown}
use Rattle.certifier.proofs.Knowing.{known-starts}
use Rattle.certifier.proofs.Dealing.{dealt_before, deal-none, deal-next, deal-passes, deal-ends, deal-stops}
use Rattle.certifier.proofs.gather.gather.Goals as goal
use Rattle.certifier.proofs.gather.gather.Goals.{then-has+then-ne+in_ok-part, else-has, else-has-via-then-has+else-ne, else-has-via-else-has, then-dealt-gt1+in_ok-shorten, else-dealt-gt1}

pub loop-c-init : goal.loop-c-init
loop-c-init c = record {
  same = refl;
  known = known-starts c.args.tallies.now.bag c.args.task.now c.new-part.result (record { covers = c.new.result; orders = c.new-2.result })
      c.new-part.ensures.claims c.new.ensures c.new-2.ensures;
  part = λ records h is. deal-none c.args.tallies.now.bag.n records c.args.task.now c.args.dealt.now.workers c.args.dealt.now.number c.new-part.result
      c.new-part.ensures.claims c.new-part.ensures.over c.new-part.ensures.end;
}

pub loop-c-preserved : goal.loop-c-preserved
loop-c-preserved c =
    let n = c.args.tallies.now.bag.n in
    let task = c.args.task.now in
    let dealt = c.args.dealt.now in
    let below : c.loop-c.c < n = omega (arith, c.loop-c-test.true, c.candidates-c-end.ensures.same) in
    elim c.if-has.branch [
      | then-has+then-ne+in_ok-part w ↦ record {
        same = w.tallies-is ∙ w.gather_candidate.ensures.same ∙ c.loop-c.invariant.same;
        known = subst₂ (HasKnown c.args.tallies.now.bag task) (sym w.part-is) (sym w.known-is)
            (subst (λ t. HasKnown t.bag task w.in_ok-part.part w.gather_candidate.new.known) c.loop-c.invariant.same w.in_ok-part.ensures.known);
        part = λ records h is.
            let next : IsNext c.args.tallies.now.bag.n records c.args.task.now c.loop-c.c c.loop-c.part c.if-has.part =
            subst (λ t. IsNext t.bag.n records task c.loop-c.c c.loop-c.part c.if-has.part) c.loop-c.invariant.same
            (subst (IsNext c.loop-c.tallies.bag.n records task c.loop-c.c c.loop-c.part) (sym w.part-is)
            (w.in_ok-part.ensures.next records (subst (λ t. IsOf t.bag records) (sym c.loop-c.invariant.same) h))) in
            deal-next n records task dealt.workers dealt.number is (omega (arith, c.candidates-c-end.ensures.fewest, c.candidates-c-end.ensures.same))
            c.loop-c.c c.loop-c.part c.if-has.part
            below (differs c.loop-c.c task.winner w.ne.result w.ne.ensures w.if-ne.true) (sym c.has.ensures ∙ w.if-has.true) (sym c.is_some.ensures
            ∙ c.if-is_some.false) (c.loop-c.invariant.part records h is) next;
      }
      | else-has w ↦ record {
        same = w.tallies-is ∙ c.loop-c.invariant.same;
        known = subst₂ (HasKnown c.args.tallies.now.bag task) (sym w.part-is) (sym w.known-is) c.loop-c.invariant.known;
        part = λ records h is.
            subst (IsPart n records task (dealt_before dealt.workers dealt.number (c.loop-c.c + 1))) (sym w.part-is)
            (deal-passes n records task dealt.workers dealt.number c.loop-c.c c.loop-c.part (elim w.else-has.branch [
              | else-has-via-then-has+else-ne v ↦ inr (agrees c.loop-c.c task.winner v.ne.result v.ne.ensures v.if-ne.false)
              | else-has-via-else-has v ↦ inl (sym c.has.ensures ∙ v.if-has.false)
            ]) (c.loop-c.invariant.part records h is));
      }
    ]

pub returns-clause-part : goal.returns-clause-part
returns-clause-part c = λ records h is.
    let same : c.if-dealt-gt1.part ≡ c.loop-c.part =
    elim c.if-dealt-gt1.branch [
      | then-dealt-gt1+in_ok-shorten w ↦ w.part-is ∙ ap (λ es. record { claims = es; over = c.loop-c.part.over; end = c.loop-c.part.end }) w.in_ok-shorten.ensures
      | else-dealt-gt1 w ↦ w.part-is
    ] in (
      omega (arith, c.candidates-c-end.ensures.fewest, c.candidates-c-end.ensures.same),
      subst (IsPart c.args.tallies.now.bag.n records c.args.task.now (is_dealt c.args.dealt.now.workers c.args.dealt.now.number)) (sym same)
          (deal-ends c.args.tallies.now.bag.n records c.args.task.now c.args.dealt.now.workers c.args.dealt.now.number c.loop-c.c c.loop-c.part
          (omega (arith, c.loop-c-test.false, c.candidates-c-end.ensures.same)) (c.loop-c.invariant.part records h is)),
    )

pub returns-then-is_some-clause-part : goal.returns-then-is_some-clause-part
returns-then-is_some-clause-part c = λ records h is. (
  omega (arith, c.candidates-c-end.ensures.fewest, c.candidates-c-end.ensures.same),
  deal-stops c.args.tallies.now.bag.n records c.args.task.now c.args.dealt.now.workers c.args.dealt.now.number c.loop-c.c c.loop-c.part
      (sym c.is_some.ensures ∙ c.if-is_some.true) (c.loop-c.invariant.part records h is),
)
