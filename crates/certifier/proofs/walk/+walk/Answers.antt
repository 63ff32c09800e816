use Rattle.std.proofs.Common.{◌≡◌, ℕ, ◌+◌, ◌-◌, ◌<◌, ◌≤◌, ◌==◌, List, if◌then◌else◌, Some, None, Ok, Err, false, true, sym, ap, subst, subst₂, arith, rules, ◌∙◌}
use Rattle.irv_base.specs.Candidates.{is_in}
use Rattle.set_tallies.specs.Bags.{IsOf}
use Rattle.suffix_tree.specs.Scores.{IsScoredOver}
use Rattle.certifier.specs.Walks.{CanWalk, IsWalk, walk_of, OnCounted, IsFrom, HasGathered}
use Rattle.certifier.specs.Known.{AreKnown}
use Rattle.certifier.specs.Counts.{count_of}
use Rattle.certifier.proofs.Walking.{IsGoing, dropped, gathered-dropped, known-put, spent, walk-passed, gathered-passed, where-counted, known-noted, child-ready, fewer-left, going-starts, going-passes, going-goes, going-finds, going-fails, going-ends, gathered-ends}
use Rattle.certifier.proofs.walk.+walk.Goals as goal
use Rattle.certifier.proofs.walk.+walk.Goals.{then-not-has+in_ok-longer+in_ok-more+in-Counted, else-not-has}

pub returns-then-from-reach-clause-walk : goal.returns-then-from-reach-clause-walk
returns-then-from-reach-clause-walk t c = dropped c.args.tallies.now.bag c.args.reach.now c.args.s.now c.args.count c.requires.ready
    (omega (arith, c.from.ensures, c.if-from-reach.true))

pub returns-then-from-reach-clause-claims : goal.returns-then-from-reach-clause-claims
returns-then-from-reach-clause-claims t c = λ records h.
    c.in_ok-put.ensures ∙ gathered-dropped c.args.tallies.now.bag c.args.reach.now c.args.s.now c.args.count c.requires.ready c.args.claims.now
    (omega (arith, c.from.ensures, c.if-from-reach.true)) records h

pub returns-then-from-reach-clause-known : goal.returns-then-from-reach-clause-known
returns-then-from-reach-clause-known t c =
    known-put c.args.tallies.now.bag c.args.reach.now c.args.s.now c.requires.ready c.args.counts.now c.args.claims.now c.requires.known
    c.put.new.claims
    (λ records h. c.in_ok-put.ensures ∙ gathered-dropped c.args.tallies.now.bag c.args.reach.now c.args.s.now c.args.count c.requires.ready
    c.args.claims.now (omega (arith, c.from.ensures, c.if-from-reach.true)) records h)

pub returns-then-count-reach-clause-walk : goal.returns-then-count-reach-clause-walk
returns-then-count-reach-clause-walk t c =
    spent c.args.tallies.now.bag c.args.reach.now c.args.s.now c.args.count c.requires.ready (omega (arith, c.from.ensures, c.if-from-reach.false))
    (sym c.whole.ensures ∙ c.in_default.is) (omega (arith, c.if-count-reach.true))

pub returns-in-Some-of-clause-walk : goal.returns-in-Some-of-clause-walk
returns-in-Some-of-clause-walk t c = λ records h.
    let s = c.args.s.now in
    let reach = c.args.reach.now in
    subst (IsWalk reach.last c.pass.result) (sym (walk-passed c.args.tallies.now.bag reach s c.requires.ready c.args.counts.now c.args.claims.now
    c.requires.known (omega (arith, c.from.ensures, c.if-from-reach.false)) c.in-Some-of.number
    (ap (count_of c.args.counts.now) (sym c.set-set.ensures) ∙ sym c.of.ensures ∙ c.in-Some-of.is) c.args.count (omega (arith, c.if-count-reach.false)) records
    h)) c.pass.ensures.walk

pub returns-in-Some-of-clause-claims : goal.returns-in-Some-of-clause-claims
returns-in-Some-of-clause-claims t c =
    let s = c.args.s.now in
    let reach = c.args.reach.now in
    where-counted c.pass.result (HasGathered c.args.tallies.now.bag reach s c.args.claims.now c.args.claims.now)
    (gathered-passed c.args.tallies.now.bag reach s c.requires.ready c.args.counts.now c.args.claims.now c.requires.known
    (omega (arith, c.from.ensures, c.if-from-reach.false)) c.in-Some-of.number
    (ap (count_of c.args.counts.now) (sym c.set-set.ensures) ∙ sym c.of.ensures ∙ c.in-Some-of.is))

pub loop-c-init : goal.loop-c-init
loop-c-init t c = record {
  same = Rattle.std.proofs.Common.refl;
  more = omega arith;
  known = c.requires.known;
  going = going-starts c.args.tallies.now.bag c.args.reach.now c.args.s.now c.args.count c.args.claims.now c.requires.ready
      (omega (arith, c.from.ensures, c.if-from-reach.false)) (sym c.whole.ensures ∙ c.in_default.is) (omega (arith, c.if-count-reach.false));
}

pub walk-requires : goal.walk-requires
walk-requires t c =
    let bag = c.args.tallies.now.bag in
    let s = c.args.s.now in
    let x = c.in_ok-longer.longer in
    let scored : IsScoredOver c.args.tallies.now.bag c.in_ok-longer.longer =
    subst (λ m. IsScoredOver m.bag x) c.loop-c.invariant.same c.in_ok-longer.ensures.scored in
    let low : s.low < c.args.reach.now.limit = omega (arith, c.from.ensures, c.if-from-reach.false) in
    let below : c.loop-c.c < s.tail.n = omega (arith, c.loop-c-test.true, c.candidates-c-end.ensures.same) in
    let out : is_in s.tail.list c.loop-c.c ≡ false = sym c.has.ensures ∙ c.if-not-has.true in
    let ready = child-ready bag c.args.reach.now.limit s x c.loop-c.c c.requires.ready low below out c.in_ok-longer.ensures.tail scored in (
      omega (arith, c.decreases, fewer-left bag c.args.reach.now.limit s x c.loop-c.c c.requires.ready low below out c.in_ok-longer.ensures.tail ready),
      (
        subst (λ m. CanWalk m.bag c.args.reach.now.limit x) (sym (c.child.ensures.same ∙ c.loop-c.invariant.same)) ready,
        subst (λ m. AreKnown m.bag c.args.reach.now.limit c.args.reach.now.keeps c.loop-c.counts c.loop-c.claims)
            (sym (c.child.ensures.same ∙ c.loop-c.invariant.same)) c.loop-c.invariant.known,
      ),
    )

pub returns-in_err-more-clause-walk : goal.returns-in_err-more-clause-walk
returns-in_err-more-clause-walk t c = λ records h.
    let s = c.args.s.now in
    let reach = c.args.reach.now in
    let x = c.in_ok-longer.longer in
    let given : c.from_residual-in_err-more.result ≡ Err c.in_err-more.field-0.0 = search rules in
    let below : c.loop-c.c < s.tail.n = omega (arith, c.loop-c-test.true, c.candidates-c-end.ensures.same) in
    subst (λ r. IsWalk reach.last r (walk_of reach s records c.args.count)) (sym given)
    (going-fails c.args.tallies.now.bag reach s c.args.count c.args.claims.now c.loop-c.c c.loop-c.seen c.loop-c.claims c.loop-c.invariant.going
    below (sym c.has.ensures ∙ c.if-not-has.true) x c.in_ok-longer.ensures.tail c.in_err-more.field-0.0
    (λ records h. c.in_err-more.ensures.walk records (subst (λ m. IsOf m.bag records) (sym (c.child.ensures.same ∙ c.loop-c.invariant.same)) h)) records h)

pub returns-in-Found-clause-walk : goal.returns-in-Found-clause-walk
returns-in-Found-clause-walk t c =
    let s = c.args.s.now in
    let reach = c.args.reach.now in
    let x = c.in_ok-longer.longer in
    let below : c.loop-c.c < s.tail.n = omega (arith, c.loop-c-test.true, c.candidates-c-end.ensures.same) in
    going-finds c.args.tallies.now.bag reach s c.args.count c.args.claims.now c.loop-c.c c.loop-c.seen c.loop-c.claims c.loop-c.invariant.going
    below (sym c.has.ensures ∙ c.if-not-has.true) x c.in_ok-longer.ensures.tail c.in-Found.order
    (λ records h. subst (λ w. IsWalk reach.last (Ok w) (walk_of reach x records c.loop-c.seen)) c.in-Found.is
    (c.in_ok-more.ensures.walk records (subst (λ m. IsOf m.bag records) (sym (c.child.ensures.same ∙ c.loop-c.invariant.same)) h)))

pub loop-c-preserved : goal.loop-c-preserved
loop-c-preserved t c =
    let bag = c.args.tallies.now.bag in
    let s = c.args.s.now in
    let reach = c.args.reach.now in
    let before = c.args.claims.now in
    let going = c.loop-c.invariant.going in
    let below : c.loop-c.c < s.tail.n = omega (arith, c.loop-c-test.true, c.candidates-c-end.ensures.same) in
    elim c.if-not-has.branch [
      | then-not-has+in_ok-longer+in_ok-more+in-Counted w ↦
          let x = w.in_ok-longer.longer in
          let own = sym (w.child.ensures.same ∙ c.loop-c.invariant.same) in
          record {
            same = w.tallies-is ∙ w.walk.ensures.same ∙ w.child.ensures.same ∙ c.loop-c.invariant.same;
            more = omega (arith, c.loop-c.invariant.more, w.seen-is, subst (IsFrom c.loop-c.seen) w.in-Counted.is w.in_ok-more.ensures.counted);
            known = subst₂ (AreKnown bag reach.limit reach.keeps) (sym w.counts-is) (sym w.claims-is)
                (subst (λ m. AreKnown m.bag reach.limit reach.keeps w.walk.new.counts w.walk.new.claims) (sym own) w.in_ok-more.ensures.known);
            going = subst₂ (IsGoing bag reach s c.args.count before (c.loop-c.c + 1)) (sym w.seen-is) (sym w.claims-is)
                (going-goes bag reach s c.args.count before c.loop-c.c c.loop-c.seen c.loop-c.claims going below (sym c.has.ensures
                ∙ w.if-not-has.true) x w.in_ok-longer.ensures.tail
                w.in-Counted.more w.walk.new.claims
                (λ records h. subst (λ e. IsWalk reach.last (Ok e) (walk_of reach x records c.loop-c.seen)) w.in-Counted.is
                (w.in_ok-more.ensures.walk records (subst (λ m. IsOf m.bag records) own h)))
                (λ records h. subst (λ e. OnCounted e (HasGathered w.child.new.tallies.bag reach x c.loop-c.claims w.walk.new.claims))
                w.in-Counted.is w.in_ok-more.ensures.claims records (subst (λ m. IsOf m.bag records) own h)));
          }
      | else-not-has w ↦ record {
        same = w.tallies-is ∙ c.loop-c.invariant.same;
        more = omega (arith, c.loop-c.invariant.more, w.seen-is);
        known = subst₂ (AreKnown bag reach.limit reach.keeps) (sym w.counts-is) (sym w.claims-is) c.loop-c.invariant.known;
        going = subst₂ (IsGoing bag reach s c.args.count before (c.loop-c.c + 1)) (sym w.seen-is) (sym w.claims-is)
            (going-passes bag reach s c.args.count before c.loop-c.c c.loop-c.seen c.loop-c.claims going below (sym c.has.ensures
            ∙ w.if-not-has.false));
      }
    ]

pub returns-clause-walk : goal.returns-clause-walk
returns-clause-walk t c =
    going-ends c.args.tallies.now.bag c.args.reach.now c.args.s.now c.args.count c.args.claims.now c.loop-c.c c.loop-c.seen c.loop-c.claims
    c.loop-c.invariant.going
    (omega (arith, c.loop-c-test.false, c.candidates-c-end.ensures.same))

pub returns-clause-claims : goal.returns-clause-claims
returns-clause-claims t c =
    gathered-ends c.args.tallies.now.bag c.args.reach.now c.args.s.now c.args.count c.args.claims.now c.loop-c.c c.loop-c.seen c.loop-c.claims
    c.loop-c.invariant.going
    (omega (arith, c.loop-c-test.false, c.candidates-c-end.ensures.same))

pub returns-clause-known : goal.returns-clause-known
returns-clause-known t c =
    let bag = c.args.tallies.now.bag in
    let s = c.args.s.now in
    let reach = c.args.reach.now in
    known-noted bag reach s c.requires.ready c.args.counts.now c.args.claims.now c.requires.known
    (omega (arith, c.from.ensures, c.if-from-reach.false)) c.args.count c.loop-c.seen c.loop-c.counts c.note.new.self c.loop-c.claims
    (going-ends bag reach s c.args.count c.args.claims.now c.loop-c.c c.loop-c.seen c.loop-c.claims c.loop-c.invariant.going
    (omega (arith, c.loop-c-test.false, c.candidates-c-end.ensures.same)))
    (gathered-ends bag reach s c.args.count c.args.claims.now c.loop-c.c c.loop-c.seen c.loop-c.claims c.loop-c.invariant.going
    (omega (arith, c.loop-c-test.false, c.candidates-c-end.ensures.same)))
    c.loop-c.invariant.known
    (λ other. subst (λ m. count_of c.note.new.self other ≡ (if m == other then Some (c.loop-c.seen - c.args.count) else count_of c.loop-c.counts other))
    c.set-set.ensures (c.in_ok-note.ensures other))
