use Rattle.std.proofs.Common.{◌≡◌, inl, ℕ, ◌+◌, ◌<◌, false, true, length, get_or, sym, subst, arith, ◌∙◌}
use Rattle.irv_base.specs.Candidates.{has}
use Rattle.set_walk.proofs.Diving.{agrees}
use Rattle.trimmer.specs.Remaining.{assertions_in}
use Rattle.trimmer.specs.Spreading.{AreNewClosed, IsFollowed, IsSpread}
use Rattle.trimmer.proofs.Spreads.{all-followed, at-contains, at-first, closed-none, closed-on, followed-on, places-on, spread-none, spread-on}
use Rattle.trimmer.proofs.spread.Steps.follow_by.Goals as goal
use Rattle.trimmer.proofs.spread.Steps.follow_by.Goals.{then-ne+in_ok-follow, else-ne, then-not-has+in_ok-follow-2, else-not-has}

pub loop-i-init : goal.loop-i-init
loop-i-init c =
    let s = c.args.self.now in
    let list = assertions_in s.claims.now in
    let old = c.args.reached.now in
    elim c.if-ne.branch [
      | then-ne+in_ok-follow w ↦ record {
        spread = subst (IsSpread s.n s.winner s.budget list old) (sym w.reached-is) w.in_ok-follow.ensures.spread;
        closed = subst (AreNewClosed s.n list old) (sym w.reached-is) w.in_ok-follow.ensures.closed;
        nobody = λ other. subst (λ xs. IsFollowed list xs 0 c.args.c) (sym w.reached-is)
            (subst (λ set. IsFollowed list w.follow.new.reached set c.args.c) w.empty.ensures w.in_ok-follow.ensures.followed);
        followed = λ j below. absurd (omega (arith, below));
      }
      | else-ne w ↦ record {
        spread = subst (IsSpread s.n s.winner s.budget list old) (sym w.reached-is) (spread-none s.n s.winner s.budget list old);
        closed = subst (AreNewClosed s.n list old) (sym w.reached-is) (closed-none s.n s.winner s.budget list old);
        nobody = λ other. absurd (other (agrees c.args.c s.winner c.ne.result c.ne.ensures w.if-ne.false));
        followed = λ j below. absurd (omega (arith, below));
      }
    ]

pub follow-requires-then-not-has-clause-start : goal.follow-requires-then-not-has-clause-start
follow-requires-then-not-has-clause-start c =
    inl (c.loop-i.invariant.spread.stand c.requires.stand c.at-set.result (at-contains c.loop-i.reached c.loop-i.i c.at-set.result c.at-set.ensures))

pub returns-in_err-follow-2-clause-spread : goal.returns-in_err-follow-2-clause-spread
returns-in_err-follow-2-clause-spread c =
    let s = c.args.self.now in
    spread-on s.n s.winner s.budget (assertions_in s.claims.now) c.args.reached.now c.loop-i.reached c.follow-then-not-has.new.reached
    c.loop-i.invariant.spread c.in_err-follow-2.ensures.spread

pub loop-i-preserved : goal.loop-i-preserved
loop-i-preserved c =
    let s = c.args.self.now in
    let list = assertions_in s.claims.now in
    let old = c.args.reached.now in
    let was = c.loop-i.reached in
    let long : c.len-many.result ≡ length old = c.len-many.ensures in
    let inside : c.loop-i.i < length old = omega (arith, long, c.loop-i-test.true) in
    let at : get_or old c.loop-i.i 0 ≡ c.at-set.result =
    at-first old was c.loop-i.i c.at-set.result c.loop-i.invariant.spread.were inside c.at-set.ensures in
    elim c.if-not-has.branch [
      | then-not-has+in_ok-follow-2 w ↦
          let now = w.follow-then-not-has.new.reached in
          let grown : IsSpread s.n s.winner s.budget list was now = w.in_ok-follow-2.ensures.spread in
          record {
            spread = subst (IsSpread s.n s.winner s.budget list old) (sym w.reached-is)
                (spread-on s.n s.winner s.budget list old was now c.loop-i.invariant.spread grown);
            closed = subst (AreNewClosed s.n list old) (sym w.reached-is)
                (closed-on s.n s.winner s.budget list old was now grown.were c.loop-i.invariant.closed w.in_ok-follow-2.ensures.closed);
            nobody = λ other. subst (λ xs. IsFollowed list xs 0 c.args.c) (sym w.reached-is)
                (followed-on s.n s.winner s.budget list was now 0 c.args.c grown (c.loop-i.invariant.nobody other));
            followed = subst (λ xs. (j : ℕ) → j < c.loop-i.i + 1 → has (get_or old j 0) c.args.c ≡ false → IsFollowed list xs (get_or old j 0) c.args.c)
                (sym w.reached-is) (places-on s.n s.winner s.budget list old was now c.args.c c.loop-i.i c.at-set.result grown at
                c.loop-i.invariant.followed (λ out. w.in_ok-follow-2.ensures.followed));
          }
      | else-not-has w ↦ record {
        spread = subst (IsSpread s.n s.winner s.budget list old) (sym w.reached-is) c.loop-i.invariant.spread;
        closed = subst (AreNewClosed s.n list old) (sym w.reached-is) c.loop-i.invariant.closed;
        nobody = λ other. subst (λ xs. IsFollowed list xs 0 c.args.c) (sym w.reached-is) (c.loop-i.invariant.nobody other);
        followed = subst (λ xs. (j : ℕ) → j < c.loop-i.i + 1 → has (get_or old j 0) c.args.c ≡ false → IsFollowed list xs (get_or old j 0) c.args.c)
            (sym w.reached-is) (places-on s.n s.winner s.budget list old was was c.args.c c.loop-i.i c.at-set.result
            (spread-none s.n s.winner s.budget list was) at c.loop-i.invariant.followed
            (λ out. let never : true ≡ false = sym (sym c.has.ensures ∙ w.if-not-has.false) ∙ out in cc));
      }
    ]

pub returns-clause-followed : goal.returns-clause-followed
returns-clause-followed c =
    let s = c.args.self.now in
    let old = c.args.reached.now in
    let long : c.len-many.result ≡ length old = c.len-many.ensures in
    all-followed s.n s.winner s.budget (assertions_in s.claims.now) old c.loop-i.reached c.args.c c.loop-i.i (omega (arith, long, c.loop-i-test.false))
    c.loop-i.invariant.nobody c.loop-i.invariant.followed
