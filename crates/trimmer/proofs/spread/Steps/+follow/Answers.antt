use Rattle.std.proofs.Common.{◌≡◌, inl, ℕ, ◌+◌, ◌-◌, ◌<◌, ◌≤◌, [], ◌∷◌, ◌++◌, false, true, length, sym, subst, arith, ◌∙◌}
use Rattle.irv_base.specs.Candidates.{has, members}
use Rattle.set_walk.specs.Walks.{passes}
use Rattle.cover_checker.specs.Reaching.{Extends}
use Rattle.cover_checker.proofs.Reaching.{extends-on}
use Rattle.trimmer.specs.Remaining.{assertions_in}
use Rattle.trimmer.specs.Spreading.{AreNewClosed, IsFollowed, IsSpread}
use Rattle.trimmer.proofs.Spreads.{ahead-on, as-few, closed-entered, closed-none, closed-on, comes-to-all, comes-to-more, is-followed, kept-out, more-stands, one-longer, passing, spread-none, spread-on, spread-same, was-there}
use Rattle.trimmer.proofs.spread.Steps.+follow.Goals as goal
use Rattle.trimmer.proofs.spread.Steps.+follow.Goals.{then-not-has+in_ok-follow, else-not-has}

pub returns-then-is_any_new-clause-followed : goal.returns-then-is_any_new-clause-followed
returns-then-is_any_new-clause-followed t c =
    let s = c.args.self.now in
    kept-out s.n s.winner s.budget (assertions_in s.claims.now) c.args.set c.args.c c.with-more.result c.requires.start c.requires.below c.requires.outside
    c.with-more.ensures.number c.args.reached.now c.is_any_new.result c.is_any_new.ensures c.if-is_any_new.true

pub returns-then-contains-clause-followed : goal.returns-then-contains-clause-followed
returns-then-contains-clause-followed t c =
    let s = c.args.self.now in
    was-there s.n s.winner s.budget (assertions_in s.claims.now) c.args.set c.args.c c.with-more.result c.requires.start c.requires.below c.requires.outside
    c.with-more.ensures.number c.args.reached.now (sym c.contains.ensures ∙ c.if-contains.true)

pub returns-then-len-self-clause-halt : goal.returns-then-len-self-clause-halt
returns-then-len-self-clause-halt t c =
    let s = c.args.self.now in
    let list = assertions_in s.claims.now in
    let passed : passes list c.args.set c.args.c ≡ true =
    passing s.n s.winner s.budget list c.args.set c.args.c c.with-more.result c.requires.start c.requires.below c.requires.outside c.with-more.ensures.number
    c.is_any_new.result c.is_any_new.ensures c.if-is_any_new.false in
    comes-to-all s.n s.winner s.budget list c.args.set c.args.c c.with-more.result c.requires.start c.requires.below c.requires.outside
    c.with-more.ensures.number c.requires.room passed (sym c.len.ensures ∙ c.if-len-self.true)

pub returns-in_err-push-clause-spread : goal.returns-in_err-push-clause-spread
returns-in_err-push-clause-spread t c =
    let s = c.args.self.now in
    spread-same s.n s.winner s.budget (assertions_in s.claims.now) c.args.reached.now c.push.new.self c.in_err-push.ensures.same

pub loop-d-init : goal.loop-d-init
loop-d-init t c =
    let s = c.args.self.now in
    let list = assertions_in s.claims.now in
    let reached = c.args.reached.now in
    let passed : passes list c.args.set c.args.c ≡ true =
    passing s.n s.winner s.budget list c.args.set c.args.c c.with-more.result c.requires.start c.requires.below c.requires.outside c.with-more.ensures.number
    c.is_any_new.result c.is_any_new.ensures c.if-is_any_new.false in
    let long : c.len-2.result ≡ length reached = c.len-2.ensures in
    let few : length reached < s.budget = omega (arith, long, c.if-len-self-2.false) in
    let pushed : c.push.new.self ≡ reached ++ c.with-more.result ∷ [] = c.in_ok-push.ensures.pushed in
    record {
      were = subst (Extends (reached ++ c.with-more.result ∷ [])) (sym pushed)
          (spread-none s.n s.winner s.budget list (reached ++ c.with-more.result ∷ [])).were;
      spread = subst (IsSpread s.n s.winner s.budget list reached) (sym pushed)
          (comes-to-more s.n s.winner s.budget list c.args.set c.args.c c.with-more.result c.requires.start c.requires.below c.requires.outside
          c.with-more.ensures.number c.requires.room passed reached (λ e. c.if-len-self.false (c.len.ensures ∙ e)) few);
      closed = subst (AreNewClosed s.n list (reached ++ c.with-more.result ∷ [])) (sym pushed)
          (closed-none s.n s.winner s.budget list (reached ++ c.with-more.result ∷ []));
      ahead = λ d below. absurd (omega (arith, below));
    }

pub follow-requires : goal.follow-requires
follow-requires t c =
    let s = c.args.self.now in
    let list = assertions_in s.claims.now in
    let passed : passes list c.args.set c.args.c ≡ true =
    passing s.n s.winner s.budget list c.args.set c.args.c c.with-more.result c.requires.start c.requires.below c.requires.outside c.with-more.ensures.number
    c.is_any_new.result c.is_any_new.ensures c.if-is_any_new.false in
    let longer : length (members c.with-more.result) ≡ length (members c.args.set) + 1 =
    one-longer s.n s.winner s.budget list c.args.set c.args.c c.with-more.result c.requires.start c.requires.below c.requires.outside
    c.with-more.ensures.number c.requires.room passed in
    let few : length (members c.with-more.result) ≤ s.n =
    as-few s.n s.winner s.budget list c.args.set c.args.c c.with-more.result c.requires.start c.requires.below c.requires.outside
    c.with-more.ensures.number c.requires.room passed in
    let less : s.n - length (members c.with-more.result) < t = omega (arith, c.decreases, longer, few) in (
      less,
      (
        c.requires.room,
        (
          c.loop-d-test.true,
          (
            sym c.has.ensures ∙ c.if-not-has.true,
            inl (more-stands s.n s.winner s.budget list c.args.set c.args.c c.with-more.result c.requires.start c.requires.below c.requires.outside
                c.with-more.ensures.number c.requires.room passed (λ e. c.if-len-self.false (c.len.ensures ∙ e))),
          ),
        ),
      ),
    )

pub returns-in_err-follow-clause-spread : goal.returns-in_err-follow-clause-spread
returns-in_err-follow-clause-spread t c =
    let s = c.args.self.now in
    spread-on s.n s.winner s.budget (assertions_in s.claims.now) c.args.reached.now c.loop-d.reached c.follow.new.reached c.loop-d.invariant.spread
    c.in_err-follow.ensures.spread

pub loop-d-preserved : goal.loop-d-preserved
loop-d-preserved t c =
    let s = c.args.self.now in
    let list = assertions_in s.claims.now in
    let reached = c.args.reached.now in
    let entered = reached ++ c.with-more.result ∷ [] in
    let was = c.loop-d.reached in
    elim c.if-not-has.branch [
      | then-not-has+in_ok-follow w ↦
          let now = w.follow.new.reached in
          let grown : IsSpread s.n s.winner s.budget list was now = w.in_ok-follow.ensures.spread in
          record {
            were = subst (Extends entered) (sym w.reached-is) (extends-on entered was now c.loop-d.invariant.were grown.were);
            spread = subst (IsSpread s.n s.winner s.budget list reached) (sym w.reached-is)
                (spread-on s.n s.winner s.budget list reached was now c.loop-d.invariant.spread grown);
            closed = subst (AreNewClosed s.n list entered) (sym w.reached-is)
                (closed-on s.n s.winner s.budget list entered was now grown.were c.loop-d.invariant.closed w.in_ok-follow.ensures.closed);
            ahead = subst (λ xs. (d : ℕ) → d < c.loop-d.d + 1 → has c.with-more.result d ≡ false → IsFollowed list xs c.with-more.result d) (sym w.reached-is)
                (ahead-on s.n s.winner s.budget list was now c.with-more.result c.loop-d.d grown c.loop-d.invariant.ahead
                (λ out. w.in_ok-follow.ensures.followed));
          }
      | else-not-has w ↦
          record {
            were = subst (Extends entered) (sym w.reached-is) c.loop-d.invariant.were;
            spread = subst (IsSpread s.n s.winner s.budget list reached) (sym w.reached-is) c.loop-d.invariant.spread;
            closed = subst (AreNewClosed s.n list entered) (sym w.reached-is) c.loop-d.invariant.closed;
            ahead = subst (λ xs. (d : ℕ) → d < c.loop-d.d + 1 → has c.with-more.result d ≡ false → IsFollowed list xs c.with-more.result d) (sym w.reached-is)
                (ahead-on s.n s.winner s.budget list was was c.with-more.result c.loop-d.d (spread-none s.n s.winner s.budget list was)
                c.loop-d.invariant.ahead (λ out. let never : true ≡ false = sym (sym c.has.ensures ∙ w.if-not-has.false) ∙ out in cc));
          }
    ]

pub returns-clause-followed : goal.returns-clause-followed
returns-clause-followed t c =
    let s = c.args.self.now in
    is-followed s.n s.winner s.budget (assertions_in s.claims.now) c.args.set c.args.c c.with-more.result c.requires.start c.requires.below
    c.requires.outside c.with-more.ensures.number c.args.reached.now c.loop-d.reached c.loop-d.invariant.were

pub returns-clause-closed : goal.returns-clause-closed
returns-clause-closed t c =
    let s = c.args.self.now in
    closed-entered s.n s.winner s.budget (assertions_in s.claims.now) c.args.reached.now c.loop-d.reached c.with-more.result c.loop-d.invariant.were
    c.loop-d.invariant.closed (λ d below. c.loop-d.invariant.ahead d (omega (arith, below, c.loop-d-test.false)))
