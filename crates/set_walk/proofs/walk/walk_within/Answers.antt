use Rattle.std.proofs.Common.{◌≡◌, ◌≢◌, ◌+◌, ◌-◌, ◌<◌, ◌^◌, All, ◌∷◌, [], false, true, Ok, Err, length, sym, ap, subst, arith, ◌∙◌}
use Rattle.set_walk.specs.Answers.{IsWalk}
use Rattle.set_walk.specs.Dives.{dive, dives, walked}
use Rattle.set_walk.proofs.Counted.{walk_is}
use Rattle.set_walk.proofs.Diving.{differs, agrees, lasts, lasts-end, lasts-winner, lasts-stays, lasts-goes}
use Rattle.set_walk.proofs.Ends.{ended, stopped-walk}
use Rattle.set_walk.proofs.walk.walk_within.Goals as goal
use Rattle.set_walk.proofs.walk.walk_within.Goals.{then-ne+in_ok-goes+then-branch+in-Ok, then-ne+in_ok-goes+else-branch, else-ne}

pub returns-in-Err-clause-walk : goal.returns-in-Err-clause-walk
returns-in-Err-clause-walk g c = λ may by.
    let n = c.args.n in
    let sets = c.args.sets in
    let winner = c.args.winner in
    let (is, were, same) = c.loop-c.invariant in
    let differ : c.loop-c.c ≢ c.args.winner = differs c.loop-c.c c.args.winner c.ne.result c.ne.ensures c.if-ne.true in
    let yes' : may 0 c.loop-c.c ≡ true =
    ap (λ s. may s c.loop-c.c) (sym c.empty.ensures) ∙ sym (c.in_ok-goes.ensures.answer may (subst (λ x. g.T.Goes.is_by x may) (sym is) by)) ∙ c.if-branch.true in
    subst (IsWalk n winner sets may) (sym c.stopped.ensures) (stopped-walk n winner sets may c.in-Err.stop (λ other.
    let e : dive n sets may (n - 1) (c.loop-c.c ∷ []) c.loop-c.seen.keys ≡ Err c.in-Err.stop =
    ap (λ s. dive n sets may (n - length s) s c.loop-c.seen.keys) (sym c.of.ensures)
    ∙ c.in-Err.ensures.err may (subst (λ x. g.T.Goes.is_by x may) (sym (c.goes.ensures.same ∙ is)) by) other in
    let all : dives n winner sets may ≡ Err c.in-Err.stop =
    sym (same may by) ∙ lasts-goes n winner sets may c.loop-c.c c.loop-c.seen.keys (Err c.in-Err.stop) c.loop-c-test.true differ yes' e in
    sym (ap walked all) ∙ walk_is n winner may sets c.requires.some))

pub loop-c-preserved : goal.loop-c-preserved
loop-c-preserved g c =
    let n = c.args.n in
    let sets = c.args.sets in
    let winner = c.args.winner in
    let (is, were, same) = c.loop-c.invariant in
    elim c.if-ne.branch [
      | then-ne+in_ok-goes+then-branch+in-Ok w ↦ (
        w.test-is ∙ w.dive.ensures.same ∙ w.goes.ensures.same ∙ is,
        subst (λ s. All (λ x. x < 2 ^ n) s.keys) (sym w.seen-is) w.in-Ok.ensures.are_sets,
        λ may by.
            let differ : c.loop-c.c ≢ c.args.winner = differs c.loop-c.c c.args.winner c.ne.result c.ne.ensures w.if-ne.true in
            let yes' : may 0 c.loop-c.c ≡ true =
            ap (λ s. may s c.loop-c.c) (sym w.empty.ensures) ∙ sym (w.in_ok-goes.ensures.answer may (subst (λ x. g.T.Goes.is_by x may) (sym is) by)) ∙ w.if-branch.true in
            let e : dive n sets may (n - 1) (c.loop-c.c ∷ []) c.loop-c.seen.keys ≡ Ok w.dive.new.seen.keys =
            ap (λ s. dive n sets may (n - length s) s c.loop-c.seen.keys) (sym w.of.ensures)
            ∙ w.in-Ok.ensures.ok may (subst (λ x. g.T.Goes.is_by x may) (sym (w.goes.ensures.same ∙ is)) by) in
            ap (λ s. lasts n winner sets may (c.loop-c.c + 1) s.keys) w.seen-is
            ∙ sym (lasts-goes n winner sets may c.loop-c.c c.loop-c.seen.keys (Ok w.dive.new.seen.keys) c.loop-c-test.true differ yes' e)
            ∙ same may by,
      )
      | then-ne+in_ok-goes+else-branch w ↦ (
        w.test-is ∙ w.goes.ensures.same ∙ is,
        subst (λ s. All (λ x. x < 2 ^ n) s.keys) (sym w.seen-is) were,
        λ may by.
            let differ : c.loop-c.c ≢ c.args.winner = differs c.loop-c.c c.args.winner c.ne.result c.ne.ensures w.if-ne.true in
            let no' : may 0 c.loop-c.c ≡ false =
            ap (λ s. may s c.loop-c.c) (sym w.empty.ensures) ∙ sym (w.in_ok-goes.ensures.answer may (subst (λ x. g.T.Goes.is_by x may) (sym is) by)) ∙ w.if-branch.false in
            ap (λ s. lasts n winner sets may (c.loop-c.c + 1) s.keys) w.seen-is
            ∙ sym (lasts-stays n winner sets may c.loop-c.c c.loop-c.seen.keys c.loop-c-test.true differ no') ∙ same may by,
      )
      | else-ne w ↦ (
        w.test-is ∙ is,
        subst (λ s. All (λ x. x < 2 ^ n) s.keys) (sym w.seen-is) were,
        λ may by. ap (λ s. lasts n winner sets may (c.loop-c.c + 1) s.keys) w.seen-is
            ∙ sym (lasts-winner n winner sets may c.loop-c.c c.loop-c.seen.keys c.loop-c-test.true
            (agrees c.loop-c.c c.args.winner c.ne.result c.ne.ensures w.if-ne.false)) ∙ same may by,
      )
    ]

pub returns-clause-walk : goal.returns-clause-walk
returns-clause-walk g c = λ may by.
    let n = c.args.n in
    let (_, were, same) = c.loop-c.invariant in
    let end : dives c.args.n c.args.winner c.args.sets may ≡ Ok c.loop-c.seen.keys =
    sym (same may by) ∙ lasts-end c.args.n c.args.winner c.args.sets may c.loop-c.c c.loop-c.seen.keys (omega arith) in (
      sym (walk_is n c.args.winner may c.args.sets c.requires.some) ∙ ap walked end,
      ended n c.args.winner c.args.sets may c.requires.some c.loop-c.seen.keys end,
    )
