use Rattle.std.proofs.Common.{◌≡◌, ◌≢◌, ◌+◌, ◌-◌, [], ◌∷◌, false, true, not, Ok, length, refl, sym, ap, subst, arith, ◌∙◌}
use Rattle.set_walk.specs.Dives.{dive, dives}
use Rattle.set_walk.specs.Walks.{passes}
use Rattle.set_walk.proofs.Diving.{differs, agrees, lasts, lasts-end, lasts-winner, lasts-stays, lasts-goes}
use Rattle.cover_checker.specs.Reaching.{IsReach, IsStop}
use Rattle.cover_checker.proofs.Passes.{goes-is}
use Rattle.cover_checker.proofs.Reaching.{ended-reach, stop-goes, stop-same, stopped-reach}
use Rattle.cover_checker.proofs.walk.reach.Goals as goal
use Rattle.cover_checker.proofs.walk.reach.Goals.{then-ne+then-not-is_any_new+in-Ok, then-ne+else-not-is_any_new, else-ne}

pub returns-in-Err : goal.returns-in-Err
returns-in-Err c = λ list h.
    let n = c.args.n in
    let sets = c.args.sets in
    let winner = c.args.winner in
    let last = c.loop-c.c in
    let stop = c.in-Err.stop in
    let differ : last ≢ winner = differs last winner c.ne.result c.ne.ensures c.if-ne.true in
    let goes : passes list 0 last ≡ true =
    goes-is n list [] last c.empty.result c.with.result c.is_any_new.result refl refl c.empty.ensures c.with.ensures.number (c.is_any_new.ensures list h)
    ∙ ap not c.if-not-is_any_new.true in
    let part = dive n sets (passes list) (n - 1) (last ∷ []) c.loop-c.reached in
    let below : IsStop part stop =
    subst (λ s. IsStop (dive n sets (passes list) (n - length s) s c.loop-c.reached) stop) c.of.ensures (c.in-Err.ensures.err list h) in
    let goes-on = lasts-goes n winner sets (passes list) last c.loop-c.reached part c.loop-c-test.true differ goes refl in
    subst (IsReach n winner sets (passes list)) (sym c.stopped.ensures)
    (stopped-reach n winner sets (passes list) c.requires.some stop
    (stop-same stop (lasts n winner sets (passes list) last c.loop-c.reached) (dives n winner sets (passes list)) (c.loop-c.invariant list h)
    (stop-goes stop part (lasts n winner sets (passes list) last c.loop-c.reached) (lasts n winner sets (passes list) (last + 1)) goes-on below)))

pub loop-c-preserved : goal.loop-c-preserved
loop-c-preserved c =
    let n = c.args.n in
    let sets = c.args.sets in
    let winner = c.args.winner in
    let last = c.loop-c.c in
    elim c.if-ne.branch [
      | then-ne+then-not-is_any_new+in-Ok w ↦ λ list h.
          let differ : last ≢ winner = differs last winner c.ne.result c.ne.ensures w.if-ne.true in
          let goes : passes list 0 last ≡ true =
          goes-is n list [] last w.empty.result w.with.result w.is_any_new.result refl refl w.empty.ensures w.with.ensures.number (w.is_any_new.ensures list h)
          ∙ ap not w.if-not-is_any_new.true in
          let below : dive n sets (passes list) (n - 1) (last ∷ []) c.loop-c.reached ≡ Ok w.dive.new.reached =
          ap (λ s. dive n sets (passes list) (n - length s) s c.loop-c.reached) (sym w.of.ensures) ∙ w.in-Ok.ensures.ok list h in
          ap (lasts n winner sets (passes list) (last + 1)) w.reached-is
          ∙ sym (lasts-goes n winner sets (passes list) last c.loop-c.reached (Ok w.dive.new.reached) c.loop-c-test.true differ goes below)
          ∙ c.loop-c.invariant list h
      | then-ne+else-not-is_any_new w ↦ λ list h.
          let differ : last ≢ winner = differs last winner c.ne.result c.ne.ensures w.if-ne.true in
          let stays : passes list 0 last ≡ false =
          goes-is n list [] last w.empty.result w.with.result w.is_any_new.result refl refl w.empty.ensures w.with.ensures.number (w.is_any_new.ensures list h)
          ∙ ap not w.if-not-is_any_new.false in
          ap (lasts n winner sets (passes list) (last + 1)) w.reached-is
          ∙ sym (lasts-stays n winner sets (passes list) last c.loop-c.reached c.loop-c-test.true differ stays) ∙ c.loop-c.invariant list h
      | else-ne w ↦ λ list h.
          ap (lasts n winner sets (passes list) (last + 1)) w.reached-is
          ∙ sym (lasts-winner n winner sets (passes list) last c.loop-c.reached c.loop-c-test.true
          (agrees last winner c.ne.result c.ne.ensures w.if-ne.false))
          ∙ c.loop-c.invariant list h
    ]

pub returns : goal.returns
returns c = λ list h.
    ended-reach c.args.n c.args.winner c.args.sets (passes list) c.requires.some c.loop-c.reached
    (sym (c.loop-c.invariant list h) ∙ lasts-end c.args.n c.args.winner c.args.sets (passes list) c.loop-c.c c.loop-c.reached (omega arith))
