use Rattle.std.proofs.Common.{◌≡◌, ◌+◌, ◌-◌, ◌<◌, ◌≤◌, IfErr, ◌∷◌, ◌++◌, [], false, true, not, Ok, Err, length, rules, refl, sym, ap, subst, arith, lt-ltb, le-ltb, ◌∙◌}
use Rattle.irv_base.specs.Candidates.{is_in, set_of}
use Rattle.irv_base.specs.Suffixes.{is_suffix}
use Rattle.irv_base.proofs.Suffixes.{suffix_more}
use Rattle.set_walk.specs.Dives.{dive, is_seen}
use Rattle.set_walk.specs.Walks.{passes}
use Rattle.set_walk.proofs.Diving.{rest, short-from_none, dive-seen, dive-spent, dive-enters, rest-in, rest-stays, rest-goes}
use Rattle.cover_checker.specs.Reaching.{Extends, IsStop}
use Rattle.cover_checker.proofs.Passes.{goes-is}
use Rattle.cover_checker.proofs.Reaching.{extends-on, stop-goes, stop-same}
use Rattle.cover_checker.proofs.walk.+dive.Goals as goal
use Rattle.cover_checker.proofs.walk.+dive.Goals.{then-not-contains+then-not-is_any_new+in_ok-dive, then-not-contains+else-not-is_any_new, else-not-contains}

pub returns-then-contains-clause-ok : goal.returns-then-contains-clause-ok
returns-then-contains-clause-ok t c = λ list h.
    let suffix = c.args.suffix.now in
    let reached = c.args.reached.now in
    let short : length suffix < c.args.n = short-from_none c.args.n suffix c.requires.proper (sym c.whole.ensures ∙ c.in_default.is) in
    let there : is_seen reached (set_of suffix) ≡ true = ap (is_seen reached) (sym c.set-set.ensures) ∙ sym c.contains.ensures ∙ c.if-contains.true in
    dive-seen c.args.n c.args.sets (passes list) suffix reached short there

pub returns-then-len-sets-clause-err : goal.returns-then-len-sets-clause-err
returns-then-len-sets-clause-err t c = λ list h.
    let suffix = c.args.suffix.now in
    let reached = c.args.reached.now in
    let short : length suffix < c.args.n = short-from_none c.args.n suffix c.requires.proper (sym c.whole.ensures ∙ c.in_default.is) in
    let out : is_seen reached (set_of suffix) ≡ false = ap (is_seen reached) (sym c.set-set.ensures) ∙ sym c.contains.ensures ∙ c.if-contains.false in
    let long : c.len.result ≡ length reached = c.len.ensures in
    let full : c.args.sets ≤ c.len.result = omega arith in
    dive-spent c.args.n c.args.sets (passes list) suffix reached short out (le-ltb (length reached) c.args.sets (omega (arith, long, full)))

pub loop-c-init : goal.loop-c-init
loop-c-init t c =
    let suffix = c.args.suffix.now in
    let reached = c.args.reached.now in
    let pushed : c.push.new.self ≡ reached ++ c.set-set.result ∷ [] = c.in_ok-push.ensures.pushed in
    record {
      were = (c.set-set.result ∷ [], pushed);
      same = λ list h.
          let short : length suffix < c.args.n = short-from_none c.args.n suffix c.requires.proper (sym c.whole.ensures ∙ c.in_default.is) in
          let out : is_seen reached (set_of suffix) ≡ false = ap (is_seen reached) (sym c.set-set.ensures) ∙ sym c.contains.ensures ∙ c.if-contains.false in
          let long : c.len.result ≡ length reached = c.len.ensures in
          let few : c.len.result < c.args.sets = omega arith in
          ap (rest c.args.n c.args.sets (passes list) suffix 0) (pushed ∙ ap (λ s. reached ++ s ∷ []) c.set-set.ensures)
          ∙ sym (dive-enters c.args.n c.args.sets (passes list) suffix reached short out (lt-ltb (length reached) c.args.sets (omega (arith, long, few))));
    }

pub dive-requires : goal.dive-requires
dive-requires t c =
    let n = c.args.n in
    let suffix = c.args.suffix.now in
    let with = c.with-then-not-is_any_new in
    let same : with.result ≡ c.loop-c.c ∷ suffix = with.ensures in
    let short : length suffix < n = short-from_none n suffix c.requires.proper (sym c.whole.ensures ∙ c.in_default.is) in
    let out : is_in suffix c.loop-c.c ≡ false = sym c.contains-in-loop-c.ensures ∙ c.if-not-contains.true in
    let long : length with.result ≡ length (c.loop-c.c ∷ suffix) = ap length same in
    let less : n - length with.result < t = omega (arith, c.decreases, long, short) in (
      less,
      (
        c.requires.number,
        (
          c.requires.room,
          (
            ap (is_suffix n) same ∙ suffix_more n c.loop-c.c suffix c.loop-c-test.true out c.requires.proper,
            omega (arith, long),
          ),
        ),
      ),
    )

pub returns-in_err-dive-clause-err : goal.returns-in_err-dive-clause-err
returns-in_err-dive-clause-err t c = λ list h.
    let n = c.args.n in
    let sets = c.args.sets in
    let suffix = c.args.suffix.now in
    let front = c.loop-c.c in
    let stop = c.in_err-dive.field-0.0 in
    let out : is_in suffix front ≡ false = sym c.contains-in-loop-c.ensures ∙ c.if-not-contains.true in
    let goes : passes list (set_of suffix) front ≡ true =
    goes-is n list suffix front c.set-set.result c.with.result c.is_any_new.result c.requires.proper out c.set-set.ensures c.with.ensures.number
    (c.is_any_new.ensures list h)
    ∙ ap not c.if-not-is_any_new.true in
    let part = dive n sets (passes list) (n - length (front ∷ suffix)) (front ∷ suffix) c.loop-c.reached in
    let below : IsStop part stop =
    subst (λ s. IsStop (dive n sets (passes list) (n - length s) s c.loop-c.reached) stop) c.with-then-not-is_any_new.ensures
    (c.in_err-dive.ensures.err list h) in
    let goes-on = rest-goes n sets (passes list) suffix front c.loop-c.reached part c.loop-c-test.true out goes refl in
    let all = stop-same stop (rest n sets (passes list) suffix front c.loop-c.reached) (dive n sets (passes list) (n - length suffix) suffix c.args.reached.now)
    (c.loop-c.invariant.same list h)
    (stop-goes stop part (rest n sets (passes list) suffix front c.loop-c.reached) (rest n sets (passes list) suffix (front + 1)) goes-on below) in
    let given : c.from_residual-in_err-dive.result ≡ Err stop = search rules in
    subst (λ r. IfErr r (IsStop (dive n sets (passes list) (n - length suffix) suffix c.args.reached.now))) (sym given) all

pub loop-c-preserved : goal.loop-c-preserved
loop-c-preserved t c =
    let n = c.args.n in
    let sets = c.args.sets in
    let suffix = c.args.suffix.now in
    let front = c.loop-c.c in
    elim c.if-not-contains.branch [
      | then-not-contains+then-not-is_any_new+in_ok-dive w ↦ record {
        were = subst (Extends c.args.reached.now) (sym w.reached-is)
            (extends-on c.args.reached.now c.loop-c.reached w.dive.new.reached c.loop-c.invariant.were w.in_ok-dive.ensures.were);
        same = λ list h.
            let out : is_in suffix front ≡ false = sym c.contains-in-loop-c.ensures ∙ w.if-not-contains.true in
            let goes : passes list (set_of suffix) front ≡ true =
            goes-is n list suffix front c.set-set.result w.with.result w.is_any_new.result c.requires.proper out c.set-set.ensures w.with.ensures.number
            (w.is_any_new.ensures list h)
            ∙ ap not w.if-not-is_any_new.true in
            let below : dive n sets (passes list) (n - length (front ∷ suffix)) (front ∷ suffix) c.loop-c.reached ≡ Ok w.dive.new.reached =
            ap (λ s. dive n sets (passes list) (n - length s) s c.loop-c.reached) (sym w.with-then-not-is_any_new.ensures)
            ∙ w.in_ok-dive.ensures.ok list h in
            ap (rest n sets (passes list) suffix (front + 1)) w.reached-is
            ∙ sym (rest-goes n sets (passes list) suffix front c.loop-c.reached (Ok w.dive.new.reached) c.loop-c-test.true out goes below)
            ∙ c.loop-c.invariant.same list h;
      }
      | then-not-contains+else-not-is_any_new w ↦ record {
        were = subst (Extends c.args.reached.now) (sym w.reached-is) c.loop-c.invariant.were;
        same = λ list h.
            let out : is_in suffix front ≡ false = sym c.contains-in-loop-c.ensures ∙ w.if-not-contains.true in
            let stays : passes list (set_of suffix) front ≡ false =
            goes-is n list suffix front c.set-set.result w.with.result w.is_any_new.result c.requires.proper out c.set-set.ensures w.with.ensures.number
            (w.is_any_new.ensures list h)
            ∙ ap not w.if-not-is_any_new.false in
            ap (rest n sets (passes list) suffix (front + 1)) w.reached-is
            ∙ sym (rest-stays n sets (passes list) suffix front c.loop-c.reached c.loop-c-test.true out stays) ∙ c.loop-c.invariant.same list h;
      }
      | else-not-contains w ↦ record {
        were = subst (Extends c.args.reached.now) (sym w.reached-is) c.loop-c.invariant.were;
        same = λ list h.
            let inside : is_in suffix front ≡ true = sym c.contains-in-loop-c.ensures ∙ w.if-not-contains.false in
            ap (rest n sets (passes list) suffix (front + 1)) w.reached-is
            ∙ sym (rest-in n sets (passes list) suffix front c.loop-c.reached c.loop-c-test.true inside) ∙ c.loop-c.invariant.same list h;
      }
    ]
