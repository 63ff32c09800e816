use Rattle.std.proofs.Common.{◌≡◌, ◌≢◌, ◌+◌, ◌-◌, ◌^◌, ◌<◌, ◌≤◌, ◌∷◌, ◌++◌, [], false, true, Ok, Err, All, length, sym, ap, subst, arith, rules, if◌then◌else◌, lt-ltb, le-ltb, ◌∙◌}
use Rattle.std.proofs.lemmas.List.Elements.{All-append, All-cons, All-nil}
use Rattle.irv_base.specs.Candidates.{is_in, set_of, has}
use Rattle.irv_base.specs.Suffixes.{is_suffix}
use Rattle.irv_base.proofs.Suffixes.{suffix_more, suffix-has, suffix-set}
use Rattle.set_walk.specs.Dives.{dive, is_seen}
use Rattle.set_walk.specs.declared.walk.Stop.TheVariants.{Memory as WantOfMemory}
use Rattle.set_walk.proofs.Diving.{rest, short-from_none, dive-seen, dive-spent, dive-enters, rest-end, rest-in, rest-stays, rest-goes}
use Rattle.set_walk.proofs.walk.+dive.Goals as goal
use Rattle.set_walk.proofs.walk.+dive.Goals.{then-not-contains+in_ok-goes+then-branch+in_ok-dive, then-not-contains+in_ok-goes+else-branch, else-not-contains}

pub returns-then-contains-clause-ok : goal.returns-then-contains-clause-ok
returns-then-contains-clause-ok g t c = λ may by.
    let short : length c.args.suffix.now < c.args.n = short-from_none c.args.n c.args.suffix.now c.requires.proper (sym c.whole.ensures ∙ c.in_default.is) in
    let there : is_seen c.args.seen.now.keys (set_of c.args.suffix.now) ≡ true =
    ap (is_seen c.args.seen.now.keys) (sym c.set-set.ensures) ∙ sym c.contains.ensures ∙ c.if-contains.true in
    dive-seen c.args.n c.args.sets may c.args.suffix.now c.args.seen.now.keys short there

pub returns-then-len-sets-clause-err : goal.returns-then-len-sets-clause-err
returns-then-len-sets-clause-err g t c = λ may by _.
    let short : length c.args.suffix.now < c.args.n = short-from_none c.args.n c.args.suffix.now c.requires.proper (sym c.whole.ensures ∙ c.in_default.is) in
    let out : is_seen c.args.seen.now.keys (set_of c.args.suffix.now) ≡ false =
    ap (is_seen c.args.seen.now.keys) (sym c.set-set.ensures) ∙ sym c.contains.ensures ∙ c.if-contains.false in
    let long : c.len.result ≡ length c.args.seen.now.keys = c.len.ensures.len in
    let full : c.args.sets ≤ c.len.result = omega arith in
    dive-spent c.args.n c.args.sets may c.args.suffix.now c.args.seen.now.keys short out
    (le-ltb (length c.args.seen.now.keys) c.args.sets (omega (arith, long, full)))

pub loop-c-init : goal.loop-c-init
loop-c-init g t c =
    let short : length c.args.suffix.now < c.args.n = short-from_none c.args.n c.args.suffix.now c.requires.proper (sym c.whole.ensures ∙ c.in_default.is) in
    let free : is_seen c.args.seen.now.keys c.set-set.result ≡ false = sym c.contains.ensures ∙ c.if-contains.false in
    let out : is_seen c.args.seen.now.keys (set_of c.args.suffix.now) ≡ false = ap (is_seen c.args.seen.now.keys) (sym c.set-set.ensures) ∙ free in
    let long : c.len.result ≡ length c.args.seen.now.keys = c.len.ensures.len in
    let few : c.len.result < c.args.sets = omega arith in
    let added : c.insert.new.self.keys ≡ (if is_seen c.args.seen.now.keys c.set-set.result then c.args.seen.now.keys else c.args.seen.now.keys
    ++ c.set-set.result ∷ []) =
    c.in_ok-insert.ensures.keys in
    let keys : c.insert.new.self.keys ≡ c.args.seen.now.keys ++ set_of c.args.suffix.now ∷ [] =
    added ∙ ap (λ b. if b then c.args.seen.now.keys else c.args.seen.now.keys ++ c.set-set.result ∷ []) free
    ∙ ap (λ s. c.args.seen.now.keys ++ s ∷ []) c.set-set.ensures in (
      λ _. c.args.test.now,
      subst (All (λ s. s < 2 ^ c.args.n)) (sym keys)
          (All-append (λ s. s < 2 ^ c.args.n) c.args.seen.now.keys (set_of c.args.suffix.now ∷ []) c.requires.were_sets
          (All-cons (λ s. s < 2 ^ c.args.n) (set_of c.args.suffix.now) [] (suffix-set c.args.n c.args.suffix.now c.requires.proper) (All-nil (λ s. s < 2 ^ c.args.n)))),
      λ may by. ap (rest c.args.n c.args.sets may c.args.suffix.now 0) keys
          ∙ sym (dive-enters c.args.n c.args.sets may c.args.suffix.now c.args.seen.now.keys short out
          (lt-ltb (length c.args.seen.now.keys) c.args.sets (omega (arith, long, few)))),
    )

pub goes-requires-clause-set : goal.goes-requires-clause-set
goes-requires-clause-set g t c =
    let (is, were, _) = c.loop-c.invariant in
    subst (λ k. c.set-set.result < 2 ^ k) (c.requires.size ∙ sym (ap g.T.Goes.size is))
    (subst (λ s. s < 2 ^ c.args.n) (sym c.set-set.ensures) (suffix-set c.args.n c.args.suffix.now c.requires.proper))

pub goes-requires-clause-outside : goal.goes-requires-clause-outside
goes-requires-clause-outside g t c =
    ap (λ s. has s c.loop-c.c) c.set-set.ensures ∙ suffix-has c.args.n c.args.suffix.now c.loop-c.c c.requires.proper ∙ sym c.contains-in-loop-c.ensures
    ∙ c.if-not-contains.true

pub dive-requires : goal.dive-requires
dive-requires g t c κs within =
    let n = c.args.n in
    let t = c.args.suffix.now in
    let front = c.loop-c.c in
    let (is, were, _) = c.loop-c.invariant in
    let same : c.with.result ≡ c.loop-c.c ∷ c.args.suffix.now = c.with.ensures in
    let short : length c.args.suffix.now < c.args.n = short-from_none n t c.requires.proper (sym c.whole.ensures ∙ c.in_default.is) in
    let out : is_in c.args.suffix.now c.loop-c.c ≡ false = sym c.contains-in-loop-c.ensures ∙ c.if-not-contains.true in
    let long : length c.with.result ≡ length (c.loop-c.c ∷ c.args.suffix.now) = ap length same in (
      omega arith,
      (
        search rules,
        (
          c.requires.size ∙ sym (ap g.T.Goes.size (c.goes.ensures.same ∙ is)),
          (
            c.requires.number,
            (
              c.requires.room,
              (
                ap (is_suffix n) same ∙ suffix_more n front t c.loop-c-test.true out c.requires.proper,
                (
                  omega arith,
                  were,
                ),
              ),
            ),
          ),
        ),
      ),
    )

pub returns-in_err-dive-clause-err : goal.returns-in_err-dive-clause-err
returns-in_err-dive-clause-err g t c = λ may by.
    let n = c.args.n in
    let sets = c.args.sets in
    let (is, were, same) = c.loop-c.invariant in
    let out : is_in c.args.suffix.now c.loop-c.c ≡ false = sym c.contains-in-loop-c.ensures ∙ c.if-not-contains.true in
    let yes' : may (set_of c.args.suffix.now) c.loop-c.c ≡ true =
    ap (λ s. may s c.loop-c.c) (sym c.set-set.ensures) ∙ sym (c.in_ok-goes.ensures.answer may (subst (λ x. g.T.Goes.is_by x may) (sym is) by)) ∙ c.if-branch.true in
    let all : c.in_err-dive.field-0.0 ≢ WantOfMemory → dive c.args.n c.args.sets may (c.args.n - length c.args.suffix.now) c.args.suffix.now c.args.seen.now.keys
    ≡ Err c.in_err-dive.field-0.0 =
    λ other. sym (same may by)
    ∙ rest-goes n sets may c.args.suffix.now c.loop-c.c c.loop-c.seen.keys (Err c.in_err-dive.field-0.0) c.loop-c-test.true out yes'
    (ap (λ s. dive n sets may (n - length s) s c.loop-c.seen.keys) (sym c.with.ensures)
    ∙ c.in_err-dive.ensures.err may (subst (λ x. g.T.Goes.is_by x may) (sym (c.goes.ensures.same ∙ is)) by) other) in
    search rules

pub loop-c-preserved : goal.loop-c-preserved
loop-c-preserved g t c =
    let n = c.args.n in
    let sets = c.args.sets in
    let t = c.args.suffix.now in
    let (is, were, same) = c.loop-c.invariant in
    elim c.if-not-contains.branch [
      | then-not-contains+in_ok-goes+then-branch+in_ok-dive w ↦ (
        w.test-is ∙ w.dive.ensures.same ∙ w.goes.ensures.same ∙ is,
        subst (λ s. All (λ x. x < 2 ^ n) s.keys) (sym w.seen-is) w.in_ok-dive.ensures.are_sets,
        λ may by.
            let out : is_in c.args.suffix.now c.loop-c.c ≡ false = sym c.contains-in-loop-c.ensures ∙ w.if-not-contains.true in
            let yes' : may (set_of c.args.suffix.now) c.loop-c.c ≡ true =
            ap (λ s. may s c.loop-c.c) (sym c.set-set.ensures) ∙ sym (w.in_ok-goes.ensures.answer may (subst (λ x. g.T.Goes.is_by x may) (sym is) by)) ∙ w.if-branch.true in
            let e : dive n sets may (n - length (c.loop-c.c ∷ t)) (c.loop-c.c ∷ t) c.loop-c.seen.keys ≡ Ok w.dive.new.seen.keys =
            ap (λ s. dive n sets may (n - length s) s c.loop-c.seen.keys) (sym w.with.ensures)
            ∙ w.in_ok-dive.ensures.ok may (subst (λ x. g.T.Goes.is_by x may) (sym (w.goes.ensures.same ∙ is)) by) in
            ap (λ s. rest n sets may t (c.loop-c.c + 1) s.keys) w.seen-is
            ∙ sym (rest-goes n sets may t c.loop-c.c c.loop-c.seen.keys (Ok w.dive.new.seen.keys) c.loop-c-test.true out yes' e)
            ∙ same may by,
      )
      | then-not-contains+in_ok-goes+else-branch w ↦ (
        w.test-is ∙ w.goes.ensures.same ∙ is,
        subst (λ s. All (λ x. x < 2 ^ n) s.keys) (sym w.seen-is) were,
        λ may by.
            let out : is_in c.args.suffix.now c.loop-c.c ≡ false = sym c.contains-in-loop-c.ensures ∙ w.if-not-contains.true in
            let no' : may (set_of c.args.suffix.now) c.loop-c.c ≡ false =
            ap (λ s. may s c.loop-c.c) (sym c.set-set.ensures) ∙ sym (w.in_ok-goes.ensures.answer may (subst (λ x. g.T.Goes.is_by x may) (sym is) by)) ∙ w.if-branch.false in
            ap (λ s. rest n sets may t (c.loop-c.c + 1) s.keys) w.seen-is
            ∙ sym (rest-stays n sets may t c.loop-c.c c.loop-c.seen.keys c.loop-c-test.true out no') ∙ same may by,
      )
      | else-not-contains w ↦ (
        w.test-is ∙ is,
        subst (λ s. All (λ x. x < 2 ^ n) s.keys) (sym w.seen-is) were,
        λ may by.
            let inside : is_in c.args.suffix.now c.loop-c.c ≡ true = sym c.contains-in-loop-c.ensures ∙ w.if-not-contains.false in
            ap (λ s. rest n sets may t (c.loop-c.c + 1) s.keys) w.seen-is
            ∙ sym (rest-in n sets may t c.loop-c.c c.loop-c.seen.keys c.loop-c-test.true inside) ∙ same may by,
      )
    ]

pub returns-clause-ok : goal.returns-clause-ok
returns-clause-ok g t c = λ may by.
    let (_, were, same) = c.loop-c.invariant in
    sym (same may by)
    ∙ rest-end c.args.n c.args.sets may c.args.suffix.now c.loop-c.c c.loop-c.seen.keys (omega arith)
