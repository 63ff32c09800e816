use Rattle.std.proofs.Common.{◌≡◌, ◌+◌, ◌<◌, ◌∷◌, false, true, Ok, Err, length, sym, ap, arith, rules, ◌∙◌}
use Rattle.irv_base.specs.Candidates.{is_in}
use Rattle.irv_base.specs.Suffixes.{is_suffix}
use Rattle.irv_base.proofs.Suffixes.{suffix_more}
use Rattle.suffix_walk.specs.Kept.{is_parent_kept, all_ending}
use Rattle.suffix_walk.specs.Walks.{walked}
use Rattle.suffix_walk.proofs.Runs.{short-from_none, rest, rest-start, parent-kept, walked-dropped, walked-spent, walked-enters, walked-bounded, rest-passes, rest-goes, rest-stops}
use Rattle.suffix_walk.proofs.walk.+walk.Goals as goal
use Rattle.suffix_walk.proofs.walk.+walk.Goals.{then-not-contains+in_ok-seen, else-not-contains}

pub keeps-requires-clause-proper : goal.keeps-requires-clause-proper
keeps-requires-clause-proper g t c = ap (λ m. is_suffix m c.args.suffix.now) (sym c.requires.size) ∙ c.requires.proper

pub returns-then-not-keeps : goal.returns-then-not-keeps
returns-then-not-keeps g t c =
    sym (walked-dropped c.args.n c.args.nodes (g.T.Keeps.kept c.args.test.now)
    (λ d s p h. g.met.T.Keeps.shrinks c.args.test.now d s (ap (λ m. is_suffix m (d ∷ s)) (sym c.requires.size) ∙ p) h) c.args.count c.args.suffix.now
    c.requires.proper
    (sym c.keeps.ensures ∙ c.if-not-keeps.true))

pub returns-then-count-nodes : goal.returns-then-count-nodes
returns-then-count-nodes g t c =
    sym (walked-spent c.args.n c.args.nodes (g.T.Keeps.kept c.args.test.now) c.args.count c.args.suffix.now (sym c.keeps.ensures ∙ c.if-not-keeps.false)
    (short-from_none c.args.n c.args.suffix.now c.requires.proper (sym c.whole.ensures ∙ c.in_default.is)) (omega arith))

pub walk-requires : goal.walk-requires
walk-requires g t c κs within =
    let n = c.args.n in
    let t = c.args.suffix.now in
    let front = c.loop-c.c in
    let kept = g.T.Keeps.kept c.args.test.now in
    let same : c.with.result ≡ c.loop-c.c ∷ c.args.suffix.now = c.with.ensures in
    let short : length c.args.suffix.now < c.args.n = short-from_none n t c.requires.proper (sym c.whole.ensures ∙ c.in_default.is) in
    let out : is_in c.args.suffix.now c.loop-c.c ≡ false = sym c.contains.ensures ∙ c.if-not-contains.true in
    let long : length c.with.result ≡ length (c.loop-c.c ∷ c.args.suffix.now) = ap length same in (
      omega arith,
      (
        search rules,
        (
          c.requires.size,
          (
            c.requires.number,
            (
              c.requires.room,
              (
                ap (is_suffix n) same ∙ suffix_more n front t c.loop-c-test.true out c.requires.proper,
                (
                  omega arith,
                  (
                    ap (is_parent_kept kept) same ∙ parent-kept kept front t c.requires.some (sym c.keeps.ensures ∙ c.if-not-keeps.false),
                    c.loop-c.invariant.within,
                  ),
                ),
              ),
            ),
          ),
        ),
      ),
    )

pub loop-c-init : goal.loop-c-init
loop-c-init g t c =
    let lt : c.args.count < c.args.nodes = omega arith in
    let short : length c.args.suffix.now < c.args.n = short-from_none c.args.n c.args.suffix.now c.requires.proper (sym c.whole.ensures ∙ c.in_default.is) in
    record {
      within = omega arith;
      same = sym (walked-enters c.args.n c.args.nodes (g.T.Keeps.kept c.args.test.now) c.args.count c.args.suffix.now (sym c.keeps.ensures
          ∙ c.if-not-keeps.false) short lt
          ∙ sym (rest-start c.args.n c.args.nodes (g.T.Keeps.kept c.args.test.now) (c.args.count + 1) c.args.suffix.now));
    }

pub returns-in_err-seen : goal.returns-in_err-seen
returns-in_err-seen g t c =
    let kept = g.T.Keeps.kept c.args.test.now in
    let out : is_in c.args.suffix.now c.loop-c.c ≡ false = sym c.contains.ensures ∙ c.if-not-contains.true in
    let same : walked c.args.n c.args.nodes kept c.loop-c.seen (all_ending c.args.n (c.loop-c.c ∷ c.args.suffix.now)) ≡ Err c.in_err-seen.field-0.0 =
    ap (λ s. walked c.args.n c.args.nodes kept c.loop-c.seen (all_ending c.args.n s)) (sym c.with.ensures) ∙ sym c.walk.ensures ∙ c.in_err-seen.was in
    let given : c.from_residual.result ≡ Err c.in_err-seen.field-0.0 = search rules in
    given ∙ sym (rest-stops c.args.n c.args.nodes kept c.loop-c.seen c.in_err-seen.field-0.0 c.args.suffix.now c.loop-c.c c.loop-c-test.true out same)
    ∙ c.loop-c.invariant.same

pub loop-c-preserved : goal.loop-c-preserved
loop-c-preserved g t c =
    let n = c.args.n in
    let nodes = c.args.nodes in
    let kept = g.T.Keeps.kept c.args.test.now in
    elim c.if-not-contains.branch [
      | then-not-contains+in_ok-seen w ↦
          let out : is_in c.args.suffix.now c.loop-c.c ≡ false = sym c.contains.ensures ∙ w.if-not-contains.true in
          let e : walked c.args.n c.args.nodes (g.T.Keeps.kept c.args.test.now) c.loop-c.seen (all_ending c.args.n (c.loop-c.c ∷ c.args.suffix.now))
          ≡ Ok c.if-not-contains.seen =
          ap (λ s. walked c.args.n c.args.nodes (g.T.Keeps.kept c.args.test.now) c.loop-c.seen (all_ending c.args.n s)) (sym w.with.ensures)
          ∙ sym w.walk.ensures ∙ w.in_ok-seen.was ∙ ap Ok (sym w.seen-is) in
          record {
            within = walked-bounded n nodes kept c.loop-c.seen (all_ending n (c.loop-c.c ∷ c.args.suffix.now)) c.if-not-contains.seen
                c.loop-c.invariant.within e;
            same = sym (rest-goes n nodes kept c.loop-c.seen c.if-not-contains.seen c.args.suffix.now c.loop-c.c c.loop-c-test.true out e)
                ∙ c.loop-c.invariant.same;
          }
      | else-not-contains w ↦
          let inside : is_in c.args.suffix.now c.loop-c.c ≡ true = sym c.contains.ensures ∙ w.if-not-contains.false in
          record {
            within = omega arith;
            same = ap (λ k. rest n nodes kept k c.args.suffix.now (c.loop-c.c + 1)) w.seen-is
                ∙ sym (rest-passes n nodes kept c.loop-c.seen c.args.suffix.now c.loop-c.c c.loop-c-test.true inside) ∙ c.loop-c.invariant.same;
          }
    ]
