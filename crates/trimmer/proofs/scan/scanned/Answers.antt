use Rattle.std.proofs.Common.{◌≡◌, ◌≢◌, ℕ, ◌+◌, ◌<◌, [], ◌∷◌, length, get_or, slice_index, set, Ok, Err, sym, ap, subst, arith, ◌∙◌}
use Rattle.std.proofs.lemmas.List.{length-set}
use Rattle.irv_base.specs.declared.limits.TheConstants.{ROOM}
use Rattle.suffix_walk.specs.Kept.{all_ending}
use Rattle.suffix_walk.specs.Walks.{walked}
use Rattle.suffix_walk.proofs.Runs.{walked-bounded}
use Rattle.suffix_walk.proofs.Scans.{differs, agrees}
use Rattle.trimmer.specs.Remaining.{assertions_in}
use Rattle.trimmer.specs.Counts.{AreWithin, Goes}
use Rattle.trimmer.specs.Opened.{opens, told}
use Rattle.trimmer.specs.declared.opened.Stop.TheVariants.{Found, Spent}
use Rattle.trimmer.proofs.Puts.{put-goes, put-within}
use Rattle.trimmer.proofs.Walking.{from_told-ok, from_told-found, from_told-spent}
use Rattle.trimmer.proofs.scan.scanned.Goals as goal
use Rattle.trimmer.proofs.scan.scanned.Goals.{then-ne+in-Ok, else-ne}

pub returns-in-Err-Found : goal.returns-in-Err-Found
returns-in-Err-Found c =
    let w = c.args.without.now in
    let at = c.loop-c.c in
    let counts = c.args.counts.now in
    let e : Err Found ≡ told (walked w.n c.args.nodes (opens (assertions_in w.others.now) w.claim) (slice_index counts at) (all_ending w.n (at ∷ []))) =
    (rw c.in-Err-Found.field-0-is at c.in-Err-Found.ensures)
    ∙ ap (λ i. told (walked w.n c.args.nodes (opens (assertions_in w.others.now) w.claim) (slice_index counts i) (all_ending w.n c.of.result))) c.index.ensures.same
    ∙ ap (λ s. told (walked w.n c.args.nodes (opens (assertions_in w.others.now) w.claim) (slice_index counts at) (all_ending w.n s))) c.of.ensures in
    let (order, f) = from_told-found (walked w.n c.args.nodes (opens (assertions_in w.others.now) w.claim) (slice_index counts at) (all_ending w.n (at ∷ []))) e in (
      at,
      c.loop-c-test.true,
      differs at c.args.winner c.ne.result c.ne.ensures c.if-ne.true,
      λ d lt ne. (get_or c.loop-c.more d 0, c.loop-c.invariant.below d lt ne),
      (order, f),
    )

pub returns-in-Err-Spent : goal.returns-in-Err-Spent
returns-in-Err-Spent c =
    let w = c.args.without.now in
    let at = c.loop-c.c in
    let counts = c.args.counts.now in
    let e : Err Spent ≡ told (walked w.n c.args.nodes (opens (assertions_in w.others.now) w.claim) (slice_index counts at) (all_ending w.n (at ∷ []))) =
    (rw c.in-Err-Spent.field-0-is at c.in-Err-Spent.ensures)
    ∙ ap (λ i. told (walked w.n c.args.nodes (opens (assertions_in w.others.now) w.claim) (slice_index counts i) (all_ending w.n c.of.result))) c.index.ensures.same
    ∙ ap (λ s. told (walked w.n c.args.nodes (opens (assertions_in w.others.now) w.claim) (slice_index counts at) (all_ending w.n s))) c.of.ensures in
    let f = from_told-spent (walked w.n c.args.nodes (opens (assertions_in w.others.now) w.claim) (slice_index counts at) (all_ending w.n (at ∷ []))) e in (
      at,
      c.loop-c-test.true,
      differs at c.args.winner c.ne.result c.ne.ensures c.if-ne.true,
      λ d lt ne. (get_or c.loop-c.more d 0, c.loop-c.invariant.below d lt ne),
      f,
    )

pub loop-c-preserved : goal.loop-c-preserved
loop-c-preserved c =
    let v = c.args.without.now in
    let at = c.loop-c.c in
    let counts = c.args.counts.now in
    let more = c.loop-c.more in
    let winner = c.args.winner in
    let long : length more ≡ ROOM = c.loop-c.invariant.long in
    elim c.if-ne.branch [
      | then-ne+in-Ok w ↦
          let count = w.in-Ok.count in
          let e : walked v.n c.args.nodes (opens (assertions_in v.others.now) v.claim) (slice_index counts at) (all_ending v.n (at ∷ [])) ≡ Ok count =
          from_told-ok (walked v.n c.args.nodes (opens (assertions_in v.others.now) v.claim) (slice_index counts at) (all_ending v.n (at ∷ []))) count
          (w.in-Ok.ensures
          ∙ ap (λ i. told (walked v.n c.args.nodes (opens (assertions_in v.others.now) v.claim) (slice_index counts i) (all_ending v.n w.of.result))) w.index.ensures.same
          ∙ ap (λ s. told (walked v.n c.args.nodes (opens (assertions_in v.others.now) v.claim) (slice_index counts at) (all_ending v.n s))) w.of.ensures) in
          let inside : at < length more = omega (arith, w.index.ensures.same, w.index.ensures.below, long) in
          let put : c.if-ne.more ≡ set more at count = w.more-is ∙ ap (λ i. set more i count) w.index-in-Ok.ensures.same in
          subst (λ now. record {
            below : (d : ℕ) → d < at + 1 → d ≢ winner → Goes c.args.nodes v.n winner (assertions_in v.others.now) v.claim counts d (get_or now d 0);
            within : AreWithin c.args.nodes now;
            long : length now ≡ ROOM;
          }) (sym put) (record {
            below = put-goes c.args.nodes v.n winner (assertions_in v.others.now) v.claim counts more at count inside c.loop-c.invariant.below e;
            within = put-within c.args.nodes v.n winner (assertions_in v.others.now) v.claim counts more at count inside c.loop-c.invariant.within
                (walked-bounded v.n c.args.nodes (opens (assertions_in v.others.now) v.claim) (slice_index counts at) (all_ending v.n (at ∷ [])) count (c.requires.within at) e);
            long = length-set more at count ∙ long;
          })
      | else-ne w ↦
          let its : at ≡ winner = agrees at winner c.ne.result c.ne.ensures w.if-ne.false in
          subst (λ now. record {
            below : (d : ℕ) → d < at + 1 → d ≢ winner → Goes c.args.nodes v.n winner (assertions_in v.others.now) v.claim counts d (get_or now d 0);
            within : AreWithin c.args.nodes now;
            long : length now ≡ ROOM;
          }) (sym w.more-is) (record {
            below = λ d lt ne. c.loop-c.invariant.below d (omega (arith, lt, ne, its)) ne;
            within = c.loop-c.invariant.within;
            long = long;
          })
    ]

pub returns : goal.returns
returns c =
    let v = c.args.without.now in
    let all = c.loop-c-test.false in
    (λ d lt ne. c.loop-c.invariant.below d (omega (arith, lt, all)) ne, c.loop-c.invariant.within)
