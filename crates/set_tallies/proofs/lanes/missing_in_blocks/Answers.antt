use Rattle.std.proofs.Common.{◌≡◌, ◌+◌, ◌*◌, ◌≤◌, length, take, sym, ap, arith, w32, ◌∙◌}
use Rattle.std.specs.Simd.Lanes.{sum_l, chunk}
use Rattle.std.proofs.lemmas.Simd.{adds_fit, sum_fits, fold-sum, length-zip2, sum-zip2, length-chunk}
use Rattle.set_tallies.specs.Bags.{missing}
use Rattle.set_tallies.specs.Listings.{paired}
use Rattle.set_tallies.proofs.Paired.{counted, next-votes, first-votes}
use Rattle.set_tallies.proofs.lanes.missing_in_blocks.Goals as goal
use Rattle.set_tallies.proofs.lanes.missing_in_blocks.Goals.{After-counts_missing-votes}

-- the votes of the next block, together with those before it
next : (c : After-counts_missing-votes) → sum_l c.loop-block.votes + sum_l c.counts_missing-votes.result
    ≡ missing c.args.set (take (c.loop-block.block * 8 + 8) (paired c.args.sets.now c.args.counts.now))
next c =
    let i = c.loop-block.block * 8 in
    ap (λ k. k + sum_l c.counts_missing-votes.result) c.loop-block.invariant
    ∙ ap (λ xs. missing c.args.set (take i (paired c.args.sets.now c.args.counts.now)) + sum_l xs) c.counts_missing-votes.ensures
    ∙ next-votes c.args.set i 8 c.args.sets.now c.args.counts.now c.requires.same

pub overflow_add-votes : goal.overflow_add-votes
overflow_add-votes c =
    adds_fit w32 c.loop-block.votes c.counts_missing-votes.result
    (omega (arith, next (goal.at.overflow_add-votes c).After-counts_missing-votes, first-votes c.args.set (c.loop-block.block * 8 + 8) (paired c.args.sets.now c.args.counts.now), c.requires.most))

pub loop-block-preserved : goal.loop-block-preserved
loop-block-preserved c =
    let entries = paired c.args.sets.now c.args.counts.now in
    let i = c.loop-block.block * 8 in
    let sets = c.args.sets.now in
    let counts = c.args.counts.now in
    let room : i + 8 ≤ length sets = omega (arith, c.loop-block-test.true, c.requires.within) in
    let first = length-chunk i 8 sets room in
    let second = length-chunk i 8 counts (omega (arith, room, c.requires.same)) in
    let wide : length c.counts_missing-votes.result ≡ 8 =
    ap length c.counts_missing-votes.ensures ∙ length-zip2 (counted c.args.set) (chunk i 8 sets) (chunk i 8 counts) (first ∙ sym second) ∙ first in
    let place : c.loop-block.block * 8 + 8 ≡ (c.loop-block.block + 1) * 8 = omega arith in
    sum-zip2 c.loop-block.votes c.counts_missing-votes.result (c.loop-block.auto.votes.0 ∙ sym wide)
    ∙ next (goal.at.loop-block-preserved c).After-counts_missing-votes
    ∙ ap (λ k. missing c.args.set (take k entries)) place

pub overflow_add-result : goal.overflow_add-result
overflow_add-result c =
    sum_fits w32 0 c.loop-block.votes
    (omega (arith, c.loop-block.invariant, first-votes c.args.set (c.loop-block.block * 8) (paired c.args.sets.now c.args.counts.now), c.requires.most))

pub returns : goal.returns
returns c =
    let entries = paired c.args.sets.now c.args.counts.now in
    let whole : c.loop-block.block ≡ c.args.blocks = omega (arith, c.loop-block-test.false, c.loop-block.auto.block-end) in
    omega (
      arith,
      fold-sum 0 c.loop-block.votes,
      c.loop-block.invariant,
      ap (λ k. missing c.args.set (take (k * 8) entries)) whole,
    )
