use Rattle.std.proofs.Common.{◌≡◌, ◌==◌, ◌+◌, false, bit_and, ap, arith, get_or, cond, eq-eqb, ◌∙◌}
use Rattle.std.proofs.lemmas.List.{take_all}
use Rattle.set_tallies.specs.Bags.{missing}
use Rattle.set_tallies.specs.Listings.{paired}
use Rattle.set_tallies.proofs.Paired.{first-votes, length-paired, one-more}
use Rattle.set_tallies.proofs.lanes.missing.Goals as goal
use Rattle.set_tallies.proofs.lanes.missing.Goals.{then-sets-i-eq0, else-sets-i-eq0}

pub overflow_add-votes : goal.overflow_add-votes
overflow_add-votes c =
    let i = c.loop-i.i in
    let sets = c.args.sets.now in
    let counts = c.args.counts.now in
    omega (
      arith,
      c.loop-i.invariant,
      one-more c.args.set sets counts i c.requires.same c.loop-i-test.true,
      ap (λ b. cond b (get_or counts i 0) 0) (eq-eqb _ 0 c.if-sets-i-eq0.true),
      first-votes c.args.set (i + 1) (paired sets counts),
      c.requires.most,
    )

pub loop-i-preserved : goal.loop-i-preserved
loop-i-preserved c =
    let i = c.loop-i.i in
    let sets = c.args.sets.now in
    let counts = c.args.counts.now in
    let more = one-more c.args.set sets counts i c.requires.same c.loop-i-test.true in
    elim c.if-sets-i-eq0.branch [
      | then-sets-i-eq0 w ↦ omega (arith, w.votes-is, c.loop-i.invariant, more, ap (λ b. cond b (get_or counts i 0) 0) (eq-eqb _ 0 w.if-sets-i-eq0.true))
      | else-sets-i-eq0 w ↦
          let hit : (bit_and (get_or sets i 0) c.args.set == 0) ≡ false = grind (arith, w.if-sets-i-eq0.false) in
          omega (arith, w.votes-is, c.loop-i.invariant, more, ap (λ b. cond b (get_or counts i 0) 0) hit)
    ]

pub returns : goal.returns
returns c =
    let sets = c.args.sets.now in
    let counts = c.args.counts.now in
    c.loop-i.invariant
    ∙ ap (missing c.args.set) (take_all c.loop-i.i (paired sets counts) (omega (arith, c.loop-i-test.false, c.loop-i.auto.i-end, length-paired sets counts c.requires.same)))
