use Rattle.std.proofs.Common.{◌≡◌, ◌^◌, ◌<◌, get_or, sym, ap, subst, arith, ◌∙◌}
use Rattle.std.proofs.lemmas.List.FromFn.{get_or-map-range_with_len}
use Rattle.irv_base.specs.Records.{tally}
use Rattle.assertions.specs.Steps.{more}
use Rattle.set_tallies.specs.Bags.{HasTallies, tallies}
use Rattle.set_flow.proofs.Poured.{next-below}
use Rattle.nen_cut.specs.Floors.{IsCutter}
use Rattle.nen_cut.proofs.by_tallies.ByTallies.cutter.Goals as goal

pub row-requires : goal.row-requires
row-requires c =
    next-below c.args.self.now.tallies.bag.n c.args.set c.args.c c.with-with.result c.requires.set c.requires.below c.requires.outside
    (c.with-with.ensures.number c.requires.outside)

pub strongest_nen-requires-clause-set : goal.strongest_nen-requires-clause-set
strongest_nen-requires-clause-set c =
    subst (λ k. c.with-with.result < 2 ^ k) (sym c.candidates-n.ensures.same)
    (next-below c.args.self.now.tallies.bag.n c.args.set c.args.c c.with-with.result c.requires.set c.requires.below c.requires.outside
    (c.with-with.ensures.number c.requires.outside))

pub tally-requires : goal.tally-requires
tally-requires c =
    next-below c.args.self.now.tallies.bag.n c.args.set c.args.c c.with-with.result c.requires.set c.requires.below c.requires.outside
    (c.with-with.ensures.number c.requires.outside)

pub strongest_nen-requires-in-None-clause-set : goal.strongest_nen-requires-in-None-clause-set
strongest_nen-requires-in-None-clause-set c =
    subst (λ k. c.with-with.result < 2 ^ k) (sym c.candidates-n.ensures.same)
    (next-below c.args.self.now.tallies.bag.n c.args.set c.args.c c.with-with.result c.requires.set c.requires.below c.requires.outside
    (c.with-with.ensures.number c.requires.outside))

pub returns-in-Some-clause-cutter : goal.returns-in-Some-clause-cutter
returns-in-Some-clause-cutter c = λ records of.
    let n = c.args.self.now.tallies.bag.n in
    let with = c.with-with.result in
    let number = c.with-with.ensures.number c.requires.outside in
    let same : with ≡ more c.args.set c.args.c = omega (arith, number) in
    let e = c.candidates-n.ensures.same in
    let tallies : HasTallies records n with c.in-Some.row.now = c.in-Some.ensures.tallies records of in
    let is : IsCutter c.candidates-n.result records c.args.self.now.least c.args.c with c.strongest_nen.result =
    c.strongest_nen.ensures records (subst (λ k. HasTallies records k with c.in-Some.row.now) (sym e) tallies) in
    subst (λ s. IsCutter n records c.args.self.now.least c.args.c s c.strongest_nen.result) same
    (subst (λ k. IsCutter k records c.args.self.now.least c.args.c with c.strongest_nen.result) e is)

pub returns-in_ok-row-in-None-clause-cutter : goal.returns-in_ok-row-in-None-clause-cutter
returns-in_ok-row-in-None-clause-cutter c = λ records of.
    let n = c.args.self.now.tallies.bag.n in
    let with = c.with-with.result in
    let row = c.deref.result.now in
    let number = c.with-with.ensures.number c.requires.outside in
    let same : with ≡ more c.args.set c.args.c = omega (arith, number) in
    let e = c.candidates-n.ensures.same in
    let items : row ≡ tallies records n with = c.deref.ensures.value ∙ c.in_ok-row-in-None.ensures.tallies records of in
    let has-tallies : HasTallies records n with row = λ d l h.
    ap (λ r. get_or r d 0) items ∙ get_or-map-range_with_len (tally records with) 0 n d d 0 l (omega arith) in
    let is : IsCutter c.candidates-n.result records c.args.self.now.least c.args.c with c.strongest_nen-in-None.result =
    c.strongest_nen-in-None.ensures records (subst (λ k. HasTallies records k with row) (sym e) has-tallies) in
    subst (λ s. IsCutter n records c.args.self.now.least c.args.c s c.strongest_nen-in-None.result) same
    (subst (λ k. IsCutter k records c.args.self.now.least c.args.c with c.strongest_nen-in-None.result) e is)
