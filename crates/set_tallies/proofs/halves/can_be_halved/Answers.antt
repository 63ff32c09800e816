use Rattle.std.proofs.Common.{◌≤◌, All, subst, arith}
use Rattle.std.proofs.lemmas.List.{take_all}
use Rattle.std.proofs.lemmas.List.Elements.{All-map, All-more}
use Rattle.irv_base.specs.declared.limits.TheConstants.{MOST_RECORDS}
use Rattle.set_tallies.specs.Bags.{total}
use Rattle.set_tallies.specs.declared.halves.TheConstants.{MOST_HALVED}
use Rattle.set_tallies.proofs.Filled.{at-place}
use Rattle.set_tallies.proofs.Halving.{missing-all}
use Rattle.set_tallies.proofs.halves.can_be_halved.Goals as goal

pub missing-requires : goal.missing-requires
missing-requires c =
    let own = at-place (λ es. total es ≤ MOST_RECORDS) (λ v. v.items) c.args.lists.now c.loop-entries.entries-index c.entries-item.result
    c.loop-entries-test.true c.requires c.entries-item.is in
    own

pub loop-entries-preserved : goal.loop-entries-preserved
loop-entries-preserved c =
    let item = c.entries-item.result in
    let few : total item.items ≤ MOST_HALVED =
    omega (arith, c.if-missing-gt-MOST_HALVED.false, c.missing.ensures, missing-all item.items) in
    All-more (λ entries. total entries.items ≤ MOST_HALVED) c.args.lists.now c.loop-entries.entries-index item c.loop-entries-test.true c.loop-entries.invariant
    (subst (λ entries. total entries.items ≤ MOST_HALVED) c.entries-item.is few)

pub returns : goal.returns
returns c = λ _.
    let all = take_all c.loop-entries.entries-index c.args.lists.now (omega (arith, c.loop-entries-test.false)) in
    All-map (λ entries. total entries ≤ MOST_HALVED) (λ v. v.items) c.args.lists.now
    (subst (All (λ entries. total entries.items ≤ MOST_HALVED)) all c.loop-entries.invariant)
