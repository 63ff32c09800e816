use Rattle.std.proofs.Common.{◌≡◌, ◌∙◌, ◌<◌, [], length, get_or, sym, ap, arith}
use Rattle.std.specs.List.{slice_get}
use Rattle.std.proofs.lemmas.Option.{get_or_from_slice_get}
use Rattle.manifest.proofs.Linking.{all_linked, is_placed, lacks_card, links_next}
use Rattle.manifest.proofs.Records.{begins, kept, length-numbers}
use Rattle.manifest.proofs.linked.numbers_of.Goals as goal

pub loop-i-init : goal.loop-i-init
loop-i-init c = begins c.args.m.now c.args.b.now.ids _ _ c.cards.ensures.all (c.in_ok-numbers.ensures.items_if_clones_equal (λ y same. same))

pub returns-in_default-clause-no_card : goal.returns-in_default-clause-no_card
returns-in_default-clause-no_card c =
    let m = c.args.m.now in
    let file = c.args.b.now in
    let i = c.loop-i.i in
    let below : i < length file.ids = omega (arith, c.loop-i-test.true, c.len-i-end.ensures, ap length c.rankings.ensures.same, c.ids-ids.ensures.one_each) in
    let id = get_or_from_slice_get file.ids i c.at-id.result.now [] (ap (λ ids. slice_get ids i) (sym c.ids-ids.ensures.same) ∙ c.at-id.ensures) in
    let at = ap (λ places. get_or places i 0) (sym c.places-places.ensures.same) in
    lacks_card m file i (get_or c.places-places.result.now i 0) c.at-id.result.now c.loop-i.numbers.items below id at
    (sym c.in_default.ensures) c.loop-i.invariant

pub at-id-requires : goal.at-id-requires
at-id-requires c =
    omega (arith, c.loop-i-test.true, c.len-i-end.ensures, ap length c.rankings.ensures.same, c.ids-ids.ensures.one_each, ap length c.ids-ids.ensures.same)

pub index_mut-requires : goal.index_mut-requires
index_mut-requires c =
    let m = c.args.m.now in
    let place = is_placed m c.at-id.result.now c.in-Some.card (sym c.in-Some.ensures) in
    omega (arith, place.0, place.1, length-numbers m c.args.b.now.ids c.loop-i.i c.loop-i.numbers.items c.loop-i.invariant)

pub loop-i-preserved : goal.loop-i-preserved
loop-i-preserved c =
    let m = c.args.m.now in
    let file = c.args.b.now in
    let i = c.loop-i.i in
    let below : i < length file.ids = omega (arith, c.loop-i-test.true, c.len-i-end.ensures, ap length c.rankings.ensures.same, c.ids-ids.ensures.one_each) in
    let id = get_or_from_slice_get file.ids i c.at-id.result.now [] (ap (λ ids. slice_get ids i) (sym c.ids-ids.ensures.same) ∙ c.at-id.ensures) in
    links_next m file.ids i c.in-Some.card c.at-id.result.now c.loop-i.numbers.items c.cards.ensures.batches c.ids-ids.ensures.differ below id
    (sym c.in-Some.ensures) c.loop-i.invariant

pub returns-clause-numbers : goal.returns-clause-numbers
returns-clause-numbers c =
    let file = c.args.b.now in
    let all : c.loop-i.i ≡ length file.ids = omega (
      arith,
      c.loop-i-test.false,
      c.loop-i.auto.i-end,
      c.len-i-end.ensures,
      ap length c.rankings.ensures.same,
      c.ids-ids.ensures.one_each,
    ) in
    (all_linked c.args.m.now file c.loop-i.i c.loop-i.numbers.items all c.loop-i.invariant).0

pub returns-clause-placed : goal.returns-clause-placed
returns-clause-placed c =
    let file = c.args.b.now in
    let all : c.loop-i.i ≡ length file.ids = omega (
      arith,
      c.loop-i-test.false,
      c.loop-i.auto.i-end,
      c.len-i-end.ensures,
      ap length c.rankings.ensures.same,
      c.ids-ids.ensures.one_each,
    ) in
    (all_linked c.args.m.now file c.loop-i.i c.loop-i.numbers.items all c.loop-i.invariant).1

pub returns-clause-kept : goal.returns-clause-kept
returns-clause-kept c =
    let file = c.args.b.now in
    let all : c.loop-i.i ≡ length file.ids = omega (
      arith,
      c.loop-i-test.false,
      c.loop-i.auto.i-end,
      c.len-i-end.ensures,
      ap length c.rankings.ensures.same,
      c.ids-ids.ensures.one_each,
    ) in
    kept c.args.m.now file c.loop-i.numbers.items c.ids-ids.ensures.one_each (omega (arith, c.cards.ensures.all, c.cards.ensures.most))
    (all_linked c.args.m.now file c.loop-i.i c.loop-i.numbers.items all c.loop-i.invariant).0
