use Rattle.std.proofs.Common.{◌∙◌, ◌<◌, length, get_or, sym, ap, arith}
use Rattle.irv_base.specs.Names.{is_same}
use Rattle.irv_base.proofs.Positions.{stands_nowhere}
use Rattle.ballot_ids.proofs.Differing.{among-set}
use Rattle.manifest.specs.Cards.{cards_of, place_of}
use Rattle.ballot_ids.proofs.IdBytes.{read_at}
use Rattle.manifest.proofs.CardAt.{first_at, length-firsts}
use Rattle.manifest.proofs.Finding.{within_sum}
use Rattle.manifest.proofs.Places.{place_none, place_absent, place_past, place_found}
use Rattle.manifest.proofs.manifest.Manifest.place.Goals as goal

pub returns-in_default : goal.returns-in_default
returns-in_default c =
    place_none c.args.id.now c.self.inside.ids c.self.inside.counts.items c.self.invariant.batches c.in_default.ensures.none
    ∙ ap (λ m. place_of (cards_of m) c.args.id.now) c.self.view_is

pub returns-in_default-index_of : goal.returns-in_default-index_of
returns-in_default-index_of c =
    let card = c.in-Some.card in
    let ids = c.self.inside.ids in
    let absent = sym (among-set ids card.batch) ∙ stands_nowhere (is_same card.batch) ids (sym c.in_default-index_of.ensures.index) in
    place_absent c.args.id.now card.batch card.k ids c.self.inside.counts.items c.self.invariant.batches
    (record { same = c.in-Some.ensures.named; first = c.in-Some.ensures.first; most = c.in-Some.ensures.most }) absent
    ∙ ap (λ m. place_of (cards_of m) c.args.id.now) c.self.view_is

pub returns-then-card-index : goal.returns-then-card-index
returns-then-card-index c =
    let card = c.in-Some.card in
    let i = c.in-Some-index_of.i in
    let counts = c.self.inside.counts.items in
    let below : i < length counts = omega (arith, c.in-Some-index_of.ensures.within, c.self.invariant.batches.a_count_each) in
    let n = read_at counts i c.index.result.now 0 below c.index.ensures in
    place_past c.args.id.now card.batch card.k i c.self.inside.ids counts c.self.invariant.batches
    (record { same = c.in-Some.ensures.named; first = c.in-Some.ensures.first; most = c.in-Some.ensures.most })
    (sym c.in-Some-index_of.ensures.index) (omega (arith, n, c.if-card-index.true))
    ∙ ap (λ m. place_of (cards_of m) c.args.id.now) c.self.view_is

pub index-requires-2 : goal.index-requires-2
index-requires-2 c =
    let m = c.self.invariant in
    omega (
      arith,
      c.in-Some-index_of.ensures.within,
      m.batches.a_count_each,
      ap length m.first_each,
      length-firsts 1 c.self.inside.counts.items,
      c.self.inside.firsts.ok,
    )

pub overflow_add-result : goal.overflow_add-result
overflow_add-result c =
    let m = c.self.invariant in
    let i = c.in-Some-index_of.i in
    let counts = c.self.inside.counts.items in
    let firsts = c.self.inside.firsts.items in
    let below : i < length counts = omega (arith, c.in-Some-index_of.ensures.within, m.batches.a_count_each) in
    let below_firsts : i < length firsts = omega (arith, below, ap length m.first_each, length-firsts 1 counts) in
    let n = read_at counts i c.index.result.now 0 below c.index.ensures in
    let f = read_at firsts i c.index-2.result.now 0 below_firsts c.index-2.ensures in
    omega (arith, n, f, ap (λ fs. get_or fs i 0) m.first_each, first_at 1 counts i below, within_sum counts i, m.batches.most, c.if-card-index.false)

pub returns : goal.returns
returns c =
    let m = c.self.invariant in
    let card = c.in-Some.card in
    let i = c.in-Some-index_of.i in
    let ids = c.self.inside.ids in
    let counts = c.self.inside.counts.items in
    let firsts = c.self.inside.firsts.items in
    let below : i < length counts = omega (arith, c.in-Some-index_of.ensures.within, m.batches.a_count_each) in
    let below_firsts : i < length firsts = omega (arith, below, ap length m.first_each, length-firsts 1 counts) in
    let n = read_at counts i c.index.result.now 0 below c.index.ensures in
    let f = read_at firsts i c.index-2.result.now 0 below_firsts c.index-2.ensures in
    place_found c.args.id.now card.batch card.k i ids counts firsts c.self.inside.cards c.index-2.result.now m
    (record { same = c.in-Some.ensures.named; first = c.in-Some.ensures.first; most = c.in-Some.ensures.most })
    (sym c.in-Some-index_of.ensures.index) below (sym f) (omega (arith, n, c.if-card-index.false))
    ∙ ap (λ b. place_of (cards_of b) c.args.id.now) c.self.view_is
