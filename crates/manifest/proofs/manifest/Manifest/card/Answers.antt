use Rattle.std.proofs.Common.{◌∙◌, ◌-◌, ◌+◌, ◌<◌, ◌≤◌, [], Some, length, get_or, sym, ap, subst, arith}
use Rattle.std.specs.List.{slice_get, sum}
use Rattle.std.proofs.lemmas.Option.{get_or_from_slice_get}
use Rattle.ballot_ids.proofs.IdBytes.{read_at}
use Rattle.manifest.specs.Cards.{cards_of}
use Rattle.manifest.proofs.CardAt.{card, card-at, first_first, length-cards, length-firsts}
use Rattle.manifest.proofs.manifest.Manifest.card.Goals as goal

pub batch_of_card-batch-requires-clause-some : goal.batch_of_card-batch-requires-clause-some
batch_of_card-batch-requires-clause-some c =
    let m = c.self.invariant in
    omega (arith, m.some, m.batches.a_count_each, length-firsts 1 c.self.inside.counts.items, ap length m.first_each, ap length c.as_slice.ensures.value)

pub batch_of_card-batch-requires-clause-first : goal.batch_of_card-batch-requires-clause-first
batch_of_card-batch-requires-clause-first c =
    let m = c.self.invariant in
    let counts = c.self.inside.counts.items in
    omega (
      arith,
      c.requires.first,
      ap (λ fs. get_or fs 0 0) (c.as_slice.ensures.value ∙ m.first_each),
      first_first counts (omega (arith, m.some, m.batches.a_count_each)),
    )

pub at-requires : goal.at-requires
at-requires c =
    omega (
      arith,
      c.batch_of_card-batch.ensures.within,
      ap length c.as_slice.ensures.value,
      ap length c.self.invariant.first_each,
      length-firsts 1 c.self.inside.counts.items,
      c.self.invariant.batches.a_count_each,
    )

pub overflow_add-result : goal.overflow_add-result
overflow_add-result c =
    let m = c.self.invariant in
    omega (
      arith,
      c.requires.last,
      ap (λ b. length (cards_of b)) c.self.view_is,
      length-cards c.self.inside.ids c.self.inside.counts.items m.batches.a_count_each,
      m.batches.most,
    )

pub returns : goal.returns
returns c =
    let m = c.self.invariant in
    let i = c.args.i in
    let b = c.batch_of_card-batch.result in
    let ids = c.self.inside.ids in
    let counts = c.self.inside.counts.items in
    let firsts = c.self.inside.firsts.items in
    let same = m.batches.a_count_each in
    let all = ap length m.first_each in
    let values = c.as_slice.ensures.value in
    let below : b < length counts = omega (arith, c.batch_of_card-batch.ensures.within, ap length values, all, length-firsts 1 counts) in
    let most : i ≤ sum counts = omega (arith, c.requires.last, ap (λ x. length (cards_of x)) c.self.view_is, length-cards ids counts same) in
    let begun = subst (λ fs. get_or fs b 0 ≤ i) values c.batch_of_card-batch.ensures.begun in
    let last = subst (λ fs. b + 1 < length fs → i < get_or fs (b + 1) 0) values c.batch_of_card-batch.ensures.last in
    let id = get_or_from_slice_get ids b c.at.result [] c.at.ensures in
    let first = read_at firsts b c.index.result.now 0 (omega (arith, below, all, length-firsts 1 counts)) c.index.ensures in
    ap (λ x. slice_get (cards_of x) (i - 1)) (sym c.self.view_is)
    ∙ card-at ids counts firsts i b same m.first_each most below begun last
    ∙ ap (λ x. Some (card x (i - get_or firsts b 0 + 1))) id
    ∙ ap (λ f. Some (card c.at.result (i - f + 1))) first
