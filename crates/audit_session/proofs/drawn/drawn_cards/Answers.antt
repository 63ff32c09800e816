use Rattle.std.proofs.Common.{◌≡◌, ◌∙◌, ◌<◌, ◌≤◌, ℕ, List, None, ap, get_or, length, map, subst, arith}
use Rattle.std.specs.Prelude.{option_map}
use Rattle.std.proofs.lemmas.List.{length-map, take_all}
use Rattle.std.proofs.lemmas.List.FromFn.{length-map-range_with_len}
use Rattle.assorters.specs.declared.seen.Seen.{Seen}
use Rattle.sampler.specs.Draws.{drawn_card}
use Rattle.audit_session.specs.declared.seen.SeenCard.{SeenCard}
use Rattle.audit_session.specs.declared.fault.AdvanceFault.TheVariants.{NoRecord}
use Rattle.audit_session.specs.Refusals.{without_record}
use Rattle.audit_session.specs.Going.{all_seen, drawn_at, drawn_cards, seen_card}
use Rattle.audit_session.proofs.Comparing.{card-within, one-drawn-more, one-is}
use Rattle.audit_session.proofs.drawn.drawn_cards.Goals as goal

long : (seed : List ℕ) (cards draws : ℕ) → length (drawn_cards seed cards draws) ≡ draws
long seed cards draws = length-map-range_with_len (λ k. drawn_card seed k cards) 1 draws

items-long : (seed : List ℕ) (cards draws : ℕ) (seen : List Seen) (items : List SeenCard) → items ≡ map (seen_card seen) (drawn_cards seed cards draws) →
    length items ≡ draws
items-long seed cards draws seen items are = ap length are ∙ length-map (drawn_cards seed cards draws) (seen_card seen) ∙ long seed cards draws

-- each number is that of a card
is-card : (seed : List ℕ) (cards draws : ℕ) (seen : List Seen) (items : List SeenCard) → items ≡ map (seen_card seen) (drawn_cards seed cards draws) →
    1 ≤ cards → (i : ℕ) → i < length items → (one : SeenCard) → one ≡ get_or items i one → (1 ≤ one.card) × (one.card ≤ cards)
is-card seed cards draws seen items are some i below one is =
    let here = items-long seed cards draws seen items are in
    let same = ap (λ (o : SeenCard). o.card)
    (one-is seen (drawn_cards seed cards draws) items are i (omega (arith, below, here, long seed cards draws)) one is) in
    let (first, last) = card-within seed cards draws i 0 some (omega (arith, below, here)) in
    (omega (arith, same, first), omega (arith, same, last))

pub recorded-requires-clause-first : goal.recorded-requires-clause-first
recorded-requires-clause-first c =
    (is-card c.args.seed.now c.cards.result c.args.draws _ c.in_ok-seen.seen.items c.in_ok-seen.ensures.cards (omega (arith, c.cards.ensures.all, c.requires))
    c.loop-i.i (omega (arith, c.len-i-end.ensures)) c.index-one.result.now c.index-one.ensures).0

pub recorded-requires-clause-last : goal.recorded-requires-clause-last
recorded-requires-clause-last c =
    let most = (is-card c.args.seed.now c.cards.result c.args.draws _ c.in_ok-seen.seen.items c.in_ok-seen.ensures.cards
    (omega (arith, c.cards.ensures.all, c.requires))
    c.loop-i.i (omega (arith, c.len-i-end.ensures)) c.index-one.result.now c.index-one.ensures).1 in
    omega (arith, most, c.cards.ensures.all)

pub loop-i-preserved : goal.loop-i-preserved
loop-i-preserved c =
    let seed = c.args.seed.now in
    let n : ℕ = length c.args.l.now in
    let seen : List Seen = all_seen c.args.seen.now n in
    let are : c.in_ok-seen.seen.items ≡ map (seen_card seen) (drawn_cards seed n c.args.draws) =
    subst (λ m. c.in_ok-seen.seen.items ≡ map (seen_card (all_seen c.args.seen.now m)) (drawn_cards seed m c.args.draws)) c.cards.ensures.all
    c.in_ok-seen.ensures.cards in
    let all = items-long seed n c.args.draws seen c.in_ok-seen.seen.items are in
    c.in_ok-push.ensures.items
    ∙ one-drawn-more seen (drawn_cards seed n c.args.draws) c.in_ok-seen.seen.items are c.loop-i.i
    (omega (arith, c.len-i-end.ensures, all, long seed n c.args.draws)) c.index-one.result.now c.index-one.ensures c.args.l.now c.loop-i.all.items
    c.recorded.result c.recorded.ensures c.loop-i.invariant

pub returns : goal.returns
returns c =
    let seed = c.args.seed.now in
    let n : ℕ = length c.args.l.now in
    let cards = c.args.draws in
    let all = items-long seed c.cards.result cards _ c.in_ok-seen.seen.items c.in_ok-seen.ensures.cards in
    let at = drawn_at c.args.l.now (all_seen c.args.seen.now n) in
    record {
      cards =
          c.loop-i.invariant
          ∙ take_all c.loop-i.i (map at (drawn_cards seed n cards))
          (omega (arith, c.len-i-end.ensures, all, length-map (drawn_cards seed n cards) at, long seed n cards));
      seen =
          subst (λ m. without_record seed m c.args.seen.now cards ≡ None) c.cards.ensures.all
          (ap (option_map (λ k. NoRecord (drawn_card seed k c.cards.result) k)) c.in_ok-seen.ensures.seen);
      refused = tt;
    }
