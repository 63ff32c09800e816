use Rattle.std.proofs.Common.{◌∙◌, List, ℕ, length, map, ap, arith}
use Rattle.std.proofs.lemmas.List.{length-map}
use Rattle.std.proofs.lemmas.List.FromFn.{length-map-range_with_len}
use Rattle.assertions.specs.declared.assertion.Claim.{Claim}
use Rattle.assertions.specs.Assorter.{assorter_value}
use Rattle.manifest.specs.Cards.{cards_of}
use Rattle.sampler.specs.Draws.{drawn_card}
use Rattle.audit_session.specs.declared.seen.SeenCard.{SeenCard}
use Rattle.audit_session.specs.Going.{all_seen, drawn_cards, seen_card}
use Rattle.polling.specs.Polls.{counted, polled}
use Rattle.polling.proofs.ValueCounts.{over-drawn}
use Rattle.polling.proofs.end.poll.Goals as goal

pub all_counts-requires : goal.all_counts-requires
all_counts-requires c =
    let seed = c.args.seed.now in
    let n = c.cards.result in
    let drawn = ap length (c.deref.ensures.value ∙ c.in_ok-drawn.ensures.cards) in
    let each = length-map (drawn_cards seed n c.args.draws) (seen_card (all_seen c.args.seen.now n)) in
    omega (arith, drawn, each, length-map-range_with_len (λ k. drawn_card seed k n) 1 c.args.draws, c.requires.most_draws)

pub returns-clause-counts : goal.returns-clause-counts
returns-clause-counts c =
    let entries = c.args.seen.now in
    let over = λ (claims : List Claim) (drawn : List SeenCard). map (λ claim. counted (map (polled (assorter_value claim.assertion)) drawn)) claims in
    let drawn = c.deref.ensures.value ∙ c.in_ok-drawn.ensures.cards
    ∙ ap (λ n. map (seen_card (all_seen entries n)) (drawn_cards c.args.seed.now n c.args.draws)) c.cards.ensures.all in
    let n : ℕ = length (cards_of c.args.m.now) in
    c.in_ok-counts.ensures.counts ∙ (λ i. over (c.claims.ensures.same i) (drawn i))
    ∙ over-drawn c.args.f.now.claims (all_seen entries n) (drawn_cards c.args.seed.now n c.args.draws)
