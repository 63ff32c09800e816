use Rattle.std.proofs.Common.{◌≡◌, ◌∙◌, ◌-◌, ℕ, List, length, not, is_some, None, Some, sym, ap, subst, arith}
use Rattle.std.specs.List.{list_all}
use Rattle.std.proofs.lemmas.List.{length-map}
use Rattle.std.proofs.lemmas.List.FromFn.{length-map-range_with_len}
use Rattle.manifest.specs.Cards.{cards_of}
use Rattle.sampler.specs.Draws.{drawn_card}
use Rattle.seen_file.specs.Seen.{seen_in}
use Rattle.audit_session.specs.Going.{all_seen, drawn_cards, seen_card}
use Rattle.audit_session.specs.Refusals.{IsUnseen, unseen_draw}
use Rattle.polling.specs.Each.{Polled, asked, ends_of, has_confirmed, polled_of}
use Rattle.polling.proofs.EachPolled.{all-confirmed, asked-within, confirmed_by, ends_by}
use Rattle.polling.proofs.FirstUnseen.{ends-are, first-asked, none-asked, place}
use Rattle.polling.proofs.Ranges.{none-first}
use Rattle.polling.proofs.each.poll_each.Goals as goal

pub poll_of-requires-clause-draws : goal.poll_of-requires-clause-draws
poll_of-requires-clause-draws c =
    let seed = c.args.seed.now in
    let n = c.cards-cards.result in
    let drawn = ap length (c.deref.ensures.value ∙ c.in-Ok.ensures.cards) in
    let each = length-map (drawn_cards seed n c.args.draws) (seen_card (all_seen c.args.seen.now n)) in
    omega (arith, drawn, each, length-map-range_with_len (λ k. drawn_card seed k n) 1 c.args.draws, c.requires.most_draws)

pub returns-in-Ok-clause-ends : goal.returns-in-Ok-clause-ends
returns-in-Ok-clause-ends c =
    let seed = c.args.seed.now in
    let entries = c.args.seen.now in
    let limit = c.args.limit in
    let gamma = c.args.gamma in
    let draws = c.args.draws in
    let n = c.cards-cards.result in
    ends_by limit gamma n c.args.f.now (all_seen entries n) (drawn_cards seed n draws) _ _ (c.deref.ensures.value ∙ c.in-Ok.ensures.cards)
    c.in_ok-poll_of-in-Ok.ensures.ends
    ∙ ap (λ n. ends_of limit (polled_of gamma n c.args.f.now) (all_seen entries n) (drawn_cards seed n draws)) c.cards-cards.ensures.all

pub returns-in-Ok-clause-confirmed : goal.returns-in-Ok-clause-confirmed
returns-in-Ok-clause-confirmed c =
    let n : ℕ = length (cards_of c.args.m.now) in
    c.in_ok-poll_of-in-Ok.ensures.confirmed
    ∙ ap (list_all has_confirmed) (returns-in-Ok-clause-ends c)
    ∙ all-confirmed c.args.limit (polled_of c.args.gamma n c.args.f.now) (all_seen c.args.seen.now n) (drawn_cards c.args.seed.now n c.args.draws)

pub returns-in-Ok-clause-all_seen : goal.returns-in-Ok-clause-all_seen
returns-in-Ok-clause-all_seen c =
    let seed = c.args.seed.now in
    let entries = c.args.seen.now in
    let n : ℕ = length (cards_of c.args.m.now) in
    let claims : List Polled = polled_of c.args.gamma n c.args.f.now in
    let within = asked-within c.args.limit (all_seen entries n) (drawn_cards seed n c.args.draws) claims in
    none-first (λ k. not (is_some (seen_in entries (drawn_card seed k n))))
    (asked c.args.limit claims (all_seen entries n) (drawn_cards seed n c.args.draws)) c.args.draws
    (omega (arith, within, length-map-range_with_len (λ k. drawn_card seed k n) 1 c.args.draws))
    (sym (ap (λ n. unseen_draw seed n entries c.args.draws) c.cards-cards.ensures.all) ∙ c.in-Ok.ensures.seen)

-- ---- a card has no record

pub overflow_sub-k : goal.overflow_sub-k
overflow_sub-k c =
    let seed = c.args.seed.now in
    let entries = c.args.seen.now in
    let n = c.cards-cards.result in
    let k = c.in-Err-NoRecord.k in
    let refused : (unseen_draw seed n entries c.args.draws ≡ Some k) × (c.in-Err-NoRecord.card ≡ drawn_card seed k n) =
    subst (IsUnseen seed n entries c.args.draws) c.in-Err-NoRecord.field-0-is c.in-Err-NoRecord.ensures.refused in
    (place seed n entries c.args.draws k refused.0).0

pub poll_of-requires-in-Err-NoRecord-clause-draws : goal.poll_of-requires-in-Err-NoRecord-clause-draws
poll_of-requires-in-Err-NoRecord-clause-draws c =
    let seed = c.args.seed.now in
    let entries = c.args.seen.now in
    let n = c.cards-cards.result in
    let k = c.in-Err-NoRecord.k in
    let refused : (unseen_draw seed n entries c.args.draws ≡ Some k) × (c.in-Err-NoRecord.card ≡ drawn_card seed k n) =
    subst (IsUnseen seed n entries c.args.draws) c.in-Err-NoRecord.field-0-is c.in-Err-NoRecord.ensures.refused in
    let at = place seed n c.args.seen.now c.args.draws k refused.0 in
    let drawn = ap length (c.deref-in-Err-NoRecord.ensures.value ∙ c.in-Ok-drawn_seen.ensures.cards) in
    let each = length-map (drawn_cards seed n (k - 1)) (seen_card (all_seen c.args.seen.now n)) in
    omega (arith, drawn, each, length-map-range_with_len (λ k. drawn_card seed k n) 1 (k - 1), at.1, c.requires.most_draws)

pub returns-then-end-clause-ends : goal.returns-then-end-clause-ends
returns-then-end-clause-ends c =
    let seed = c.args.seed.now in
    let entries = c.args.seen.now in
    let limit = c.args.limit in
    let gamma = c.args.gamma in
    let n = c.cards-cards.result in
    let k = c.in-Err-NoRecord.k in
    let refused : (unseen_draw seed n entries c.args.draws ≡ Some k) × (c.in-Err-NoRecord.card ≡ drawn_card seed k n) =
    subst (IsUnseen seed n entries c.args.draws) c.in-Err-NoRecord.field-0-is c.in-Err-NoRecord.ensures.refused in
    let claims : List Polled = polled_of gamma n c.args.f.now in
    let of-before = ends_by limit gamma n c.args.f.now (all_seen entries n) (drawn_cards seed n (k - 1)) _ _
    (c.deref-in-Err-NoRecord.ensures.value ∙ c.in-Ok-drawn_seen.ensures.cards) c.in_ok-end-in-Err-NoRecord.ensures.ends in
    let confirmed = confirmed_by limit claims (all_seen entries n) (drawn_cards seed n (k - 1)) _ _ of-before c.in_ok-end-in-Err-NoRecord.ensures.confirmed in
    of-before
    ∙ ends-are seed n entries c.args.draws k refused.0 limit claims (sym confirmed ∙ c.if-end.true)
    ∙ ap (λ n. ends_of limit (polled_of gamma n c.args.f.now) (all_seen entries n) (drawn_cards seed n c.args.draws)) c.cards-cards.ensures.all

pub returns-then-end-clause-confirmed : goal.returns-then-end-clause-confirmed
returns-then-end-clause-confirmed c =
    let n : ℕ = length (cards_of c.args.m.now) in
    c.in_ok-end-in-Err-NoRecord.ensures.confirmed
    ∙ ap (list_all has_confirmed) (returns-then-end-clause-ends c)
    ∙ all-confirmed c.args.limit (polled_of c.args.gamma n c.args.f.now) (all_seen c.args.seen.now n) (drawn_cards c.args.seed.now n c.args.draws)

pub returns-then-end-clause-all_seen : goal.returns-then-end-clause-all_seen
returns-then-end-clause-all_seen c =
    let seed = c.args.seed.now in
    let entries = c.args.seen.now in
    let limit = c.args.limit in
    let gamma = c.args.gamma in
    let n = c.cards-cards.result in
    let k = c.in-Err-NoRecord.k in
    let refused : (unseen_draw seed n entries c.args.draws ≡ Some k) × (c.in-Err-NoRecord.card ≡ drawn_card seed k n) =
    subst (IsUnseen seed n entries c.args.draws) c.in-Err-NoRecord.field-0-is c.in-Err-NoRecord.ensures.refused in
    let claims : List Polled = polled_of gamma n c.args.f.now in
    let of-before = ends_by limit gamma n c.args.f.now (all_seen entries n) (drawn_cards seed n (k - 1)) _ _
    (c.deref-in-Err-NoRecord.ensures.value ∙ c.in-Ok-drawn_seen.ensures.cards) c.in_ok-end-in-Err-NoRecord.ensures.ends in
    let confirmed = confirmed_by limit claims (all_seen entries n) (drawn_cards seed n (k - 1)) _ _ of-before c.in_ok-end-in-Err-NoRecord.ensures.confirmed in
    subst (λ n. unseen_draw seed n entries (asked limit (polled_of gamma n c.args.f.now) (all_seen entries n) (drawn_cards seed n c.args.draws)) ≡ None)
    c.cards-cards.ensures.all
    (none-asked seed n entries c.args.draws k refused.0 limit claims (sym confirmed ∙ c.if-end.true))

pub returns-in-Err-NoRecord-clause-refused : goal.returns-in-Err-NoRecord-clause-refused
returns-in-Err-NoRecord-clause-refused c =
    let seed = c.args.seed.now in
    let entries = c.args.seen.now in
    let limit = c.args.limit in
    let gamma = c.args.gamma in
    let n = c.cards-cards.result in
    let k = c.in-Err-NoRecord.k in
    let refused : (unseen_draw seed n entries c.args.draws ≡ Some k) × (c.in-Err-NoRecord.card ≡ drawn_card seed k n) =
    subst (IsUnseen seed n entries c.args.draws) c.in-Err-NoRecord.field-0-is c.in-Err-NoRecord.ensures.refused in
    let claims : List Polled = polled_of gamma n c.args.f.now in
    let of-before = ends_by limit gamma n c.args.f.now (all_seen entries n) (drawn_cards seed n (k - 1)) _ _
    (c.deref-in-Err-NoRecord.ensures.value ∙ c.in-Ok-drawn_seen.ensures.cards) c.in_ok-end-in-Err-NoRecord.ensures.ends in
    let confirmed = confirmed_by limit claims (all_seen entries n) (drawn_cards seed n (k - 1)) _ _ of-before c.in_ok-end-in-Err-NoRecord.ensures.confirmed in
    subst (λ n. (unseen_draw seed n entries (asked limit (polled_of gamma n c.args.f.now) (all_seen entries n) (drawn_cards seed n c.args.draws)) ≡ Some k)
    × (c.in-Err-NoRecord.card ≡ drawn_card seed k n)) c.cards-cards.ensures.all (
      first-asked seed n entries c.args.draws k refused.0 limit claims (sym confirmed ∙ c.if-end.false),
      refused.1,
    )
