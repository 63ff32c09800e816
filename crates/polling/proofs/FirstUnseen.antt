-- The draws before the first draw whose card has no record; they may confirm each claim.
use Rattle.std.proofs.Common.{◌≡◌, ℕ, ◌-◌, ◌≤◌, Bool, true, false, not, is_some, List, length, take, None, Some, sym, ap, ◌∙◌, arith}
use Rattle.std.specs.List.{range_with_len}
use Rattle.std.proofs.lemmas.List.FromFn.{length-map-range_with_len, take-map-range_with_len}
use Rattle.irv_base.proofs.Members.{from_find, from_range}
use Rattle.assorters.specs.declared.seen.Seen.{Seen}
use Rattle.sampler.specs.Draws.{drawn_card}
use Rattle.seen_file.specs.Seen.{Entry, seen_in}
use Rattle.audit_session.specs.Going.{all_seen, drawn_cards}
use Rattle.audit_session.specs.Refusals.{unseen_draw}
use Rattle.polling.specs.Each.{Polled, asked, ends_of, is_each_confirmed}
use Rattle.polling.proofs.EachPolled.{asked-first, asked-more, asked-within, ends-first}
use Rattle.polling.proofs.Ranges.{found-among, none-among}

module _ (seed : List ℕ) (n : ℕ) (entries : List Entry) (draws k : ℕ) (is : unseen_draw seed n entries draws ≡ Some k) where
  abbrev card_of : ℕ → ℕ
  card_of j = drawn_card seed j n

  abbrev is_unseen : ℕ → Bool
  is_unseen j = not (is_some (seen_in entries (drawn_card seed j n)))

  pub place : (1 ≤ k) × (k ≤ draws)
  place = let (from, to) = from_range k 1 draws (from_find is_unseen k (range_with_len 1 draws) is).0 in (from, omega (arith, to))

  long : length (drawn_cards seed n draws) ≡ draws
  long = length-map-range_with_len card_of 1 draws

  before : take (k - 1) (drawn_cards seed n draws) ≡ drawn_cards seed n (k - 1)
  before = take-map-range_with_len card_of 1 draws (k - 1) (omega (arith, place.1))

  module _ (limit : ℕ) (claims : List Polled) where
    abbrev seen : List Seen
    seen = all_seen entries n

    abbrev are_confirmed : List ℕ → Bool
    are_confirmed drawn = is_each_confirmed limit claims seen drawn

    abbrev all_asked : ℕ
    all_asked = asked limit claims seen (drawn_cards seed n draws)

    fewer : k - 1 ≤ length (drawn_cards seed n draws)
    fewer = omega (arith, place.1, long)

    within : all_asked ≤ draws
    within = let most = asked-within limit seen (drawn_cards seed n draws) claims in omega (arith, most, long)

    pub ends-are : are_confirmed (drawn_cards seed n (k - 1)) ≡ true →
        ends_of limit claims seen (drawn_cards seed n (k - 1)) ≡ ends_of limit claims seen (drawn_cards seed n draws)
    ends-are confirmed =
        ap (ends_of limit claims seen) (sym before)
        ∙ ends-first limit seen (drawn_cards seed n draws) (k - 1) fewer claims (ap are_confirmed before ∙ confirmed)

    pub none-asked : are_confirmed (drawn_cards seed n (k - 1)) ≡ true → unseen_draw seed n entries all_asked ≡ None
    none-asked confirmed =
        let few = asked-first limit seen (drawn_cards seed n draws) (k - 1) fewer claims (ap are_confirmed before ∙ confirmed) in
        none-among is_unseen all_asked draws within k is (omega (arith, few, place.0))

    pub first-asked : are_confirmed (drawn_cards seed n (k - 1)) ≡ false → unseen_draw seed n entries all_asked ≡ Some k
    first-asked open' =
        let more = asked-more limit seen (drawn_cards seed n draws) (k - 1) fewer (omega (arith, place.0, place.1, long)) claims
        (ap are_confirmed before ∙ open') in
        found-among is_unseen all_asked draws within k is (omega (arith, more))
