-- What is compared for a drawn card, and the draws that are left.
use Rattle.std.proofs.Common.{◌≡◌, ◌∙◌, ℕ, suc, ◌+◌, ◌-◌, ◌<◌, ◌≤◌, Bool, cond, ◌++◌, ◌∷◌, [], List, Some, get_or, length, map, take, refl, sym, ap, arith}
use Rattle.std.specs.Prelude.{find}
use Rattle.std.specs.List.{range_with_len, slice_get}
use Rattle.std.specs.Option.{unwrap_or}
use Rattle.std.proofs.lemmas.List.{get_or-map, length-map, take_more}
use Rattle.std.proofs.lemmas.List.FromFn.{get_or-map-range_with_len}
use Rattle.std.proofs.lemmas.Option.{get_or_from_slice_get}
use Rattle.manifest.specs.declared.recorded.Recorded.{Recorded}
use Rattle.manifest.specs.declared.recorded.Recorded.TheVariants.{Without}
use Rattle.assorters.specs.declared.seen.Seen.{Seen}
use Rattle.assorters.specs.declared.seen.Seen.TheVariants.{Missing}
use Rattle.seen_file.specs.Seen.{Entry, seen_in}
use Rattle.session_state.proofs.PartlySeen.{kept}
use Rattle.sampler.specs.Draws.{drawn_card}
use Rattle.audit_session.specs.declared.compared.Drawn.{Drawn}
use Rattle.audit_session.specs.declared.seen.SeenCard.{SeenCard}
use Rattle.audit_session.specs.Going.{all_seen, drawn_at, drawn_cards, seen_at, seen_card}

pub seen-is : (entries : List Entry) (cards card : ℕ) (s : Seen) → 1 ≤ card → card ≤ cards → seen_in entries card ≡ Some s →
    seen_card (all_seen entries cards) card ≡ record { card = card; seen = s }
seen-is entries cards card s some within found =
    let b = kept (seen_in entries) cards card some within ∙ ap (λ o. unwrap_or o Missing) found in
    λ i. record { card = card; seen = b i }

-- the cards that are drawn are cards
pub card-within : (seed : List ℕ) (cards draws i d : ℕ) → 1 ≤ cards → i < draws →
    (1 ≤ get_or (drawn_cards seed cards draws) i d) × (get_or (drawn_cards seed cards draws) i d ≤ cards)
card-within seed cards draws i d some below =
    let at = get_or-map-range_with_len (λ k. drawn_card seed k cards) 1 draws i (1 + i) d below (omega arith) in
    (omega (arith, at), omega (arith, at, some))

module _ (seen : List Seen) (ds : List ℕ) (items : List SeenCard) (are : items ≡ map (seen_card seen) ds)
    (i : ℕ) (below : i < length ds) (one : SeenCard) (is : one ≡ get_or items i one) where
  pub one-is : one ≡ seen_card seen (get_or ds i 0)
  one-is = is ∙ ap (λ all. get_or all i one) are ∙ get_or-map (seen_card seen) ds i 0 one below

  -- together with what is recorded for the card, it is what is compared
  pub one-drawn-more : (recorded : List Recorded) (all : List Drawn) (r : Recorded) → slice_get recorded (one.card - 1) ≡ Some r →
      all ≡ take i (map (drawn_at recorded seen) ds) →
      all ++ record { recorded = r; seen = one.seen } ∷ [] ≡ take (i + 1) (map (drawn_at recorded seen) ds)
  one-drawn-more recorded all r at so-far =
      let list : List Drawn = map (drawn_at recorded seen) ds in
      let card : ℕ = get_or ds i 0 in
      let kept = get_or_from_slice_get recorded (one.card - 1) r Without at in
      let same : get_or recorded (card - 1) Without ≡ r = ap (λ (o : SeenCard). get_or recorded (o.card - 1) Without) (sym one-is) ∙ kept in
      let seen-as : seen_at seen card ≡ one.seen = ap (λ (o : SeenCard). o.seen) (sym one-is) in
      let drawn-as : drawn_at recorded seen card ≡ record { recorded = r; seen = one.seen } = λ j. record { recorded = same j; seen = seen-as j } in
      let here = get_or-map (drawn_at recorded seen) ds i 0 (record { recorded = r; seen = one.seen }) below ∙ drawn-as in
      let within : i < length list = rw (length-map ds (drawn_at recorded seen)) below in
      ap (λ xs. xs ++ record { recorded = r; seen = one.seen } ∷ []) so-far ∙ ap (λ x. take i list ++ x ∷ []) (sym here)
      ∙ sym (take_more list i (record { recorded = r; seen = one.seen }) within)

-- the first of the draws that are left passes, or one of those after it does
pub find-left : (p : ℕ → Bool) (i n k next : ℕ) → i < n → k ≡ i + 1 → next ≡ i + 1 + 1 →
    find p (range_with_len (1 + i) (n - i)) ≡ cond (p k) (Some k) (find p (range_with_len next (n - (i + 1))))
find-left p i n k next below is next-is =
    let more : n - i ≡ suc (n - (i + 1)) = omega arith in
    let first : 1 + i ≡ k = omega arith in
    let second : 1 + i + 1 ≡ next = omega arith in
    rw (more, second, first) refl
