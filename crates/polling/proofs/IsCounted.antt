-- A poll that confirms by the draws of a seed is among those that the limit counts, because it looks only at the drawn cards.
use Rattle.std.proofs.Common.{◌≡◌, ℕ, ◌-◌, ◌≤◌, Bool, true, false, if◌then◌else◌, List, [], ◌∷◌, map, length, take, get_or, All, Option, None, IfSome, IsTrue, refl, sym, ap, subst, ◌∙◌, arith}
use Rattle.std.proofs.Math.Path.{fun_ext}
use Rattle.std.specs.List.{list_all, range_with_len}
use Rattle.std.specs.Option.{unwrap_or}
use Rattle.std.proofs.lemmas.List.Elements.{All-contains, All-map}
use Rattle.std.proofs.lemmas.List.FromFn.{length-map-range_with_len, take-map-range_with_len}
use Rattle.irv_base.specs.Candidates.{is_in}
use Rattle.irv_base.proofs.Members.{Member, here, there, contains-from_member, member-from_in, in-from_member}
use Rattle.km_risk.specs.Reach.{IsSequence}
use Rattle.sampler.specs.Draws.{drawn_card}
use Rattle.assorters.specs.declared.seen.Seen.{Seen}
use Rattle.assorters.specs.declared.seen.Seen.TheVariants.{Missing}
use Rattle.assorters.specs.Cards.{seen_value}
use Rattle.session_state.specs.Draws.{seen_of_all}
use Rattle.session_state.specs.Readings.{IsReading}
use Rattle.session_state.proofs.PartlySeen.{kept, partly_seen_law}
use Rattle.seen_file.specs.Seen.{Entry, seen_in}
use Rattle.audit_session.specs.Going.{all_seen, drawn_cards, seen_at}
use Rattle.audit_session.specs.Laws.{AreTrueEntries}
use Rattle.polling.specs.Laws.{PolledIsCounted}
use Rattle.polling.specs.Polls.{counted, is_confirmed, is_risk_within, poll_risk}

-- the cards of draws are cards
pub drawn-sequence : (seed : List ℕ) (cards n : ℕ) → 1 ≤ cards → IsSequence cards n (drawn_cards seed cards n)
drawn-sequence seed cards n some = record {
  long = length-map-range_with_len (λ k. drawn_card seed k cards) 1 n;
  some = All-map (λ card. 1 ≤ card) (λ k. drawn_card seed k cards) (range_with_len 1 n) (λ i k below. omega arith);
  within = All-map (λ card. card ≤ cards) (λ k. drawn_card seed k cards) (range_with_len 1 n) (λ i k below. omega arith);
}

pub map-same : (f g : ℕ → ℕ) (xs : List ℕ) → ((x : ℕ) → Member x xs → f x ≡ g x) → map f xs ≡ map g xs
map-same f g [] same = refl
map-same f g (x ∷ xs) same = let first = same x here in let rest = map-same f g xs (λ y m. same y (there m)) in λ i. first i ∷ rest i

module _ (entries : List Entry) (drawn : List ℕ) where
  -- what is seen of the drawn cards only
  abbrev pub seen_of_drawn : ℕ → Option Seen
  seen_of_drawn card = if is_in drawn card then seen_in entries card else None

  pub drawn-readings : (actual : List (List ℕ)) → AreTrueEntries actual entries drawn → (card : ℕ) →
      IfSome (seen_of_drawn card) (IsReading (get_or actual (card - 1) []))
  drawn-readings actual each card = by (is_in drawn card) refl where
    by : (b : Bool) → is_in drawn card ≡ b → IfSome (if b then seen_in entries card else None) (IsReading (get_or actual (card - 1) []))
    by false out = tt
    by true in_drawn =
        All-contains (λ card. IfSome (seen_in entries card) (IsReading (get_or actual (card - 1) []))) drawn card each
        (contains-from_member (member-from_in card drawn in_drawn))

  module _ (cards : ℕ) (some : All (λ card. 1 ≤ card) drawn) (within : All (λ card. card ≤ cards) drawn) where
    pub same-seen : (card : ℕ) → Member card drawn → seen_at (all_seen entries cards) card ≡ seen_at (seen_of_all seen_of_drawn cards) card
    same-seen card m =
        let first = All-contains (λ card. 1 ≤ card) drawn card some (contains-from_member m) in
        let last = All-contains (λ card. card ≤ cards) drawn card within (contains-from_member m) in
        kept (seen_in entries) cards card first last
        ∙ ap (λ b. unwrap_or (if b then seen_in entries card else None) Missing) (sym (in-from_member m))
        ∙ sym (kept seen_of_drawn cards card first last)

    -- so the poll is the same if it uses only what is seen of the drawn cards
    same-poll : (limit gamma : ℕ) (values : List (List ℕ → ℕ)) →
        is_confirmed limit gamma values (all_seen entries cards) drawn ≡ is_confirmed limit gamma values (seen_of_all seen_of_drawn cards) drawn
    same-poll limit gamma values =
        let by : ((List ℕ → ℕ) → List ℕ) → Bool = λ along. list_all (λ value. is_risk_within limit (poll_risk gamma (counted (along value)))) values in
        ap by (fun_ext (λ value. map-same (λ card. seen_value value (seen_at (all_seen entries cards) card))
        (λ card. seen_value value (seen_at (seen_of_all seen_of_drawn cards) card)) drawn (λ card m. ap (seen_value value) (same-seen card m))))

pub polled_is_counted : PolledIsCounted
polled_is_counted limit gamma draws most seed values entries actual some few true' confirmed =
    let cards : ℕ = length actual in
    let ds : List ℕ = drawn_cards seed cards draws in
    let es : List ℕ = drawn_cards seed cards most in
    let first : IsSequence cards draws ds = drawn-sequence seed cards draws some in
    let seen : List Seen = seen_of_all (seen_of_drawn entries ds) cards in
    let same : take draws es ≡ ds = take-map-range_with_len (λ k. drawn_card seed k cards) 1 most draws few in
    let more : length es ≡ most = length-map-range_with_len (λ k. drawn_card seed k cards) 1 most in (
      drawn-sequence seed cards most some,
      record {
        seen = seen;
        readings = (partly_seen_law (seen_of_drawn entries ds) actual (λ card from to. drawn-readings entries ds actual true' card)).0;
        so_far = draws;
        few = omega (arith, few, more);
        confirmed = subst (λ drawn. IsTrue (is_confirmed limit gamma values seen drawn)) (sym same)
            (subst IsTrue (same-poll entries ds cards first.some first.within limit gamma values) confirmed);
      },
    )
