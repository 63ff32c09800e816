-- A session of draws looks only at the drawn cards, so what was seen on the others can be removed.
use Rattle.std.proofs.Common.{◌≡◌, ℕ, ◌-◌, ◌≤◌, Bool, true, false, if◌then◌else◌, List, [], ◌∷◌, map, length, take, get_or, All, Option, None, IfSome, refl, sym, ap, ◌∙◌}
use Rattle.std.proofs.Math.Path.{fun_ext}
use Rattle.std.specs.Option.{unwrap_or}
use Rattle.std.proofs.lemmas.List.{take-map}
use Rattle.std.proofs.lemmas.List.Elements.{All-contains}
use Rattle.irv_base.specs.Candidates.{is_in}
use Rattle.irv_base.proofs.Members.{Member, here, there, contains-from_member, member-from_in, in-from_member}
use Rattle.manifest.specs.declared.recorded.Recorded.{Recorded}
use Rattle.manifest.specs.declared.recorded.Recorded.TheVariants.{Without}
use Rattle.km_risk.specs.Counts.{counts_of}
use Rattle.km_risk.specs.Printed.{printed_risk}
use Rattle.assorters.specs.declared.seen.Seen.{Seen}
use Rattle.assorters.specs.declared.seen.Seen.TheVariants.{Missing}
use Rattle.assorters.specs.Cards.{discrepancy, discrepancy_of}
use Rattle.session_state.specs.Readings.{IsReading}
use Rattle.session_state.specs.Sessions.{Round, Session}
use Rattle.session_state.specs.Draws.{Audited, IsSessionOf, seen_of_all, round_to, session_to}
use Rattle.session_state.proofs.PartlySeen.{kept}

if_drawn : Bool → Option Seen → Option Seen
if_drawn drawn seen = if drawn then seen else None

-- what is seen on only the drawn cards
pub seen_of_drawn : List ℕ → (ℕ → Option Seen) → ℕ → Option Seen
seen_of_drawn drawn looked_at card = if_drawn (is_in drawn card) (looked_at card)

module _ (drawn : List ℕ) (looked_at : ℕ → Option Seen) where
  of_drawn : (card : ℕ) → Member card drawn → seen_of_drawn drawn looked_at card ≡ looked_at card
  unfolding seen_of_drawn if_drawn
  of_drawn card m = rw (in-from_member m) refl

  -- then the readings of the drawn cards are all the readings there are
  pub drawn-readings : (actual : List (List ℕ)) → All (λ card. IfSome (looked_at card) (IsReading (get_or actual (card - 1) []))) drawn → (card : ℕ) →
      IfSome (seen_of_drawn drawn looked_at card) (IsReading (get_or actual (card - 1) []))
  unfolding seen_of_drawn if_drawn
  drawn-readings actual each card = by (is_in drawn card) refl where
    by : (b : Bool) → is_in drawn card ≡ b → IfSome (if b then looked_at card else None) (IsReading (get_or actual (card - 1) []))
    by false out = tt
    by true in_drawn =
        All-contains (λ card. IfSome (looked_at card) (IsReading (get_or actual (card - 1) []))) drawn card each
        (contains-from_member (member-from_in card drawn in_drawn))

map-same : (f g : ℕ → ℕ) (xs : List ℕ) → ((x : ℕ) → Member x xs → f x ≡ g x) → map f xs ≡ map g xs
map-same f g [] same = refl
map-same f g (x ∷ xs) same = let first = same x here in let rest = map-same f g xs (λ y m. same y (there m)) in λ i. first i ∷ rest i

module _ (recorded : List Recorded) (looked_at : ℕ → Option Seen) (drawn : List ℕ)
    (some : All (λ card. 1 ≤ card) drawn) (within : All (λ card. card ≤ length recorded) drawn) where
  abbrev before : List Seen
  before = seen_of_all looked_at (length recorded)

  abbrev after : List Seen
  after = seen_of_all (seen_of_drawn drawn looked_at) (length recorded)

  same-seen : (card : ℕ) → Member card drawn → get_or before (card - 1) Missing ≡ get_or after (card - 1) Missing
  same-seen card m =
      let first = All-contains (λ card. 1 ≤ card) drawn card some (contains-from_member m) in
      let last = All-contains (λ card. card ≤ length recorded) drawn card within (contains-from_member m) in
      kept looked_at (length recorded) card first last ∙ ap (λ o. unwrap_or o Missing) (sym (of_drawn drawn looked_at card m))
      ∙ sym (kept (seen_of_drawn drawn looked_at) (length recorded) card first last)

  same-discrepancies : (value : List ℕ → ℕ) (k : ℕ) →
      map (discrepancy_of value recorded before) (take k drawn) ≡ map (discrepancy_of value recorded after) (take k drawn)
  same-discrepancies value k =
      sym (take-map (discrepancy_of value recorded before) k drawn)
      ∙ ap (take k) (map-same (discrepancy_of value recorded before) (discrepancy_of value recorded after) drawn
      (λ card m. ap (discrepancy value (get_or recorded (card - 1) Without)) (same-seen card m)))
      ∙ take-map (discrepancy_of value recorded after) k drawn

  module _ (limit gamma : ℕ) (claims : List Audited) where
    same-round : (end : ℕ) → round_to gamma claims recorded before drawn end ≡ round_to gamma claims recorded after drawn end
    same-round end =
        let round : ((List ℕ → ℕ) → List ℕ) → Round = λ along. record {
          draws = end;
          counts = map (λ claim. counts_of (along claim.value)) claims;
          risks = map (λ claim. printed_risk (length recorded) claim.margin gamma (counts_of (along claim.value))) claims;
        } in
        ap round (fun_ext (λ value. same-discrepancies value end))

    -- so a session is also a session of what is seen on only the drawn cards
    pub of-drawn : (session : Session) → IsSessionOf limit gamma claims recorded before drawn session → IsSessionOf limit gamma claims recorded after drawn session
    of-drawn session of' = record {
      ends = of'.ends;
      are = of'.are;
      is =
          of'.is
          ∙ ap (λ (rounds : List Round). record (session_to limit gamma claims recorded after drawn of'.ends) { rounds = rounds })
          (ap (λ (round : ℕ → Round). map round of'.ends) (fun_ext same-round));
    }
