-- The worked example of one card.
use Rattle.std.proofs.Common.{◌≡◌, ◌-◌, ◌≤◌, ℕ, not, Option, None, IfSome, Bool, false, if◌then◌else◌, List, [], ◌∷◌, map, get_or, sym, ap, subst, true, refl, arith}
use Rattle.std.specs.Prelude.{find, is_some, option_map}
use Rattle.std.specs.List.{range_with_len}
use Rattle.std.proofs.Math.Path.{fun_ext}
use Rattle.std.proofs.lemmas.List.Elements.{All-nil, All-cons, All-map}
use Rattle.irv_base.specs.Names.{Id}
use Rattle.irv_base.specs.Records.{is_first}
use Rattle.km_risk.specs.Printed.{printed_risk}
use Rattle.sampler.specs.Draws.{drawn_card}
use Rattle.assorters.specs.Cards.{IsAssorter}
use Rattle.assorters.specs.Examples.{lead}
use Rattle.session_state.specs.Claims.{audited_by}
use Rattle.session_state.specs.Content.{IsSound, with_round}
use Rattle.session_state.specs.Readings.{IsReading}
use Rattle.session_state.specs.Sessions.{Round, IsRound, is_signed_off}
use Rattle.session_state.specs.Draws.{round_to}
use Rattle.session_state.specs.declared.digests.Digests.{Digests}
use Rattle.audit_session.specs.declared.fault.AdvanceFault.{AdvanceFault}
use Rattle.audit_session.specs.declared.fault.AdvanceFault.TheVariants.{NoRecord}
use Rattle.audit_session.specs.Going.{all_seen, drawn_cards, next_session}
use Rattle.audit_session.specs.Laws.{AreTrueEntries, GoesOn}
use Rattle.audit_session.specs.Examples.{one_lead, one_record, one_actual, one_entry, one_begun}
use Rattle.audit_session.specs.Refusals.{first_of}
use Rattle.seen_file.specs.Seen.{seen_in}

read : (card : ℕ) → 1 ≤ card → card ≤ 1 → IfSome (seen_in one_entry card) (IsReading (get_or one_actual (card - 1) []))
read card some within =
    let one : 1 ≡ card = omega (arith, some, within) in
    subst (λ c. IfSome (seen_in one_entry c) (IsReading (get_or one_actual (c - 1) []))) one refl

pub seen : (seed : List ℕ) → AreTrueEntries one_actual one_entry (drawn_cards seed 1 5)
seen seed =
    All-map (λ card. IfSome (seen_in one_entry card) (IsReading (get_or one_actual (card - 1) []))) (λ k. drawn_card seed k 1) (range_with_len 1 5)
    (λ i k below. read (drawn_card seed (get_or (range_with_len 1 5) i k) 1) (omega arith) (omega arith))

-- there is one card to draw
only-card : (seed : List ℕ) (k : ℕ) → drawn_card seed k 1 ≡ 1
only-card seed k = omega arith

same-card : (seed : List ℕ) → ◌≡◌ {A = ℕ → ℕ} (λ k. drawn_card seed k 1) (λ k. 1)
same-card seed = fun_ext (only-card seed)

sound : (contest : Id) (seed : List ℕ) (digests : Digests) → IsSound (one_begun contest seed digests)
sound contest seed digests = record {
  limits = record {
    most_cards = omega arith;
    some_limit = omega arith;
    most_limit = omega arith;
    some_gamma = omega arith;
    most_gamma = omega arith;
    most_draws = All-nil (λ (round : Round). round.draws ≤ 100000);
  };
  session = record {
    some = omega arith;
    margins = All-cons (λ margin. (1 ≤ margin) × (margin ≤ 1)) 1 [] (omega arith, omega arith) (All-nil (λ margin. (1 ≤ margin) × (margin ≤ 1)));
    rising = λ i j d before within. absurd (omega arith);
    rounds = All-nil (IsRound (one_begun contest seed digests).session);
  };
}

lead-is : IsAssorter lead
lead-is ranking = go (is_first ranking 0) (is_first ranking 1) where
  go : (b c : Bool) → (if b then 2 else (if c then 0 else 1)) ≤ 2
  go true c = omega arith
  go false true = omega arith
  go false false = omega arith

pub goes_on : (contest seed : List ℕ) (digests : Digests) → GoesOn (one_begun contest seed digests) one_lead one_record one_entry 5
goes_on contest seed digests =
    let without : (ℕ → ℕ) → Option AdvanceFault = λ card. option_map (λ k. NoRecord (card k) k)
    (find (λ k. not (is_some (seen_in one_entry (card k)))) (range_with_len 1 5)) in
    record {
      sound = sound contest seed digests;
      cards = refl;
      each = refl;
      assorters = All-cons IsAssorter lead [] lead-is (All-nil IsAssorter);
      some = omega arith;
      not_refused = ap (λ fault. first_of fault None) (ap without (same-card seed));
    }

pub signed_off : (contest seed : List ℕ) (digests : Digests) →
    is_signed_off (next_session (one_begun contest seed digests) one_lead one_record one_entry 5).session ≡ true
unfolding printed_risk
signed_off contest seed digests =
    let drawn : map (λ k. 1) (range_with_len 1 5) ≡ drawn_cards seed 1 5 = sym (ap (λ (card : ℕ → ℕ). map card (range_with_len 1 5)) (same-card seed)) in
    subst
    (λ ds. is_signed_off (with_round (one_begun contest seed digests) (round_to 100 (audited_by one_lead (1 ∷ [])) one_record (all_seen one_entry 1) ds 5)).session
    ≡ true)
    drawn refl
