-- The session of one card that was drawn four times.
use Rattle.std.proofs.Common.{◌≡◌, ◌≤◌, ℕ, List, [], ◌∷◌, refl, arith}
use Rattle.std.proofs.lemmas.List.Elements.{All-cons, All-nil}
use Rattle.irv_base.specs.Names.{Id}
use Rattle.irv_base.specs.declared.limits.TheConstants.{MOST_DRAWS}
use Rattle.km_risk.specs.Counts.{draws_in}
use Rattle.km_risk.specs.Printed.{printed_risk}
use Rattle.session_state.specs.declared.digests.Digests.{Digests}
use Rattle.session_state.specs.Content.{IsSound}
use Rattle.session_state.specs.Sessions.{Round, Session, IsRound}
use Rattle.audit_report.specs.Examples.{clean_round}

session_of : Round → Session
session_of round = record { cards = 1; margins = 1 ∷ []; limit = 50000; gamma = 100; rounds = round ∷ [] }

four_draws : IsRound (session_of (clean_round 4 88518543815313162)) (clean_round 4 88518543815313162)
unfolding session_of printed_risk
four_draws = record {
  some = omega arith;
  each = refl;
  all_draws = All-cons (λ counts. draws_in counts ≡ 4) _ [] refl (All-nil (λ counts. draws_in counts ≡ 4));
  printed = refl;
}

pub one_card_sound : (contest : Id) (seed : List ℕ) (digests : Digests) →
    IsSound (record {
      contest = contest;
      seed = seed;
      digests = digests;
      session = record { cards = 1; margins = 1 ∷ []; limit = 50000; gamma = 100; rounds = clean_round 4 88518543815313162 ∷ [] };
    })
unfolding session_of
one_card_sound contest seed digests =
    let round = clean_round 4 88518543815313162 in
    record {
      limits = record {
        most_cards = omega arith;
        some_limit = omega arith;
        most_limit = omega arith;
        some_gamma = omega arith;
        most_gamma = omega arith;
        most_draws = All-cons (λ (round : Round). round.draws ≤ MOST_DRAWS) round [] (omega arith) (All-nil (λ (round : Round). round.draws ≤ MOST_DRAWS));
      };
      session = record {
        some = omega arith;
        margins = All-cons (λ margin. (1 ≤ margin) × (margin ≤ 1)) 1 [] (omega arith, omega arith) (All-nil (λ margin. (1 ≤ margin) × (margin ≤ 1)));
        rising = λ i j d before within. absurd (omega (arith, before, within));
        rounds = All-cons (IsRound (session_of round)) round [] four_draws (All-nil (IsRound (session_of round)));
      };
    }
