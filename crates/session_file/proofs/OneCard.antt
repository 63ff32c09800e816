-- The worked session of one card keeps the rules of sessions.
use Rattle.std.proofs.Common.{◌≡◌, ℕ, ◌<◌, ◌≤◌, List, [], ◌∷◌, AllPairs, refl, sym, ap, subst, ◌∙◌, arith}
use Rattle.std.proofs.lemmas.List.Elements.{All-cons, All-nil}
use Rattle.irv_base.specs.Names.{Id}
use Rattle.irv_base.specs.declared.limits.TheConstants.{MOST_DRAWS}
use Rattle.km_risk.specs.declared.draws.Counts.{Counts}
use Rattle.km_risk.specs.Counts.{clean, draws_in}
use Rattle.km_risk.specs.Printed.{printed_risk}
use Rattle.session_state.specs.declared.digests.Digests.{Digests}
use Rattle.session_state.specs.Content.{IsSound, IsWithinLimits}
use Rattle.session_state.specs.Sessions.{IsRound, IsSession, Round, Session}
use Rattle.session_file.specs.Examples.{five_draws, four_draws}

abbrev session_with : List ℕ → List Round → Session
session_with margins rounds = record { cards = 1; margins = margins; limit = 50000; gamma = 100; rounds = rounds }

abbrev both : Session
both = session_with (1 ∷ []) (four_draws ∷ five_draws ∷ [])

abbrev HasFewDraws : Round → Type 0
HasFewDraws round = round.draws ≤ MOST_DRAWS

within_limits : IsWithinLimits both
within_limits = record {
  most_cards = omega arith;
  some_limit = omega arith;
  most_limit = omega arith;
  some_gamma = omega arith;
  most_gamma = omega arith;
  most_draws = All-cons HasFewDraws four_draws (five_draws ∷ []) (omega arith) (All-cons HasFewDraws five_draws [] (omega arith) (All-nil HasFewDraws));
}

abbrev HasDraws : ℕ → Counts → Type 0
HasDraws draws counts = draws_in counts ≡ draws

four_is_round : IsRound both four_draws
unfolding printed_risk
four_is_round = record { some = omega arith; each = refl; all_draws = All-cons (HasDraws 4) (clean 4) [] refl (All-nil (HasDraws 4)); printed = refl }

five_is_round : IsRound both five_draws
unfolding printed_risk
five_is_round = record { some = omega arith; each = refl; all_draws = All-cons (HasDraws 5) (clean 5) [] refl (All-nil (HasDraws 5)); printed = refl }

rising : AllPairs (λ round later. round.draws < later.draws) (four_draws ∷ five_draws ∷ [])
rising i j d before there =
    let first : i ≡ 0 = omega arith in
    let second : j ≡ 1 = omega arith in
    rw (first, second) (omega arith)

abbrev IsMargin : ℕ → Type 0
IsMargin margin = (1 ≤ margin) × (margin ≤ 1)

is_session : IsSession both
is_session = record {
  some = omega arith;
  margins = All-cons IsMargin 1 [] (omega arith, omega arith) (All-nil IsMargin);
  rising = rising;
  rounds = All-cons (IsRound both) four_draws (five_draws ∷ []) four_is_round (All-cons (IsRound both) five_draws [] five_is_round (All-nil (IsRound both)));
}

pub one_card_is_sound : (contest : Id) (seed : List ℕ) (digests : Digests) (margins : List ℕ) (rounds : List Round) →
    margins ≡ 1 ∷ [] → rounds ≡ four_draws ∷ five_draws ∷ [] →
    IsSound (record {
      contest = contest;
      seed = seed;
      digests = digests;
      session = record { cards = 1; margins = margins; limit = 50000; gamma = 100; rounds = rounds };
    })
one_card_is_sound contest seed digests margins rounds one two =
    let is : session_with margins rounds ≡ both = ap (λ ms. session_with ms rounds) one ∙ ap (session_with (1 ∷ [])) two in
    record { limits = subst IsWithinLimits (sym is) within_limits; session = subst IsSession (sym is) is_session }
