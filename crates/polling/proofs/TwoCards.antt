-- The worked example of two cards.
use Rattle.std.proofs.Common.{◌≡◌, ◌≤◌, [], ◌∷◌, count_by, map, refl, arith}
use Rattle.std.specs.List.{range_with_len}
use Rattle.std.proofs.lemmas.List.Elements.{All-nil, All-cons}
use Rattle.assertions.specs.Assorter.{assorter_value}
use Rattle.km_risk.specs.Printed.{printed_risk}
use Rattle.km_risk.specs.Reach.{IsSequence, sequences}
use Rattle.audit_laws.specs.Claims.{Cover}
use Rattle.audit_laws.specs.Examples.{two_actual, two_seen}
use Rattle.polling.specs.Examples.{leads}
use Rattle.polling.specs.PollLimit.{AreConfirmed, MayBeConfirmed}
use Rattle.polling.specs.Polls.{is_confirmed}

pub cover : Cover 2 0 leads
cover = record { winner_below = omega arith; proper = refl; covering = refl }

one_drawn : IsSequence 2 1 (1 ∷ [])
one_drawn = record {
  long = refl;
  some = All-cons (λ e. 1 ≤ e) 1 [] (omega arith) (All-nil (λ e. 1 ≤ e));
  within = All-cons (λ e. e ≤ 2) 1 [] (omega arith) (All-nil (λ e. e ≤ 2));
}

may_be_confirmed : MayBeConfirmed 700000 500 (map assorter_value leads) two_actual (1 ∷ [])
unfolding printed_risk
may_be_confirmed = record { seen = two_seen; readings = (refl, (refl, tt)); so_far = 1; few = omega arith; confirmed = refl }

pub confirmed : AreConfirmed 700000 500 (map assorter_value leads) two_actual 1 ((1 ∷ []) ∷ [])
confirmed = record {
  drawn = All-cons (IsSequence 2 1) (1 ∷ []) [] one_drawn (All-nil (IsSequence 2 1));
  differ = λ i j d before within. absurd (omega arith);
  each =
      All-cons (MayBeConfirmed 700000 500 (map assorter_value leads) two_actual) (1 ∷ []) [] may_be_confirmed
      (All-nil (MayBeConfirmed 700000 500 (map assorter_value leads) two_actual));
}

pub counted : count_by (is_confirmed 700000 500 (map assorter_value leads) two_seen) (sequences (range_with_len 1 2) 1) ≡ 1
unfolding printed_risk
counted = refl
