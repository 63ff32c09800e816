-- Worked examples, which the checker computes.
use Rattle.std.specs.Prelude.{◌≡◌, ℕ, ◌*◌, ◌^◌, Some, None, [], ◌∷◌, refl}
use Rattle.km_risk.specs.Factor.{numerator, denominator}
use Rattle.km_risk.specs.Counts.{counts_of, clean}
use Rattle.km_risk.specs.Printed.{printed_risk}
use Rattle.km_risk.specs.Clean.{clean_draws}
use Rattle.km_risk.specs.Reach.{sequences, prefixes, reach}

-- 12 cards, a margin of 1 vote, gamma 0.1: the factor of a draw without a discrepancy is 138/143
numerator_of_twelve : numerator 12 1 100 ≡ 138 * 100
numerator_of_twelve = refl

denominator_of_twelve : denominator 12 1 100 2 ≡ 143 * 100
denominator_of_twelve = refl

-- rounded up
one_clean_draw : printed_risk 12 1 100 (clean 1) ≡ 965034965034965035
unfolding printed_risk
one_clean_draw = refl

-- a draw with d of 0, after one with d of 4, is capped: 6 * 138/263 is above one
overstated_and_understated : printed_risk 12 1 100 (counts_of (0 ∷ 4 ∷ [])) ≡ 10 ^ 18
unfolding printed_risk
overstated_and_understated = refl

-- one card that is drawn again and again
five_draws_of_one_card : printed_risk 1 1 100 (clean 5) ≡ 48282842081079907
unfolding printed_risk
five_draws_of_one_card = refl

one_draw_is_enough : clean_draws 1 1 100 600000 ≡ Some 1
unfolding clean_draws printed_risk
one_draw_is_enough = refl

more_than_the_cards : clean_draws 12 1 100 50000 ≡ None
unfolding clean_draws printed_risk
more_than_the_cards = refl

-- two cards, a margin of 1: the discrepancies 0 and 3 add up to 2 * 2 - 1, so the assertion isn't true
two_of_four : reach 2 1 500 700000 (0 ∷ 3 ∷ []) [] 2 ≡ 2
two_of_four = refl

all_prefixes : prefixes {X = ℕ} (3 ∷ 0 ∷ []) ≡ [] ∷ (3 ∷ []) ∷ (3 ∷ 0 ∷ []) ∷ []
all_prefixes = refl

all_sequences :
    sequences {X = ℕ} (0 ∷ 3 ∷ []) 2
    ≡ (0 ∷ 0 ∷ []) ∷ (0 ∷ 3 ∷ []) ∷ (3 ∷ 0 ∷ []) ∷ (3 ∷ 3 ∷ []) ∷ []
all_sequences = refl
