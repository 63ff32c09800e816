-- If cards are missing, the discrepancies are no larger, so it is enough to count over the actual rankings.
use Rattle.std.proofs.Common.{◌≡◌, ℕ, zero, suc, ◌-◌, ◌≤◌, List, [], ◌∷◌, map, get_or, sum_by, refl, arith}
use Rattle.std.proofs.lemmas.List.Sums.{sum_by-cons}
use Rattle.manifest.specs.declared.recorded.Recorded.{Recorded}
use Rattle.assorters.specs.declared.seen.Seen.{Seen}
use Rattle.assorters.specs.declared.seen.Seen.TheVariants.{Found, Missing}
use Rattle.assorters.specs.Cards.{seen_value, discrepancy_of}
use Rattle.session_state.specs.Readings.{IsReading, AreReadings}

-- each card is found
abbrev pub all_found : List (List ℕ) → List Seen
all_found actual = map (λ ranking. Found ranking) actual

module _ (value : List ℕ → ℕ) where
  reading-le : (actual : List ℕ) (s : Seen) → IsReading actual s → seen_value value s ≤ value actual
  reading-le actual (Found ranking) same = rw same (omega arith)
  reading-le actual Missing is = omega arith

  readings-le : (actual : List (List ℕ)) (seen : List Seen) → AreReadings actual seen → (k : ℕ) →
      seen_value value (get_or seen k Missing) ≤ seen_value value (get_or (all_found actual) k Missing)
  readings-le [] [] are k = omega arith
  readings-le [] (s ∷ seen) are k = absurd are
  readings-le (r ∷ actual) [] are k = absurd are
  readings-le (r ∷ actual) (s ∷ seen) are zero = reading-le r s are.0
  readings-le (r ∷ actual) (s ∷ seen) are (suc k) = readings-le actual seen are.1 k

  pub found-le : (recorded : List Recorded) (actual : List (List ℕ)) (seen : List Seen) → AreReadings actual seen → (card : ℕ) →
      discrepancy_of value recorded seen card ≤ discrepancy_of value recorded (all_found actual) card
  found-le recorded actual seen are card = let more = readings-le actual seen are (card - 1) in omega arith

  pub found-sum : (actual : List (List ℕ)) → sum_by (seen_value value) (all_found actual) ≡ sum_by value actual
  found-sum [] = refl
  found-sum (r ∷ actual) =
      let rest = found-sum actual in
      omega (arith, rest, sum_by-cons (seen_value value) (Found r) (all_found actual), sum_by-cons value r actual)
