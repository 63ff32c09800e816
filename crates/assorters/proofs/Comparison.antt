-- The comparison identity: what the discrepancies of all cards add up to.
use Rattle.std.proofs.Common.{◌≡◌, ◌↔◌, ℕ, ◌+◌, ◌*◌, ◌<◌, ◌≤◌, List, [], ◌∷◌, length, sum, sum_by, pos, ◌-ℤ◌, ◌<ℤ◌, arith}
use Rattle.std.proofs.lemmas.Int.{ints}
use Rattle.std.proofs.lemmas.List.Sums.{sum_by-cons}
use Rattle.manifest.specs.declared.recorded.Recorded.{Recorded}
use Rattle.manifest.specs.declared.recorded.Recorded.TheVariants.{Ranked, Without}
use Rattle.assorters.specs.declared.seen.Seen.{Seen}
use Rattle.assorters.specs.declared.seen.Seen.TheVariants.{Found, Missing}
use Rattle.assorters.specs.Cards.{IsAssorter, recorded_value, seen_value, discrepancy, discrepancies}
use Rattle.assorters.specs.Laws.{ComparisonLaw}

pub recorded-within : (value : List ℕ → ℕ) → IsAssorter value → (r : Recorded) → recorded_value value r ≤ 2
recorded-within value is (Ranked ranking) = is ranking
recorded-within value is Without = omega arith

pub seen-within : (value : List ℕ → ℕ) → IsAssorter value → (s : Seen) → seen_value value s ≤ 2
seen-within value is (Found ranking) = is ranking
seen-within value is Missing = omega arith

-- over all cards, the discrepancies and the recorded values add up to twice the number of cards plus the seen values
pub discrepancies-sum : (value : List ℕ → ℕ) → IsAssorter value → (recorded : List Recorded) (seen : List Seen) → length seen ≡ length recorded →
    sum (discrepancies value recorded seen) + sum_by (recorded_value value) recorded ≡ 2 * length recorded + sum_by (seen_value value) seen
discrepancies-sum value is [] [] long = omega arith
discrepancies-sum value is [] (s ∷ seen) long = absurd (omega arith)
discrepancies-sum value is (r ∷ recorded) [] long = absurd (omega arith)
discrepancies-sum value is (r ∷ recorded) (s ∷ seen) long =
    let rest = discrepancies-sum value is recorded seen (omega arith) in
    omega (
      arith,
      rest,
      recorded-within value is r,
      sum_by-cons (λ d. d) (discrepancy value r s) (discrepancies value recorded seen),
      sum_by-cons (recorded_value value) r recorded,
      sum_by-cons (seen_value value) s seen,
    )

compared : (d r n s : ℕ) → d + r ≡ 2 * n + s → ((pos (2 * n) -ℤ (pos r -ℤ pos n)) <ℤ pos d) ↔ (n < s)
compared d r n s same = (λ h. omega (arith, ints), λ h. omega (arith, ints))

pub comparison_law : ComparisonLaw
comparison_law value recorded seen is long =
    compared (sum (discrepancies value recorded seen)) (sum_by (recorded_value value) recorded) (length recorded) (sum_by (seen_value value) seen)
    (discrepancies-sum value is recorded seen long)
