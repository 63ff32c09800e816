-- The counts of draws count each draw once.
use Rattle.std.proofs.Common.{◌≡◌, ℕ, zero, suc, ◌+◌, ◌≤◌, ◌==◌, cond, [], ◌∷◌, refl, arith}
use Rattle.std.proofs.lemmas.List.Elements.{All-head, All-tail}
use Rattle.std.proofs.lemmas.List.Sums.{sum_by-cons}
use Rattle.km_risk.specs.Laws.{AllCountedLaw}

one_each : (d : ℕ) → d ≤ 4 → cond (d == 0) 1 0 + cond (d == 1) 1 0 + cond (d == 2) 1 0 + cond (d == 3) 1 0 + cond (d == 4) 1 0 ≡ 1
one_each zero h = refl
one_each (suc zero) h = refl
one_each (suc (suc zero)) h = refl
one_each (suc (suc (suc zero))) h = refl
one_each (suc (suc (suc (suc zero)))) h = refl
one_each (suc (suc (suc (suc (suc d))))) h = absurd (omega arith)

pub all_counted : AllCountedLaw
all_counted [] few = refl
all_counted (d ∷ ds) few =
    let rest = all_counted ds (All-tail (λ x. x ≤ 4) d ds few) in
    let one = one_each d (All-head (λ x. x ≤ 4) d ds few) in
    omega (
      arith,
      rest,
      one,
      sum_by-cons (λ x. cond (x == 0) 1 0) d ds,
      sum_by-cons (λ x. cond (x == 1) 1 0) d ds,
      sum_by-cons (λ x. cond (x == 2) 1 0) d ds,
      sum_by-cons (λ x. cond (x == 3) 1 0) d ds,
      sum_by-cons (λ x. cond (x == 4) 1 0) d ds,
    )
