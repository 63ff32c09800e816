-- The number of draws that have each discrepancy.
use Rattle.std.specs.Prelude.{ℕ, ◌+◌, ◌==◌, List, ◌++◌, count_by, replicate}
use Rattle.km_risk.specs.declared.draws.Counts.{Counts}

-- the number of draws
abbrev pub draws_in : Counts → ℕ
draws_in counts = counts.n0 + counts.n1 + counts.n2 + counts.n3 + counts.n4

-- the draws as a list: those with d of 4 first, then those with d of 3, 2, 1 and 0
abbrev pub in_order : Counts → List ℕ
in_order counts =
    replicate counts.n4 4 ++ replicate counts.n3 3 ++ replicate counts.n2 2 ++ replicate counts.n1 1
    ++ replicate counts.n0 0

-- the counts of a list of draws
abbrev pub counts_of : List ℕ → Counts
counts_of draws = record {
  n0 = count_by (λ d. d == 0) draws;
  n1 = count_by (λ d. d == 1) draws;
  n2 = count_by (λ d. d == 2) draws;
  n3 = count_by (λ d. d == 3) draws;
  n4 = count_by (λ d. d == 4) draws;
}

-- n draws without a discrepancy, and no others
abbrev pub clean : ℕ → Counts
clean n = record { n0 = 0; n1 = 0; n2 = n; n3 = 0; n4 = 0 }
