-- The chain in five runs of draws.
use Rattle.std.proofs.Common.{◌≡◌, ℕ, List, ◌++◌, fold, replicate, sym, ◌∙◌, ap}
use Rattle.std.proofs.lemmas.List.Sums.{fold-append}
use Rattle.km_risk.specs.declared.limits.TheConstants.{ONE}
use Rattle.km_risk.specs.declared.draws.Counts.{Counts}
use Rattle.km_risk.specs.Printed.{step, printed_risk}

-- five runs of steps, each from the risk after the one before, give the printed risk
pub printed_risk-runs : (cards margin gamma : ℕ) (c : Counts) (after4 after3 after2 after1 after0 : ℕ) →
    after4 ≡ fold (step cards margin gamma) ONE (replicate c.n4 4) →
    after3 ≡ fold (step cards margin gamma) after4 (replicate c.n3 3) →
    after2 ≡ fold (step cards margin gamma) after3 (replicate c.n2 2) →
    after1 ≡ fold (step cards margin gamma) after2 (replicate c.n1 1) →
    after0 ≡ fold (step cards margin gamma) after1 (replicate c.n0 0) →
    after0 ≡ printed_risk cards margin gamma c
unfolding printed_risk
printed_risk-runs cards margin gamma c after4 after3 after2 after1 after0 is4 is3 is2 is1 is0 =
    let to3 = append_run after4 after3 ONE (replicate c.n4 4) (replicate c.n3 3) is4 is3 in
    let to2 = append_run after3 after2 ONE (replicate c.n4 4 ++ replicate c.n3 3) (replicate c.n2 2) to3 is2 in
    let to1 = append_run after2 after1 ONE (replicate c.n4 4 ++ replicate c.n3 3 ++ replicate c.n2 2) (replicate c.n1 1) to2 is1 in
    append_run after1 after0 ONE (replicate c.n4 4 ++ replicate c.n3 3 ++ replicate c.n2 2 ++ replicate c.n1 1) (replicate c.n0 0) to1 is0
  where
    append_run : (middle last first : ℕ) (xs ys : List ℕ) →
        middle ≡ fold (step cards margin gamma) first xs → last ≡ fold (step cards margin gamma) middle ys →
        last ≡ fold (step cards margin gamma) first (xs ++ ys)
    append_run middle last first xs ys is_middle is_last =
        is_last ∙ ap (λ r. fold (step cards margin gamma) r ys) is_middle ∙ sym (fold-append (step cards margin gamma) first xs ys)
