-- The exact risk of draws doesn't depend on their order.
use Rattle.std.proofs.Common.{◌≡◌, ℕ, zero, suc, ◌+◌, ◌*◌, ◌^◌, ◌≤◌, ◌==◌, cond, List, [], ◌∷◌, ◌++◌, map, count_by, replicate, All, refl, sym, ◌∙◌, arith}
use Rattle.std.proofs.Math.Nat.{zero-add, pow-zero, pow-suc}
use Rattle.std.proofs.Math.Numerals.{one-add}
use Rattle.std.proofs.lemmas.List.Elements.{All-head, All-tail}
use Rattle.std.proofs.lemmas.List.Sums.{sum_by-cons}
use Rattle.km_risk.proofs.Products.{product-cons, product-same, product-append-replicate}
use Rattle.km_risk.specs.declared.draws.Counts.{Counts}
use Rattle.km_risk.specs.Factor.{numerator, denominator}
use Rattle.km_risk.specs.Exact.{product}
use Rattle.km_risk.specs.Counts.{in_order, counts_of}
use Rattle.km_risk.specs.Laws.{OrderLaw}

-- the product over numbers of draws
weight : (ℕ → ℕ) → ℕ → ℕ → ℕ → ℕ → ℕ → ℕ
weight e n0 n1 n2 n3 n4 = e 4 ^ n4 * e 3 ^ n3 * e 2 ^ n2 * e 1 ^ n1 * e 0 ^ n0

product-in_order : (e : ℕ → ℕ) (c : Counts) → product (map e (in_order c)) ≡ weight e c.n0 c.n1 c.n2 c.n3 c.n4
unfolding weight
product-in_order e c =
    rw (
      product-append-replicate e 0 c.n0 (replicate c.n4 4 ++ replicate c.n3 3 ++ replicate c.n2 2 ++ replicate c.n1 1),
      product-append-replicate e 1 c.n1 (replicate c.n4 4 ++ replicate c.n3 3 ++ replicate c.n2 2),
      product-append-replicate e 2 c.n2 (replicate c.n4 4 ++ replicate c.n3 3),
      product-append-replicate e 3 c.n3 (replicate c.n4 4),
      product-append-replicate e 4 c.n4 [],
    )
    (omega arith)

-- one more draw
weight_more : (e : ℕ → ℕ) (d : ℕ) → d ≤ 4 → (n0 n1 n2 n3 n4 : ℕ) →
    weight e (cond (d == 0) 1 0 + n0) (cond (d == 1) 1 0 + n1) (cond (d == 2) 1 0 + n2) (cond (d == 3) 1 0 + n3) (cond (d == 4) 1 0 + n4)
    ≡ e d * weight e n0 n1 n2 n3 n4
unfolding weight
weight_more e zero h n0 n1 n2 n3 n4 = rw (one-add n0, zero-add n1, zero-add n2, zero-add n3, zero-add n4, pow-suc (e 0) n0) (omega arith)
weight_more e (suc zero) h n0 n1 n2 n3 n4 = rw (zero-add n0, one-add n1, zero-add n2, zero-add n3, zero-add n4, pow-suc (e 1) n1) (omega arith)
weight_more e (suc (suc zero)) h n0 n1 n2 n3 n4 = rw (zero-add n0, zero-add n1, one-add n2, zero-add n3, zero-add n4, pow-suc (e 2) n2) (omega arith)
weight_more e (suc (suc (suc zero))) h n0 n1 n2 n3 n4 = rw (zero-add n0, zero-add n1, zero-add n2, one-add n3, zero-add n4, pow-suc (e 3) n3) (omega arith)
weight_more e (suc (suc (suc (suc zero)))) h n0 n1 n2 n3 n4 =
    rw (zero-add n0, zero-add n1, zero-add n2, zero-add n3, one-add n4, pow-suc (e 4) n4) (omega arith)
weight_more e (suc (suc (suc (suc (suc d))))) h n0 n1 n2 n3 n4 = absurd (omega arith)

counted : ℕ → List ℕ → ℕ
counted k draws = count_by (λ d. d == k) draws

weight-counted : (e : ℕ → ℕ) (ds : List ℕ) → All (λ d. d ≤ 4) ds →
    weight e (counted 0 ds) (counted 1 ds) (counted 2 ds) (counted 3 ds) (counted 4 ds) ≡ product (map e ds)
unfolding counted
weight-counted e [] h = unfold weight in rw (pow-zero (e 4), pow-zero (e 3), pow-zero (e 2), pow-zero (e 1), pow-zero (e 0)) refl
weight-counted e (d ∷ ds) h =
    rw (
      sum_by-cons (λ x. cond (x == 0) 1 0) d ds,
      sum_by-cons (λ x. cond (x == 1) 1 0) d ds,
      sum_by-cons (λ x. cond (x == 2) 1 0) d ds,
      sum_by-cons (λ x. cond (x == 3) 1 0) d ds,
      sum_by-cons (λ x. cond (x == 4) 1 0) d ds,
      weight_more e d (All-head (λ x. x ≤ 4) d ds h) (counted 0 ds) (counted 1 ds) (counted 2 ds) (counted 3 ds) (counted 4 ds),
      weight-counted e ds (All-tail (λ x. x ≤ 4) d ds h),
    )
    (sym (product-cons (e d) (map e ds)))

-- a product over draws is a product over their counts
pub product-counts_of : (e : ℕ → ℕ) (ds : List ℕ) → All (λ d. d ≤ 4) ds → product (map e (in_order (counts_of ds))) ≡ product (map e ds)
product-counts_of e ds h = product-in_order e (counts_of ds) ∙ unfold counted in weight-counted e ds h

pub order_law : OrderLaw
order_law cards margin gamma draws few = (
  sym (product-same (numerator cards margin gamma) (in_order (counts_of draws)))
      ∙ product-counts_of (λ d. numerator cards margin gamma) draws few ∙ product-same (numerator cards margin gamma) draws,
  product-counts_of (denominator cards margin gamma) draws few,
)
