-- If the printed risk of draws is within the limit, so is their exact risk. So few sequences ever have a printed risk within it.
use Rattle.std.proofs.Common.{◌≡◌, ℕ, ◌*◌, ◌<◌, ◌≤◌, min, Bool, true, false, ◌||◌, cond, List, [], ◌∷◌, ◌++◌, All, count_by, refl, sym, ◌∙◌, arith}
use Rattle.std.proofs.Math.Bool.{or-true}
use Rattle.std.proofs.Math.Nat.{mul-le-mul_right}
use Rattle.std.specs.List.{list_any}
use Rattle.std.proofs.lemmas.Bool.{le-leb, leb-true}
use Rattle.std.proofs.lemmas.List.Elements.{All-nil, All-cons, All-head, All-tail, All-append, All-weaker}
use Rattle.std.proofs.lemmas.List.Sums.{sum_by-cons}
use Rattle.km_risk.proofs.Factors.{denominator_pos}
use Rattle.km_risk.proofs.Products.{product_pos}
use Rattle.km_risk.proofs.Order.{order_law}
use Rattle.km_risk.proofs.Counting.{counting_law}
use Rattle.km_risk.proofs.RiskBounds.{not_below_law}
use Rattle.km_risk.proofs.Sequences.{passes, passes-from_none, reach_law, All-sequences}
use Rattle.km_risk.specs.declared.limits.TheConstants.{ONE, MILLIONTH}
use Rattle.km_risk.specs.Factor.{denominator}
use Rattle.km_risk.specs.Exact.{millionths_in_one, exact_numerator, exact_denominator, is_within}
use Rattle.km_risk.specs.Counts.{counts_of}
use Rattle.km_risk.specs.Printed.{printed_risk, is_printed_within}
use Rattle.km_risk.specs.Reach.{sequences, prefixes}
use Rattle.km_risk.specs.Laws.{ConfirmedLaw, RiskLimitLaw}

-- the limit at a risk of at least the smaller of one and a fraction
within_limit : (a b r limit : ℕ) → 0 < b → limit < millionths_in_one → ONE * min a b ≤ r * b → r ≤ limit * MILLIONTH → a * millionths_in_one ≤ limit * b
within_limit a b r limit pos part bound small =
    let m1 = mul-le-mul_right b small in
    let m2 = mul-le-mul_right b part in
    omega arith

pub confirmed_law : ConfirmedLaw
confirmed_law cards margin gamma limit draws some smaller lasting part few small =
    let same = order_law cards margin gamma draws few in
    le-leb _ _ (within_limit (exact_numerator cards margin gamma draws) (exact_denominator cards margin gamma draws)
    (printed_risk cards margin gamma (counts_of draws)) limit
    (product_pos (denominator cards margin gamma) (denominator_pos cards margin gamma some smaller lasting) draws) part
    (rw (same.0, same.1) at (not_below_law cards margin gamma (counts_of draws) some smaller lasting)) (leb-true _ _ small))

or_grows : (a b x y : Bool) → (a ≡ true → x ≡ true) → (b ≡ true → y ≡ true) → (a || b) ≡ true → (x || y) ≡ true
or_grows true b x y first second h = rw (first refl) refl
or_grows false b x y first second h = rw (second h) (or-true x)

cond_grows : (a b : Bool) → (a ≡ true → b ≡ true) → cond a 1 0 ≤ cond b 1 0
cond_grows true b h = rw (h refl) (omega arith)
cond_grows false b h = omega arith

-- a weaker test counts more
count_grows : {X : Type 0} (p q : X → Bool) (xs : List X) → All (λ x. p x ≡ true → q x ≡ true) xs → count_by p xs ≤ count_by q xs
count_grows p q [] h = omega arith
count_grows p q (x ∷ xs) h =
    rw (sum_by-cons (λ y. cond (p y) 1 0) x xs, sum_by-cons (λ y. cond (q y) 1 0) x xs)
    (let first = cond_grows (p x) (q x) (All-head (λ y. p y ≡ true → q y ≡ true) x xs h) in
    let rest = count_grows p q xs (All-tail (λ y. p y ≡ true → q y ≡ true) x xs h) in omega arith)

module _ (P : ℕ → Type 0) (p q : List ℕ → Bool) (weaker : (draws : List ℕ) → All P draws → p draws ≡ true → q draws ≡ true) where
  passes_grows : (h s : List ℕ) → All P h → All P s → passes p h s ≡ true → passes q h s ≡ true
  passes_grows h [] before after passed = weaker h before passed
  passes_grows h (d ∷ more) before after passed =
      or_grows (p h) (passes p (h ++ d ∷ []) more) (q h) (passes q (h ++ d ∷ []) more) (weaker h before)
      (passes_grows (h ++ d ∷ []) more (All-append P h (d ∷ []) before (All-cons P d [] (All-head P d more after) (All-nil P))) (All-tail P d more after))
      passed

  -- a weaker test passes some prefix of more sequences
  pub prefixes_grow : (ds : List ℕ) → All P ds → (n : ℕ) →
      count_by (λ s. list_any p (prefixes s)) (sequences ds n) ≤ count_by (λ s. list_any q (prefixes s)) (sequences ds n)
  prefixes_grow ds each n =
      count_grows (λ s. list_any p (prefixes s)) (λ s. list_any q (prefixes s)) (sequences ds n)
      (All-weaker (All P) (λ s. list_any p (prefixes s) ≡ true → list_any q (prefixes s) ≡ true)
      (λ s each_s passed. sym (passes-from_none q s) ∙ passes_grows [] s (All-nil P) each_s (passes-from_none p s ∙ passed))
      (sequences ds n) (All-sequences P ds each n))

pub risk_limit_law : RiskLimitLaw
risk_limit_law cards margin gamma limit ds some smaller lasting part count few small n =
    let fewer =
    prefixes_grow (λ d. d ≤ 4) (is_printed_within cards margin gamma limit) (is_within cards margin gamma limit)
    (λ draws each printed. confirmed_law cards margin gamma limit draws some smaller lasting part each printed) ds few n in
    let reached = rw (reach_law cards margin gamma limit ds count n) at (counting_law cards margin gamma limit ds some smaller count small n) in
    omega arith
