-- Sums of the values of a function at the numbers of a range.
use Rattle.std.proofs.Common.{◌≡◌, ◌==◌, ℕ, zero, suc, ◌+◌, ◌<◌, ◌≤◌, Bool, true, false, inl, inr, ◌∷◌, ◌++◌, sum_by, refl, sym, ap, ap₂, arith, eqb-true, ◌∙◌}
use Rattle.std.specs.List.{range_with_len}
use Rattle.std.proofs.lemmas.Bool.{cases_Bool, eqb-false}
use Rattle.std.proofs.lemmas.List.Sums.{sum_by-cons, sum_by-append}
use Rattle.irv_base.specs.Candidates.{candidates}

pub range-split : (a m k : ℕ) → range_with_len a (m + k) ≡ range_with_len a m ++ range_with_len (a + m) k
range-split a zero k = ap₂ (λ x n. range_with_len x n) (omega arith) (omega arith)
range-split a (suc m) k =
    let e : suc m + k ≡ suc (m + k) = omega arith in
    ap (range_with_len a) e ∙ ap (λ xs. a ∷ xs) (range-split (a + 1) m k ∙ ap (λ x. range_with_len (a + 1) m ++ range_with_len x k) (omega arith))

abbrev total_from : (ℕ → ℕ) → ℕ → ℕ → ℕ
total_from f a n = sum_by f (range_with_len a n)

first : (f : ℕ → ℕ) (a n : ℕ) → total_from f a (suc n) ≡ f a + total_from f (a + 1) n
first f a n = sum_by-cons f a (range_with_len (a + 1) n)

-- ---- two functions
pub total-same : (f g : ℕ → ℕ) (a n : ℕ) → ((i : ℕ) → a ≤ i → i < a + n → f i ≡ g i) → total_from f a n ≡ total_from g a n
total-same f g a zero h = refl
total-same f g a (suc n) h =
    first f a n ∙ ap₂ (λ x y. x + y) (h a (omega arith) (omega arith)) (total-same f g (a + 1) n (λ i l m. h i (omega arith) (omega arith))) ∙ sym (first g a n)

pub total-le : (f g : ℕ → ℕ) (a n : ℕ) → ((i : ℕ) → f i ≤ g i) → total_from f a n ≤ total_from g a n
total-le f g a zero h = omega arith
total-le f g a (suc n) h = omega (arith, first f a n, first g a n, h a, total-le f g (a + 1) n h)

-- the third function gives the sum of what the first two give
pub total-plus : (f g h : ℕ → ℕ) (a n : ℕ) → ((i : ℕ) → a ≤ i → i < a + n → h i ≡ f i + g i) → total_from h a n ≡ total_from f a n + total_from g a n
total-plus f g h a zero is = refl
total-plus f g h a (suc n) is =
    omega (
      arith,
      first f a n,
      first g a n,
      first h a n,
      is a (omega arith) (omega arith),
      total-plus f g h (a + 1) n
          (λ i l m. is i (omega arith) (omega arith)),
    )

-- the second function gives more at only one number
pub total-more : (f g : ℕ → ℕ) (k d a n : ℕ) → a ≤ k → k < a + n → g k ≡ f k + d → ((i : ℕ) → (i == k) ≡ false → g i ≡ f i) →
    total_from g a n ≡ total_from f a n + d
total-more f g k d a zero l m here there = absurd (omega arith)
total-more f g k d a (suc n) l m here there = go (a == k) refl (λ above. total-more f g k d (a + 1) n above (omega arith) here there) where
  other : (i : ℕ) → k < i → (i == k) ≡ false
  other i p = elim (cases_Bool (i == k)) [ inl t ↦ absurd (omega (arith, eqb-true i k t, p)) | inr f ↦ f ]

  go : (b : Bool) → (a == k) ≡ b → (a + 1 ≤ k → total_from g (a + 1) n ≡ total_from f (a + 1) n + d) → total_from g a (suc n) ≡ total_from f a (suc n) + d
  go true e ih =
      let at : a ≡ k = eqb-true a k e in
      let more : g a ≡ f a + d = ap g at ∙ here ∙ ap (λ i. f i + d) (sym at) in
      let rest : total_from g (a + 1) n ≡ total_from f (a + 1) n = total-same g f (a + 1) n (λ i p q. there i (other i (omega (arith, at, p)))) in
      omega (arith, first f a n, first g a n, more, rest)
  go false e ih =
      let ne = eqb-false a k e in
      let above : a + 1 ≤ k = omega arith in
      omega (arith, first f a n, first g a n, there a e, ih above)

-- ---- parts of a range
pub total-shift : (f : ℕ → ℕ) (a m n : ℕ) → total_from f (a + m) n ≡ total_from (λ i. f (i + m)) a n
total-shift f a m zero = refl
total-shift f a m (suc n) =
    first f (a + m) n ∙ ap (λ t. f (a + m) + t) (ap (λ x. total_from f x n) (omega arith) ∙ total-shift f (a + 1) m n) ∙ sym (first (λ i. f (i + m)) a n)

pub total-split : (f : ℕ → ℕ) (m n : ℕ) → sum_by f (candidates (m + n)) ≡ sum_by f (candidates m) + sum_by (λ i. f (i + m)) (candidates n)
total-split f m n =
    ap (sum_by f) (range-split 0 m n)
    ∙ sum_by-append f (range_with_len 0 m) (range_with_len (0 + m) n)
    ∙ ap (λ t. sum_by f (candidates m) + t) (total-shift f 0 m n)

pub total-none : (f : ℕ → ℕ) (a n : ℕ) → ((i : ℕ) → a ≤ i → i < a + n → f i ≡ 0) → total_from f a n ≡ 0
total-none f a zero h = refl
total-none f a (suc n) h = omega (arith, first f a n, h a (omega arith) (omega arith), total-none f (a + 1) n (λ i l m. h i (omega arith) (omega arith)))

pub total-has : (f : ℕ → ℕ) (k a n : ℕ) → a ≤ k → k < a + n → f k ≤ total_from f a n
total-has f k a zero l m = absurd (omega arith)
total-has f k a (suc n) l m = go (a == k) refl (λ above. total-has f k (a + 1) n above (omega arith)) where
  go : (b : Bool) → (a == k) ≡ b → (a + 1 ≤ k → f k ≤ total_from f (a + 1) n) → f k ≤ total_from f a (suc n)
  go true e ih = omega (arith, first f a n, ap f (eqb-true a k e))
  go false e ih =
      let ne = eqb-false a k e in
      let above : a + 1 ≤ k = omega arith in
      omega (arith, first f a n, ih above)
