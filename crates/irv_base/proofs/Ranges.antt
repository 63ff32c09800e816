-- Going through all candidates, one by one.
use Rattle.std.proofs.Common.{◌≡◌, ◌≢◌, ℕ, zero, suc, ◌+◌, ◌-◌, ◌<◌, Bool, true, false, cond, List, [], ◌∷◌, ◌++◌, length, filter, slice_get, Option, if◌then◌else◌, refl, sym, ap, subst, arith, add-one, zero-add, length-append, ◌∙◌}
use Rattle.std.specs.List.{range_with_len}
use Rattle.std.proofs.lemmas.List.Elements.{filter-append}
use Rattle.irv_base.specs.Candidates.{candidates, has}

range-push : (a n : ℕ) → range_with_len a (suc n) ≡ range_with_len a n ++ (a + n) ∷ []
range-push a zero = ap (λ x. x ∷ []) (omega arith)
range-push a (suc n) = ap (λ s. a ∷ s) (range-push (a + 1) n ∙ ap (λ x. range_with_len (a + 1) n ++ x ∷ []) (omega arith))

pub candidates-more : (n : ℕ) → candidates (n + 1) ≡ candidates n ++ n ∷ []
candidates-more n = ap candidates (add-one n) ∙ range-push 0 n ∙ ap (λ x. candidates n ++ x ∷ []) (zero-add n)

-- one more candidate to count
pub length-filter-more : (p : ℕ → Bool) (n : ℕ) → length (filter p (candidates (n + 1)))
    ≡ (if p n then length (filter p (candidates n)) + 1 else length (filter p (candidates n)))
length-filter-more p n =
    ap (λ s. length (filter p s)) (candidates-more n) ∙ ap length (filter-append p (candidates n) (n ∷ []))
    ∙ length-append (filter p (candidates n)) (filter p (n ∷ [])) ∙ last (p n)
  where
    last : (b : Bool) → length (filter p (candidates n)) + length (cond b (n ∷ []) [])
        ≡ (if b then length (filter p (candidates n)) + 1 else length (filter p (candidates n)))
    last true = refl
    last false = omega arith

-- the candidates from c on
pub range-step : (c n : ℕ) → c < n → range_with_len c (n - c) ≡ c ∷ range_with_len (c + 1) (n - (c + 1))
range-step c n l = let e : n - c ≡ suc (n - (c + 1)) = omega arith in ap (range_with_len c) e

-- ---- the member number `left` from the candidate c on
pub after_member : (s c n left : ℕ) (wanted : Option ℕ) → c < n → has s c ≡ true → left ≢ 0 →
    slice_get (filter (has s) (range_with_len c (n - c))) left ≡ wanted → left < length (filter (has s) (range_with_len c (n - c))) →
    (slice_get (filter (has s) (range_with_len (c + 1) (n - (c + 1)))) (left - 1) ≡ wanted) ×
    (left - 1 < length (filter (has s) (range_with_len (c + 1) (n - (c + 1)))))
after_member s c n left wanted l h some at within =
    let e : filter (has s) (range_with_len c (n - c)) ≡ c ∷ filter (has s) (range_with_len (c + 1) (n - (c + 1))) = ap (filter (has s)) (range-step c n l)
    ∙ keeps (has s c) h in
    behind (filter (has s) (range_with_len (c + 1) (n - (c + 1)))) left some (ap (λ xs. slice_get xs left) (sym e)
    ∙ at) (subst (λ xs. left < length xs) e within)
  where
    keeps : {xs : List ℕ} (b : Bool) → b ≡ true → cond b (c ∷ xs) xs ≡ c ∷ xs
    keeps true h = refl
    keeps false h = cc

    behind : (xs : List ℕ) (i : ℕ) → i ≢ 0 → slice_get (c ∷ xs) i ≡ wanted → i < length (c ∷ xs) → (slice_get xs (i - 1) ≡ wanted) × (i - 1 < length xs)
    behind xs zero some at within = absurd (some refl)
    behind xs (suc i) some at within = let e : suc i - 1 ≡ i = omega arith in (ap (slice_get xs) e ∙ at, omega arith)

pub after_other : (s c n left : ℕ) (wanted : Option ℕ) → c < n → has s c ≡ false →
    slice_get (filter (has s) (range_with_len c (n - c))) left ≡ wanted → left < length (filter (has s) (range_with_len c (n - c))) →
    (slice_get (filter (has s) (range_with_len (c + 1) (n - (c + 1)))) left ≡ wanted) × (left < length (filter (has s) (range_with_len (c + 1) (n - (c + 1)))))
after_other s c n left wanted l h at within =
    let e : filter (has s) (range_with_len c (n - c)) ≡ filter (has s) (range_with_len (c + 1) (n - (c + 1))) = ap (filter (has s)) (range-step c n l)
    ∙ skips (has s c) h in
    (ap (λ xs. slice_get xs left) (sym e) ∙ at, subst (λ xs. left < length xs) e within)
  where
    skips : {xs : List ℕ} (b : Bool) → b ≡ false → cond b (c ∷ xs) xs ≡ xs
    skips true h = cc
    skips false h = refl
