-- Searches through numbers from a given one on, and through only the first of these numbers.
use Rattle.std.proofs.Common.{◌≡◌, ℕ, zero, suc, ◌+◌, ◌-◌, ◌<◌, ◌≤◌, Bool, ◌∷◌, ◌++◌, Option, None, Some, find, refl, sym, ap, ◌∙◌, arith}
use Rattle.std.specs.List.{range_with_len}
use Rattle.std.specs.Option.{option_or}
use Rattle.std.proofs.lemmas.List.Folds.{find-append}
use Rattle.irv_base.proofs.Members.{from_find, from_range}

range-join : (a m n : ℕ) → range_with_len a (m + n) ≡ range_with_len a m ++ range_with_len (a + m) n
range-join a zero n = λ i. range_with_len (let same : a ≡ a + 0 = omega arith in same i) (let same : 0 + n ≡ n = omega arith in same i)
range-join a (suc m) n =
    let more : suc m + n ≡ suc (m + n) = omega arith in
    let from : a + 1 + m ≡ a + suc m = omega arith in
    ap (range_with_len a) more ∙ ap (λ s. a ∷ s) (range-join (a + 1) m n ∙ ap (λ b. range_with_len (a + 1) m ++ range_with_len b n) from)

module _ (p : ℕ → Bool) (m all : ℕ) (few : m ≤ all) where
  split : find p (range_with_len 1 all) ≡ option_or (find p (range_with_len 1 m)) (find p (range_with_len (1 + m) (all - m)))
  split =
      let whole : all ≡ m + (all - m) = omega arith in
      ap (λ n. find p (range_with_len 1 n)) whole ∙ ap (find p) (range-join 1 m (all - m))
      ∙ find-append p (range_with_len 1 m) (range_with_len (1 + m) (all - m))

  -- what is found among the first is found
  pub found-more : (k : ℕ) → find p (range_with_len 1 m) ≡ Some k → find p (range_with_len 1 all) ≡ Some k
  found-more k is = split ∙ ap (λ o. option_or o (find p (range_with_len (1 + m) (all - m)))) is

  -- what is found is found among the first, if it is one of them
  pub found-among : (k : ℕ) → find p (range_with_len 1 all) ≡ Some k → k ≤ m → find p (range_with_len 1 m) ≡ Some k
  found-among k is within = by (find p (range_with_len 1 m)) refl where
    by : (o : Option ℕ) → find p (range_with_len 1 m) ≡ o → find p (range_with_len 1 m) ≡ Some k
    by (Some r) first = first ∙ sym (found-more r first) ∙ is
    by None none =
        let rest : find p (range_with_len (1 + m) (all - m)) ≡ Some k =
        sym (ap (λ o. option_or o (find p (range_with_len (1 + m) (all - m)))) none) ∙ sym split ∙ is in
        let (from, to) = from_range k (1 + m) (all - m) (from_find p k (range_with_len (1 + m) (all - m)) rest).0 in
        absurd (omega (arith, from, within))

  -- and nothing is, if it isn't
  pub none-among : (k : ℕ) → find p (range_with_len 1 all) ≡ Some k → m < k → find p (range_with_len 1 m) ≡ None
  none-among k is behind = by (find p (range_with_len 1 m)) refl where
    by : (o : Option ℕ) → find p (range_with_len 1 m) ≡ o → find p (range_with_len 1 m) ≡ None
    by None none = none
    by (Some r) first =
        let same : r ≡ k = (let e : Some r ≡ Some k = sym (found-more r first) ∙ is in cc) in
        let (from, to) = from_range r 1 m (from_find p r (range_with_len 1 m) first).0 in
        absurd (omega (arith, to, same, behind))

  -- if nothing is found, nothing is found among the first
  pub none-first : find p (range_with_len 1 all) ≡ None → find p (range_with_len 1 m) ≡ None
  none-first none = by (find p (range_with_len 1 m)) refl where
    by : (o : Option ℕ) → find p (range_with_len 1 m) ≡ o → find p (range_with_len 1 m) ≡ None
    by None is = is
    by (Some r) first = let e : Some r ≡ None = sym (found-more r first) ∙ none in absurd (cc e)
