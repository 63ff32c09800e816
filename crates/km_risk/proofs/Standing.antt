-- A chain with one more draw, and a chain that a draw leaves as it is.
use Rattle.std.proofs.Common.{◌≡◌, ◌∙◌, ℕ, zero, suc, ◌+◌, ◌-◌, ◌≤◌, ◌++◌, fold, replicate, refl, sym, ap, arith}
use Rattle.std.proofs.lemmas.List.{replicate-append-replicate, replicate_more}
use Rattle.std.proofs.lemmas.List.Sums.{fold-append, fold_push}

module _ (f : ℕ → ℕ → ℕ) (d : ℕ) where
  pub one-more : (first now k next : ℕ) → now ≡ fold f first (replicate k d) → next ≡ f now d → next ≡ fold f first (replicate (k + 1) d)
  one-more first now k next so-far is =
      is ∙ ap (λ r. f r d) so-far ∙ sym (fold_push f first (replicate k d) d) ∙ ap (fold f first) (replicate_more k d)

  standing : (now n : ℕ) → f now d ≡ now → fold f now (replicate n d) ≡ now
  standing now zero same = refl
  standing now (suc n) same = ap (λ r. fold f r (replicate n d)) same ∙ standing now n same

  -- after the first k of n draws
  pub standing-on : (first now k n : ℕ) → k ≤ n → now ≡ fold f first (replicate k d) → f now d ≡ now → now ≡ fold f first (replicate n d)
  standing-on first now k n within so-far same =
      let all : k + (n - k) ≡ n = omega arith in
      let split : replicate k d ++ replicate (n - k) d ≡ replicate n d = replicate-append-replicate k (n - k) d ∙ ap (λ m. replicate m d) all in
      sym (standing now (n - k) same) ∙ ap (λ r. fold f r (replicate (n - k) d)) so-far
      ∙ sym (fold-append f first (replicate k d) (replicate (n - k) d)) ∙ ap (fold f first) split
