-- Storing a count.
use Rattle.std.proofs.Common.{◌≡◌, ◌≢◌, inl, inr, ℕ, ◌+◌, ◌<◌, ◌≤◌, List, length, get_or, set, Option, sym, ap, subst, arith, ◌∙◌}
use Rattle.std.proofs.lemmas.Bool.{cases_eq}
use Rattle.std.proofs.lemmas.List.{get_or-set_same, get_or-set_other}
use Rattle.assertions.specs.declared.assertion.Assertion.{Assertion}
use Rattle.trimmer.specs.Counts.{AreWithin, Goes}

module _ (nodes n winner : ℕ) (others : List Assertion) (claim : Option Assertion) (counts more : List ℕ) (at count : ℕ) (inside : at < length more) where
  pub put-goes : ((d : ℕ) → d < at → d ≢ winner → Goes nodes n winner others claim counts d (get_or more d 0)) → Goes nodes n winner others claim counts at count →
      (d : ℕ) → d < at + 1 → d ≢ winner → Goes nodes n winner others claim counts d (get_or (set more at count) d 0)
  put-goes below here' d lt ne = elim (cases_eq d at) [
    | inl e ↦
        let same : get_or (set more at count) d 0 ≡ count = ap (λ i. get_or (set more at count) i 0) e ∙ get_or-set_same more at count 0 inside in
        subst (λ i. Goes nodes n winner others claim counts i (get_or (set more at count) d 0)) (sym e)
        (subst (λ k. Goes nodes n winner others claim counts at k) (sym same) here')
    | inr other ↦
        subst (λ k. Goes nodes n winner others claim counts d k) (sym (get_or-set_other more at d count 0 other))
        (below d (omega (arith, lt, other)) ne)
  ]

  pub put-within : AreWithin nodes more → count ≤ nodes → AreWithin nodes (set more at count)
  put-within within le d = elim (cases_eq d at) [
    | inl e ↦ subst (λ k. k ≤ nodes) (sym (ap (λ i. get_or (set more at count) i 0) e ∙ get_or-set_same more at count 0 inside)) le
    | inr other ↦ subst (λ k. k ≤ nodes) (sym (get_or-set_other more at d count 0 other)) (within d)
  ]
