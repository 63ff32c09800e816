-- What the answers say together.
use Rattle.std.proofs.Common.{◌≡◌, ℕ, ◌-◌, ◌*◌, ◌<◌, ◌≤◌, inl, inr, List, Some, sym, subst, arith, le_trans, ◌∙◌}
use Rattle.std.proofs.lemmas.Bool.{cases_lt}
use Rattle.assertions.specs.Suffixes.{factorial}
use Rattle.assertions.specs.Hardness.{low}
use Rattle.assertions.proofs.Few.{counts_are_few}
use Rattle.certifier.specs.declared.certificate.Certificate.{Certificate}
use Rattle.certifier.specs.Certified.{IsWithin, IsOver, IsCertified, IsSpent}

module _ (n : ℕ) (records : List (List ℕ)) (winner best nodes : ℕ) where
  pub certified_is_one : (x y : Certificate) → IsCertified n records winner best nodes x → IsCertified n records winner best nodes y →
      (x.claims.items ≡ y.claims.items) × (x.margin ≡ y.margin) × (x.order ≡ y.order)
  certified_is_one x y a b = (a.claims ∙ sym b.claims, a.margin ∙ sym b.margin, some x.order y.order (sym a.order ∙ b.order)) where
    some : (o p : List ℕ) → Some o ≡ Some p → o ≡ p
    some o p e = cc

  within-over : (order : List ℕ) (c : ℕ) → IsWithin n (low n records) best order nodes c → IsOver n (low n records) best order nodes c → ⊥
  within-over order c (a, b) (inl over) = absurd (omega arith)
  within-over order c (a, b) (inr over) = absurd (omega arith)

  pub never_both : (last : ℕ) (x : Certificate) → IsCertified n records winner best nodes x → IsSpent n records winner best nodes last → ⊥
  never_both last x a s =
      let same : s.order ≡ x.order = some s.order x.order (sym s.order_is ∙ a.order) in
      within-over x.order last (a.within last s.below s.alternative) (subst (λ o. IsOver n (low n records) best o nodes last) same s.over)
    where
      some : (o p : List ℕ) → Some o ≡ Some p → o ≡ p
      some o p e = cc

  -- none is over before the named one
  not-earlier : (last other : ℕ) → IsSpent n records winner best nodes last → IsSpent n records winner best nodes other → last < other → ⊥
  not-earlier last other a b lt =
      let same : a.order ≡ b.order = some a.order b.order (sym a.order_is ∙ b.order_is) in
      within-over b.order last (b.least last lt a.alternative) (subst (λ o. IsOver n (low n records) best o nodes last) same a.over)
    where
      some : (o p : List ℕ) → Some o ≡ Some p → o ≡ p
      some o p e = cc

  pub spent_is_one : (last other : ℕ) → IsSpent n records winner best nodes last → IsSpent n records winner best nodes other → last ≡ other
  spent_is_one last other a b =
      elim (cases_lt last other) [
        | inl lt ↦ absurd (not-earlier last other a b lt)
        | inr le ↦ elim (cases_lt other last) [ inl lt ↦ absurd (not-earlier other last b a lt) | inr ge ↦ omega arith ]
      ]

  pub enough_nodes : (last : ℕ) → 2 * factorial (n - 1) ≤ nodes → IsSpent n records winner best nodes last → ⊥
  enough_nodes last le s =
      let (a, b) = counts_are_few n last best (low n records) s.order s.below in
      within-over s.order last (le_trans a le, le_trans b le) s.over
