-- The risks of the claims, in order.
use Rattle.std.proofs.Common.{◌≡◌, ◌∙◌, ℕ, zero, suc, ◌+◌, ◌<◌, List, [], ◌∷◌, ◌++◌, get_or, length, take, refl, sym, ap, arith}
use Rattle.std.proofs.lemmas.List.{take_more}
use Rattle.km_risk.specs.declared.draws.Counts.{Counts}
use Rattle.km_risk.specs.Printed.{printed_risk}
use Rattle.session_state.specs.Sessions.{risks_of}

module _ (cards gamma : ℕ) where
  risk-at : (margins : List ℕ) (counts : List Counts) (j d m : ℕ) (c : Counts) → j < length margins → j < length counts →
      get_or (risks_of cards gamma margins counts) j d ≡ printed_risk cards (get_or margins j m) gamma (get_or counts j c)
  risk-at [] counts j d m c a b = absurd (omega arith)
  risk-at (margin ∷ margins) [] j d m c a b = absurd (omega arith)
  risk-at (margin ∷ margins) (x ∷ counts) zero d m c a b = refl
  risk-at (margin ∷ margins) (x ∷ counts) (suc j) d m c a b = risk-at margins counts j d m c (omega arith) (omega arith)

  pub length-risks : (margins : List ℕ) (counts : List Counts) → length counts ≡ length margins → length (risks_of cards gamma margins counts) ≡ length counts
  length-risks [] [] same = refl
  length-risks [] (x ∷ counts) same = absurd (omega arith)
  length-risks (margin ∷ margins) [] same = absurd (omega arith)
  length-risks (margin ∷ margins) (x ∷ counts) same = ap suc (length-risks margins counts (omega arith))

  pub one-risk-more : (margins : List ℕ) (counts : List Counts) (all : List ℕ) (j r m : ℕ) (c : Counts) → length counts ≡ length margins → j < length counts →
      all ≡ take j (risks_of cards gamma margins counts) → r ≡ printed_risk cards (get_or margins j m) gamma (get_or counts j c) →
      all ++ r ∷ [] ≡ take (j + 1) (risks_of cards gamma margins counts)
  one-risk-more margins counts all j r m c same below so-far is =
      let risks : List ℕ = risks_of cards gamma margins counts in
      let here = risk-at margins counts j r m c (omega arith) below ∙ sym is in
      let long = length-risks margins counts same in
      ap (λ xs. xs ++ r ∷ []) so-far ∙ ap (λ x. take j risks ++ x ∷ []) (sym here) ∙ sym (take_more risks j r (omega (arith, long)))
