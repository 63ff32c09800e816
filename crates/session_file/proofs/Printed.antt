-- The printed risks of a round, in order.
use Rattle.std.proofs.Common.{inl, inr, ◌≡◌, ◌≢◌, ◌==◌, ℕ, ◌+◌, ◌<◌, true, false, List, length, get_or, sym, ap, ◌∙◌, arith}
use Rattle.std.specs.Prelude.{zip}
use Rattle.std.specs.Cmp.Lexicographic.{pointwise, bytes_decides, same_text, unequal}
use Rattle.std.proofs.lemmas.Bool.{cases_Bool}
use Rattle.std.proofs.lemmas.Grind.{same_number_lists}
use Rattle.std.proofs.lemmas.List.{get_or-map, length-map}
use Rattle.std.proofs.lemmas.Slice.Zip.{get_or-zip, length-zip}
use Rattle.km_risk.specs.declared.draws.Counts.{Counts}
use Rattle.km_risk.specs.Printed.{printed_risk}
use Rattle.session_state.specs.Sessions.{risks_of}

module _ (cards gamma : ℕ) (margins : List ℕ) (counts : List Counts) (same : length counts ≡ length margins) where
  zipped : length (zip margins counts) ≡ length margins
  zipped = omega (arith, length-zip margins counts, same)

  pub length-risks : length (risks_of cards gamma margins counts) ≡ length margins
  length-risks = length-map (zip margins counts) (λ claim. printed_risk cards claim.0 gamma claim.1) ∙ zipped

  pub risk-at : (i : ℕ) (d : Counts) → i < length margins → get_or (risks_of cards gamma margins counts) i 0 ≡ printed_risk cards (get_or margins i 0) gamma
      (get_or counts i d)
  risk-at i d within =
      let inside : i < length (zip margins counts) = omega (arith, zipped) in
      let counted : i < length counts = omega (arith, same) in
      get_or-map (λ claim. printed_risk cards claim.0 gamma claim.1) (zip margins counts) i (0, d) 0 inside
      ∙ ap (λ claim. printed_risk cards claim.0 gamma claim.1) (get_or-zip margins counts i (0, d) within counted)

  -- a different number of risks
  pub too_few : (risks : List ℕ) → (length risks ≢ length margins) → pointwise ◌==◌ risks (risks_of cards gamma margins counts) ≡ false
  too_few risks apart = unequal ◌==◌ risks (risks_of cards gamma margins counts) (λ e. apart (e ∙ length-risks))

  -- a different risk for some claim
  pub another : (risks : List ℕ) (i : ℕ) (d : Counts) → i < length margins →
      (get_or risks i 0 ≢ printed_risk cards (get_or margins i 0) gamma (get_or counts i d)) →
      pointwise ◌==◌ risks (risks_of cards gamma margins counts) ≡ false
  another risks i d within apart =
      elim (cases_Bool (pointwise ◌==◌ risks (risks_of cards gamma margins counts))) [
        | inl t ↦ absurd (apart (ap (λ ns. get_or ns i 0) (same_text risks (risks_of cards gamma margins counts) (sym t)) ∙ risk-at i d within))
        | inr f ↦ f
      ]

  pub all_printed : (risks : List ℕ) (end : ℕ) → length risks ≡ length margins → length margins < end + 1 →
      ((k : ℕ) → k < end → get_or risks k 0 ≡ get_or (risks_of cards gamma margins counts) k 0) → pointwise ◌==◌ risks (risks_of cards gamma margins counts)
      ≡ true
  all_printed risks end long past each =
      (bytes_decides risks (risks_of cards gamma margins counts)).1
      (same_number_lists risks (risks_of cards gamma margins counts) (long ∙ sym length-risks) (λ k within. each k (omega (arith, long))))
