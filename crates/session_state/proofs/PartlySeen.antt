-- What is seen on all cards if only some were looked at.
use Rattle.std.proofs.Common.{◌≡◌, ℕ, suc, ◌+◌, ◌-◌, ◌<◌, ◌≤◌, List, [], ◌∷◌, map, length, get_or, Option, Some, None, IfSome, subst, arith}
use Rattle.std.specs.List.{range_with_len}
use Rattle.std.specs.Option.{unwrap_or}
use Rattle.std.proofs.lemmas.List.FromFn.{get_or-map-range_with_len}
use Rattle.assorters.specs.declared.seen.Seen.{Seen}
use Rattle.assorters.specs.declared.seen.Seen.TheVariants.{Missing}
use Rattle.session_state.specs.Draws.{seen_of_all}
use Rattle.session_state.specs.Readings.{IsReading, AreReadings}
use Rattle.session_state.specs.Laws.{PartlySeenLaw}

module _ (looked_at : ℕ → Option Seen) where
  or_missing : (ranking : List ℕ) (o : Option Seen) → IfSome o (IsReading ranking) → IsReading ranking (unwrap_or o Missing)
  or_missing ranking None h = tt
  or_missing ranking (Some seen) h = h

  readings : (a : ℕ) (actual : List (List ℕ)) →
      ((k : ℕ) → k < length actual → IfSome (looked_at (a + k)) (IsReading (get_or actual k []))) →
      AreReadings actual (map (λ card. unwrap_or (looked_at card) Missing) (range_with_len a (length actual)))
  readings a [] h = tt
  readings a (r ∷ actual) h =
      let at : a + 0 ≡ a = omega arith in (
        or_missing r (looked_at a) (subst (λ n. IfSome (looked_at n) (IsReading r)) at (h 0 (omega arith))),
        readings (a + 1) actual (λ k below.
            let on : a + suc k ≡ a + 1 + k = omega arith in
            subst (λ n. IfSome (looked_at n) (IsReading (get_or actual k []))) on (h (suc k) (omega arith))),
      )

  pub kept : (cards card : ℕ) → 1 ≤ card → card ≤ cards → get_or (seen_of_all looked_at cards) (card - 1) Missing ≡ unwrap_or (looked_at card) Missing
  kept cards card some within =
      get_or-map-range_with_len (λ card. unwrap_or (looked_at card) Missing) 1 cards (card - 1) card Missing (omega arith) (omega arith)

  is_kept : (x : Seen) (o : Option Seen) → x ≡ unwrap_or o Missing → IfSome o (λ seen. x ≡ seen)
  is_kept x None h = tt
  is_kept x (Some seen) h = h

pub partly_seen_law : PartlySeenLaw
partly_seen_law looked_at actual h = (
  readings looked_at 1 actual (λ k below.
      let back : 1 + k - 1 ≡ k = omega arith in
      subst (λ n. IfSome (looked_at (1 + k)) (IsReading (get_or actual n []))) back (h (1 + k) (omega arith) (omega arith))),
  λ card some within. is_kept looked_at (get_or (seen_of_all looked_at (length actual)) (card - 1) Missing) (looked_at card)
      (kept looked_at (length actual) card some within),
)
