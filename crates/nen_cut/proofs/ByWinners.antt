-- Whether some NEB of the floor refutes a step, found from the winners of the true NEBs.
use Rattle.std.proofs.Common.{◌≡◌, ℕ, ◌+◌, ◌<◌, Bool, true, false, not, ◌&&◌, ◌||◌, nat_le, List, ◌∷◌, filter, length, get_or, drop, ap, ◌∙◌}
use Rattle.std.specs.List.{list_any}
use Rattle.std.proofs.lemmas.Bool.{and_parts}
use Rattle.std.proofs.lemmas.List.{drop_more}
use Rattle.std.proofs.lemmas.Map.Views.{any-filter_same}
use Rattle.irv_base.specs.Candidates.{candidates, has}
use Rattle.assertions.specs.declared.assertion.Assertion.TheVariants.{Neb}
use Rattle.assertions.specs.Assertions.{is_proper, is_true, true_margin}
use Rattle.assertions.specs.Steps.{more}
use Rattle.fewest.specs.Flows.{is_barred}
use Rattle.fewest.specs.Nens.{is_enough}

-- whether the NEB of w over c bars the step
abbrev pub bars : ℕ → List (List ℕ) → ℕ → ℕ → ℕ → ℕ → Bool
bars n records floor set c w = is_enough n records floor (Neb w c) && not (has (more set c) w)

module _ (n : ℕ) (records : List (List ℕ)) (floor set c : ℕ) where
  true-bars : (w : ℕ) → bars n records floor set c w ≡ true → is_true records (Neb w c) ≡ true
  true-bars w t =
      let (enough, out) = and_parts (is_enough n records floor (Neb w c)) (not (has (more set c) w)) t in
      let (proper, rest) = and_parts (is_proper n (Neb w c)) (is_true records (Neb w c) && nat_le floor (true_margin records (Neb w c))) enough in
      let (is, reaches) = and_parts (is_true records (Neb w c)) (nat_le floor (true_margin records (Neb w c))) rest in
      is

  -- it is enough to try the winners of true NEBs
  pub by-winners : list_any (bars n records floor set c) (filter (λ w. is_true records (Neb w c)) (candidates n)) ≡ is_barred n records floor set c
  by-winners = any-filter_same (bars n records floor set c) (λ w. is_true records (Neb w c)) true true-bars (candidates n)

  at-next : (ws : List ℕ) (i w : ℕ) → i < length ws → get_or ws i 0 ≡ w → list_any (bars n records floor set c) (drop i ws)
      ≡ (bars n records floor set c w || list_any (bars n records floor set c) (drop (i + 1) ws))
  at-next ws i w within at = ap (list_any (bars n records floor set c)) (drop_more ws i 0 within ∙ ap (λ x. x ∷ drop (i + 1) ws) at)

  pub one-bars : (ws : List ℕ) (i w : ℕ) → i < length ws → get_or ws i 0 ≡ w → bars n records floor set c w ≡ true →
      list_any (bars n records floor set c) (drop i ws) ≡ true
  one-bars ws i w within at t = at-next ws i w within at ∙ ap (λ b. b || list_any (bars n records floor set c) (drop (i + 1) ws)) t

  pub bars-not : (ws : List ℕ) (i w : ℕ) → i < length ws → get_or ws i 0 ≡ w → bars n records floor set c w ≡ false →
      list_any (bars n records floor set c) (drop i ws) ≡ list_any (bars n records floor set c) (drop (i + 1) ws)
  bars-not ws i w within at f = at-next ws i w within at ∙ ap (λ b. b || list_any (bars n records floor set c) (drop (i + 1) ws)) f
