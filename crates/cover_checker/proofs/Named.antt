-- A fault of nodes names a candidate.
use Rattle.std.proofs.Common.{◌≡◌, ℕ, ◌<◌, Bool, true, false, not, ◌==◌, nat_lt, if◌then◌else◌, List, Option, Some, None, option_map, Err, refl, ap, ◌∙◌}
use Rattle.budget.specs.declared.budget.Budget.{Budget}
use Rattle.budget.specs.declared.budget.Budget.TheVariants.{Nodes, Sets}
use Rattle.irv_base.specs.Candidates.{candidates, all_but}
use Rattle.irv_base.proofs.Members.{from_candidates, from_filter, from_find}
use Rattle.assertions.specs.declared.assertion.Assertion.{Assertion}
use Rattle.cover_checker.specs.Covers.{covered_is, first_over, or_spent, spent_by, standing_order, standing_sets, verdict_on}
use Rattle.cover_checker.specs.declared.cover.CoverFault.{CoverFault}
use Rattle.cover_checker.specs.declared.cover.CoverFault.TheVariants.{Spent, SpentSets}

module _ (n winner : ℕ) (list : List Assertion) where
  over-below : (nodes last : ℕ) → first_over n winner list nodes ≡ Some last → last < n
  over-below nodes last is = from_candidates (from_filter (λ c. not (c == winner)) (candidates n) (from_find _ last (all_but n winner) is).0).0

  pub spent-below : (budget : Budget) (last : ℕ) → spent_by budget n winner list ≡ Some (Spent last) → last < n
  spent-below (Nodes nodes) last is = go (first_over n winner list nodes) refl is where
    go : (over : Option ℕ) → first_over n winner list nodes ≡ over → option_map Spent over ≡ Some (Spent last) → last < n
    go None e h = cc
    go (Some c) e h = let same : c ≡ last = cc in over-below nodes last (e ∙ ap Some same)
  spent-below (Sets sets) last is = go (nat_lt sets (standing_sets n winner list)) is where
    go : (b : Bool) → (if b then Some (SpentSets sets) else None) ≡ Some (Spent last) → last < n
    go true h = cc
    go false h = cc

  pub fault-below : (budget : Budget) (last : ℕ) → covered_is n winner list budget ≡ Err (Spent last) → last < n
  fault-below budget last is = go (spent_by budget n winner list) refl is where
    go : (o : Option CoverFault) → spent_by budget n winner list ≡ o → or_spent o (verdict_on (standing_order n winner list)) ≡ Err (Spent last) → last < n
    go None e h = cc
    go (Some fault) e h = let same : fault ≡ Spent last = cc in spent-below budget last (e ∙ ap Some same)
