-- A tie: candidates who share the greatest number of first preferences.
use Rattle.std.specs.Prelude.{◌≡◌, ◌≢◌, ◌↔◌, ℕ, ◌<◌, ◌≤◌, List, IsTrue}
use Rattle.irv_base.specs.Candidates.{has}
use Rattle.plurality.specs.Plurality.{first_preferences}
use Rattle.plurality.specs.Plural.{Tie}

-- two of the candidates share the greatest number of first preferences, and the set has exactly the candidates who share it
pub record AreTied (n : ℕ) (records : List (List ℕ)) (tie : Tie) : Type 0 where
  pub most : (c : ℕ) → c < n → first_preferences records c ≤ tie.tally
  pub tied_are : (c : ℕ) →
      (IsTrue (has tie.tied c) ↔ ((c < n) × (first_preferences records c ≡ tie.tally)))
  pub one : ℕ
  pub other : ℕ
  pub differ : one ≢ other
  pub both_below : (one < n) × (other < n)
  pub both_lead : (first_preferences records one ≡ tie.tally)
      × (first_preferences records other ≡ tie.tally)
