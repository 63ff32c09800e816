-- The outcome of a plurality contest, and the claims that its winner has more first preferences than each loser.
use Rattle.std.specs.Prelude.{ℕ, ◌-◌, if◌then◌else◌, List, [], ◌∷◌, map, Result, Ok, Err}
use Rattle.irv_base.specs.Candidates.{all_but, set_of}
use Rattle.irv_base.specs.Records.{is_first}
use Rattle.session_state.specs.Claims.{audited_by}
use Rattle.session_state.specs.Draws.{Audited}
use Rattle.plurality.specs.Plurality.{first_preferences, greatest, leaders}

-- the winner, the losers in the order of their numbers, and for each loser the margin in votes
pub record Outcome : Type 0 where
  pub winner : ℕ
  pub losers : List ℕ
  pub margins : List ℕ

-- the set of the candidates who share the greatest number of first preferences, and that number
pub record Tie : Type 0 where
  pub tied : ℕ
  pub tally : ℕ

-- ---- what the records say about n candidates

module _ (n : ℕ) (records : List (List ℕ)) where
  abbrev pub margin : ℕ → ℕ → ℕ
  margin winner loser = first_preferences records winner - first_preferences records loser

  abbrev pub won_by : ℕ → Outcome
  won_by winner = record {
    winner = winner;
    losers = all_but n winner;
    margins = map (margin winner) (all_but n winner);
  }

  -- a sole leader has won
  abbrev pub outcome_with : List ℕ → Result Outcome Tie
  outcome_with (winner ∷ []) = Ok (won_by winner)
  outcome_with tied = Err (record { tied = set_of tied; tally = greatest n records })

  abbrev pub outcome_of : Result Outcome Tie
  outcome_of = outcome_with (leaders n records)

-- ---- the claims

-- 2 for the winner, 0 for the loser, and 1 for another candidate or for none
abbrev pub lead : ℕ → ℕ → List ℕ → ℕ
lead winner loser ranking =
    if is_first ranking winner then 2 else (if is_first ranking loser then 0 else 1)

-- the values of the claims, one function for each loser
abbrev pub values_of : Outcome → List (List ℕ → ℕ)
values_of outcome = map (lead outcome.winner) outcome.losers

-- the claims, each with its margin
abbrev pub claims_of : Outcome → List Audited
claims_of outcome = audited_by (values_of outcome) outcome.margins
