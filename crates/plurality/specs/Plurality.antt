-- Plurality: the winner is the candidate with strictly the most first preferences.
use Rattle.std.specs.Prelude.{◌≢◌, ℕ, ◌<◌, ◌==◌, max, List, count_by, filter, fold, map}
use Rattle.irv_base.specs.Candidates.{candidates}
use Rattle.irv_base.specs.Records.{is_first}

-- the number of records that rank c first
abbrev pub first_preferences : List (List ℕ) → ℕ → ℕ
first_preferences records c = count_by (λ ranking. is_first ranking c) records

-- among n candidates, every other candidate has fewer first preferences than the winner
abbrev pub WinsPlurality : ℕ → List (List ℕ) → ℕ → Type 0
WinsPlurality n records winner =
    (other : ℕ) → other < n → other ≢ winner →
    first_preferences records other < first_preferences records winner

-- ---- who has the most of them

abbrev pub greatest : ℕ → List (List ℕ) → ℕ
greatest n records = fold max 0 (map (first_preferences records) (candidates n))

abbrev pub leaders : ℕ → List (List ℕ) → List ℕ
leaders n records =
    filter (λ c. first_preferences records c == greatest n records) (candidates n)
