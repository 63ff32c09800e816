-- The first of some records that breaks a rule.
use Rattle.std.specs.Prelude.{◌≡◌, ◌<◌, ℕ, List, take, Option, Some, None}
use Rattle.std.specs.List.{slice_get}
use Rattle.csv_rows.specs.Rows.{Fields}

-- of these rows, the one at place k breaks this rule, and none before it breaks any; `broken` is the rule that a row breaks after the ones
-- before it
pub record IsFirstBroken
    {Rule : Type 0} (broken : List Fields → Fields → Option Rule) (rows : List Fields) (k : ℕ)
    (rule : Rule)
    : Type 0 where
  pub row : Fields
  pub there : slice_get rows k ≡ Some row
  pub breaks : broken (take k rows) row ≡ Some rule
  pub earlier : (j : ℕ) (other : Fields) → j < k → slice_get rows j ≡ Some other →
      broken (take j rows) other ≡ None
