-- What the records of a manifest spell, and which record is the first to break which rule. Each rule is stated only in terms of records.
use Rattle.std.specs.Prelude.{◌≡◌, ◌⊎◌, ◌↔◌, ◌≤◌, ◌<◌, ℕ, ◌+◌, false, true, not, ◌||◌, nat_le, if◌then◌else◌, List, [], ◌∷◌, map, length, slice_index_or, Option, Some, None, Ok, Err, codes}
use Rattle.std.specs.List.{slice_get, sum}
use Rattle.csv_rows.specs.Broken.{IsFirstBroken}
use Rattle.csv_rows.specs.Numbers.{number_of}
use Rattle.csv_rows.specs.Rows.{Fields}
use Rattle.irv_base.specs.Names.{Id, is_among}
use Rattle.manifest.specs.Cards.{AreBatches, Batches, is_batch_id, is_count}
use Rattle.manifest.specs.Manifest.{is_header, manifest_in}
use Rattle.manifest.specs.declared.fault.MRule.{MRule}
use Rattle.manifest.specs.declared.fault.MRule.TheVariants.{M1, M2, M3, M4, M5, M6}
use Rattle.irv_base.specs.declared.limits.TheConstants.{MOST_CARDS}

-- ---- what is spelled

-- the header, and a record for each batch: its id, and its number of cards in digits
pub record Spells (rows : List Fields) (batches : Batches) : Type 0 where
  pub header : slice_get rows 0 ≡ Some (codes "batch" ∷ codes "cards" ∷ [])
  pub a_row_each : length rows ≡ 1 + length batches.ids
  pub each : (i : ℕ) → i < length batches.ids → (text : List ℕ) ×
      (slice_get rows (i + 1) ≡ Some (slice_index_or batches.ids i [] ∷ text ∷ [])) ×
      (number_of text ≡ Some (slice_index_or batches.counts i 0))
  pub some : 1 ≤ length batches.ids
  pub sound : AreBatches batches.ids batches.counts

-- ---- what is broken

-- the number that is written this way; if there is none, 0, which adds nothing
abbrev pub number_or_0 : Option ℕ → ℕ
number_or_0 None = 0
number_or_0 (Some n) = n

abbrev pub row_id : Fields → Id
row_id [] = []
row_id (id ∷ rest) = id

abbrev pub row_cards : Fields → ℕ
row_cards [] = 0
row_cards (id ∷ []) = 0
row_cards (id ∷ number ∷ rest) = number_or_0 (number_of number)

-- The first rule that a batch's record breaks, after the records of other batches. It must have two fields. Its id must be an id and be in
-- none of those records. It must have a number of cards, and its cards together with theirs mustn't be too many.
abbrev pub broken_rule : List Fields → Fields → Option MRule
broken_rule before [] = Some M2
broken_rule before (id ∷ []) = Some M2
broken_rule before (id ∷ number ∷ []) =
    if not (is_batch_id id) || is_among (map row_id before) id then Some M4
    else (if is_count (number_or_0 (number_of number)) then
    (if nat_le (sum (map row_cards before) + number_or_0 (number_of number)) MOST_CARDS then None
    else Some M5) else Some M3)
broken_rule before (id ∷ number ∷ next ∷ rest) = Some M2

-- there is no header, or there is no batch, or the record of a batch breaks a rule; the first batch's record has number 2
abbrev pub IsRefusedIn : List Fields → MRule → ℕ → Type 0
IsRefusedIn [] rule at = (rule ≡ M1) × (at ≡ 1)
IsRefusedIn (header ∷ batches) rule at =
    ((is_header header ≡ false) × (rule ≡ M1) × (at ≡ 1))
    ⊎ ((is_header header ≡ true) × (batches ≡ []) × (rule ≡ M6) × (at ≡ 1))
    ⊎ ((is_header header ≡ true) × (k : ℕ) × (at ≡ k + 2)
    × IsFirstBroken broken_rule batches k rule)

-- ---- the laws

abbrev pub RecordsSpellBatches : Type 0
RecordsSpellBatches =
    (rows : List Fields) (batches : Batches) → (manifest_in rows ≡ Ok batches) ↔ Spells rows batches

abbrev pub FirstBrokenRuleRefuses : Type 0
FirstBrokenRuleRefuses =
    (rows : List Fields) (rule : MRule) (at : ℕ) →
    (manifest_in rows ≡ Err (record { rule = rule; at = at })) ↔ IsRefusedIn rows rule at
