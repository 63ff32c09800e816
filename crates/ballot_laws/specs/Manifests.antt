-- The laws of a manifest's records, restated for bytes.
use Rattle.std.specs.Prelude.{◌≡◌, ◌↔◌, ◌≤◌, ◌<◌, ℕ, List, [], ◌∷◌, length, Ok, Err, All, codes, decimal}
use Rattle.csv_rows.specs.Fields.{numbered_records}
use Rattle.csv_rows.specs.Rows.{Fields}
use Rattle.irv_base.specs.Names.{Id}
use Rattle.manifest.specs.Cards.{AreBatches, Batches}
use Rattle.manifest.specs.Manifest.{manifest_of}
use Rattle.manifest.specs.Spelling.{IsRefusedIn, Spells}
use Rattle.manifest.specs.declared.fault.MRule.{MRule}
use Rattle.ballot_laws.specs.Bytes.{written}

abbrev pub BytesSpellBatches : Type 0
BytesSpellBatches =
    (bytes : List ℕ) (batches : Batches) →
    (manifest_of bytes ≡ Ok batches) ↔ Spells (numbered_records bytes) batches

abbrev pub FirstBrokenRuleRefusesManifest : Type 0
FirstBrokenRuleRefusesManifest =
    (bytes : List ℕ) (rule : MRule) (at : ℕ) →
    (manifest_of bytes ≡ Err (record { rule = rule; at = at }))
    ↔ IsRefusedIn (numbered_records bytes) rule at

-- ---- what is written

-- a record for each batch: its id, and its number of cards
abbrev pub batch_records : List Id → List ℕ → List Fields
batch_records [] counts = []
batch_records (id ∷ ids) [] = []
batch_records (id ∷ ids) (n ∷ counts) = (id ∷ decimal n ∷ []) ∷ batch_records ids counts

abbrev pub manifest_records : Batches → List Fields
manifest_records batches =
    (codes "batch" ∷ codes "cards" ∷ []) ∷ batch_records batches.ids batches.counts

abbrev pub WrittenManifestIsRead : Type 0
WrittenManifestIsRead =
    (batches : Batches) → AreBatches batches.ids batches.counts → 1 ≤ length batches.ids →
    All (λ b. b < 128) (written (manifest_records batches))
    × (manifest_of (written (manifest_records batches)) ≡ Ok batches)
