-- What a manifest says, or why it is refused and at which place.
use Rattle.std.specs.Prelude.{ℕ, ◌+◌, Bool, false, not, ◌&&◌, ◌||◌, nat_le, if◌then◌else◌, List, [], ◌∷◌, ◌++◌, Option, Some, None, Result, Ok, Err, codes}
use Rattle.std.specs.List.{sum}
use Rattle.csv_rows.specs.Fields.{numbered_records}
use Rattle.csv_rows.specs.Numbers.{number_of}
use Rattle.csv_rows.specs.Rows.{Fields}
use Rattle.file_fault.specs.Refusals.{Refusal, and_then, refused}
use Rattle.irv_base.specs.Names.{Id, is_same, is_among}
use Rattle.manifest.specs.Cards.{Batches, is_batch_id, is_count}
use Rattle.manifest.specs.declared.batch.Batch.{Batch}
use Rattle.manifest.specs.declared.fault.MRule.{MRule}
use Rattle.manifest.specs.declared.fault.MRule.TheVariants.{M1, M2, M3, M4, M5, M6}
use Rattle.irv_base.specs.declared.limits.TheConstants.{MOST_CARDS}

-- ---- the first record

abbrev pub is_header : Fields → Bool
is_header [] = false
is_header (first ∷ []) = false
is_header (first ∷ second ∷ []) = is_same first (codes "batch") && is_same second (codes "cards")
is_header (first ∷ second ∷ next ∷ rest) = false

-- ---- a batch's record: its id, and the number of its cards

-- the batch with its number of cards, or the rule that the number breaks when there are this many other cards
abbrev pub batch_with : Id → ℕ → Option ℕ → Result Batch MRule
batch_with id others None = Err M3
batch_with id others (Some n) =
    if is_count n then
    (if nat_le (others + n) MOST_CARDS then Ok (record { id = id; cards = n })
    else Err M5) else Err M3

-- the batch, or the first rule that its record breaks, after batches with these ids and this many cards
abbrev pub batch_of : List Id → ℕ → Fields → Result Batch MRule
batch_of ids others [] = Err M2
batch_of ids others (id ∷ []) = Err M2
batch_of ids others (id ∷ number ∷ []) =
    if not (is_batch_id id) || is_among ids id then Err M4
    else batch_with id others (number_of number)
batch_of ids others (id ∷ number ∷ next ∷ rest) = Err M2

-- ---- the file

abbrev pub at_end : List Id → List ℕ → Result Batches (Refusal MRule)
at_end [] counts = refused M6 1
at_end (id ∷ ids) counts = Ok (record { ids = id ∷ ids; counts = counts })

-- batches with these ids and numbers of cards, followed by the records from number at on
abbrev pub batches_after : List Id → List ℕ → ℕ → List Fields → Result Batches (Refusal MRule)
batches_after ids counts at [] = at_end ids counts
batches_after ids counts at (row ∷ rows) =
    and_then at (batch_of ids (sum counts) row) (λ batch.
    batches_after (ids ++ batch.id ∷ []) (counts ++ batch.cards ∷ []) (at + 1) rows)

abbrev pub manifest_in : List Fields → Result Batches (Refusal MRule)
manifest_in [] = refused M1 1
manifest_in (header ∷ rows) = if is_header header then batches_after [] [] 2 rows else refused M1 1

abbrev pub manifest_of : List ℕ → Result Batches (Refusal MRule)
manifest_of bytes = manifest_in (numbered_records bytes)
