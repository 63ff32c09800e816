-- The records of a text of comma-separated fields, and those that a reader has left.
use Rattle.std.specs.Prelude.{◌≡◌, ℕ, ◌+◌, Bool, true, false, List, [], length, Option, Some, None, IsSome, if◌then◌else◌}
use Rattle.std.proofs.Common.{Bor}
use Rattle.csv.specs.Machine.{ends_at_end}
use Rattle.csv.specs.Reading.{Ready, default_config, is_flexible, reader_config, reader_state, reader_trim, records, records_from, source_of, strip_bom}
use Rattle.csv.specs.declared.parser.State.{State}
use Rattle.csv.specs.declared.reader.Reader.{Reader}
use Rattle.csv.specs.declared.reader.Trim.TheVariants as trim

-- a field is a list of bytes, and a record a list of fields
abbrev pub Fields : Type 0
Fields = List (List ℕ)

abbrev pub records_of : List ℕ → List Fields
records_of text = records default_config (strip_bom text)

-- ---- a reader that is between two records of a text

abbrev pub bytes_left : Reader (Bor (List ℕ)) → Option (List ℕ)
bytes_left reader = source_of (λ text. Some text.now) reader

abbrev pub records_after : State → Option (List ℕ) → List Fields
records_after state None = []
records_after state (Some bytes) = records_from default_config (length bytes + 1) state bytes

abbrev pub records_left : Bool → Reader (Bor (List ℕ)) → List Fields
records_left ended reader =
    if ended then [] else records_after (reader_state reader) (bytes_left reader)

pub record IsBetweenRecords (reader : Reader (Bor (List ℕ))) : Type 0 where
  pub config : reader_config reader ≡ default_config
  pub flexible : is_flexible reader ≡ true
  pub trim : reader_trim reader ≡ trim.None
  pub ready : Ready reader
  pub between : ends_at_end (reader_state reader) ≡ false
  pub known : IsSome (bytes_left reader)

-- ---- records in order

-- the record that was read last, and those that are still to be read
pub record Reading : Type 0 where
  pub row : Fields
  pub left : List Fields
