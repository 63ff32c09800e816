-- Bytes that are read as given records: the laws of records, restated for bytes.
use Rattle.std.specs.Prelude.{◌≡◌, ◌↔◌, ◌<◌, ℕ, Bool, not, ◌&&◌, nat_le, List, [], ◌∷◌, ◌++◌, length, Option, None, Ok, Err, All, IsTrue}
use Rattle.std.specs.List.{list_all}
use Rattle.csv.specs.Writing.{default_writer, row_text}
use Rattle.csv_rows.specs.Fields.{is_blank_record, numbered_records}
use Rattle.csv_rows.specs.Rows.{Fields}
use Rattle.irv_base.specs.Names.{Id, space, tilde, touches_space}
use Rattle.ballots.specs.Ballots.{BallotFile}
use Rattle.ballots.specs.Grammar.{ballots_from, ballots_of}
use Rattle.ballot_reader.specs.Laws.{HasSpelling, spelling}
use Rattle.ballots.specs.declared.fault.BRule.{BRule}
use Rattle.ballot_laws.specs.Breaking.{IsRefused}
use Rattle.ballot_laws.specs.Spelling.{Spells}

-- ---- a file is judged by the records of its bytes

abbrev pub BytesSpellFile : Type 0
BytesSpellFile =
    (asked : Option Id) (bytes : List ℕ) (file : BallotFile) →
    (ballots_of bytes asked ≡ Ok file) ↔ Spells asked (numbered_records bytes) file

abbrev pub FirstBrokenRuleRefusesBytes : Type 0
FirstBrokenRuleRefusesBytes =
    (asked : Option Id) (bytes : List ℕ) (rule : BRule) (at : ℕ) →
    (ballots_of bytes asked ≡ Err (record { rule = rule; at = at }))
    ↔ IsRefused asked (numbered_records bytes) rule at

-- ---- plain records are those of some bytes

-- printable ASCII, without a space at either end
abbrev pub is_plain : List ℕ → Bool
is_plain field =
    list_all (λ b. nat_le space b && nat_le b tilde) field && not (touches_space field)

-- the record has plain fields, and isn't blank
abbrev pub is_plain_record : Fields → Bool
is_plain_record row =
    list_all is_plain row && nat_le 1 (length row) && not (is_blank_record row)

-- how the crate csv writes records: one line each, commas between fields, and quotes around a field that needs them
abbrev pub written : List Fields → List ℕ
written [] = []
written (row ∷ rows) = row_text default_writer row ++ written rows

abbrev pub WrittenIsRead : Type 0
WrittenIsRead =
    (rows : List Fields) → IsTrue (list_all is_plain_record rows) →
    All (λ b. b < 128) (written rows) × (numbered_records (written rows) ≡ rows)

-- bytes written this way are judged as the records are
abbrev pub WrittenIsJudged : Type 0
WrittenIsJudged =
    (asked : Option Id) (rows : List Fields) → IsTrue (list_all is_plain_record rows) →
    ballots_of (written rows) asked ≡ ballots_from asked rows

-- the records that spell one contest and its ballots are written so that they are read back as that contest and those ballots
abbrev pub SpellingIsRead : Type 0
SpellingIsRead =
    (file : BallotFile) → HasSpelling file →
    All (λ b. b < 128) (written (spelling file))
    × (ballots_of (written (spelling file)) None ≡ Ok file)
