-- A text that comes in pieces, some of whose records have already been read.
use Rattle.std.specs.Prelude.{◌≡◌, ℕ, Bool, not, ◌&&◌, ◌==◌, nat_le, List, ◌∷◌, ◌++◌, length, IsTrue}
use Rattle.csv_rows.specs.Fields.{byte_order_mark, numbered_records, without_mark}
use Rattle.csv_rows.specs.Lines.{are_whole_lines, is_plain, is_unended}
use Rattle.csv_rows.specs.Rows.{Fields}
use Rattle.csv_rows.specs.declared.pieces.TheConstants.{MOST_AT_HAND}

-- what is available: whole lines, and the last line, which may still grow
pub record AtHand : Type 0 where
  pub lines : List ℕ
  pub last : List ℕ

abbrev pub text_of : AtHand → List ℕ
text_of at_hand = at_hand.lines ++ at_hand.last

-- these records of the text were read, and what is available comes after them, whatever comes next
pub record IsBehind (text : List ℕ) (rows : List Fields) (at_hand : AtHand) : Type 0 where
  pub whole : IsTrue (are_whole_lines at_hand.lines)
  pub unended : IsTrue (is_unended at_hand.last)
  pub says : (more : List ℕ) →
      numbered_records (text ++ more) ≡ rows ++ numbered_records (text_of at_hand ++ more)

-- lines that are looked at: long enough for a byte order mark to be whole, not too many, and plain after a mark
abbrev pub can_be_read : List ℕ → Bool
can_be_read lines =
    nat_le (length byte_order_mark) (length lines) && nat_le (length lines) MOST_AT_HAND
    && not (length (without_mark lines) == 0) && is_plain (without_mark lines)

-- If these are whole lines, they have the same records whatever comes after them, and what comes after them has the same records that it
-- has after a line feed.
abbrev pub StandApart : List ℕ → Type 0
StandApart lines =
    IsTrue (are_whole_lines lines) → (rest : List ℕ) →
    numbered_records (lines ++ rest) ≡ numbered_records lines ++ numbered_records (0x0A ∷ rest)
