-- A text comes in pieces, and whole lines of it are passed.
use Rattle.std.proofs.Common.{◌≡◌, ◌∙◌, ◌≤◌, ◌∷◌, ◌++◌, ◌==◌, [], ℕ, Bool, true, false, List, length, take, drop, nat_eq, refl, sym, ap, arith, append_assoc}
use Rattle.std.proofs.lemmas.List.{append-nil, take-append-drop}
use Rattle.std.specs.Prelude.{Option, Some, None, IfSome, is_some, not, ◌||◌, if◌then◌else◌}
use Rattle.std.specs.List.{list_any, starts_with}
use Rattle.csv.specs.Reading.{default_config, records}
use Rattle.csv_rows.specs.Rows.{Fields}
use Rattle.csv_rows.specs.Fields.{byte_order_mark, numbered, numbered_records, without_mark}
use Rattle.csv_rows.specs.Lines.{are_whole_lines, is_line_end, is_plain, is_unended}
use Rattle.csv_rows.specs.Pieces.{AtHand, IsBehind, StandApart, text_of}
use Rattle.csv_rows.proofs.Apart.{at-start, behind-feed, whole-append}
use Rattle.csv_rows.proofs.Plain.{plain-parted, plain-records}

-- one more piece
pub taken : (text piece : List ℕ) (given : List Fields) (old new : AtHand) → text_of new ≡ text_of old ++ piece →
    (are_whole_lines old.lines ≡ true → are_whole_lines new.lines ≡ true) → (is_unended old.last ≡ true → is_unended new.last ≡ true) →
    IsBehind text given old → IsBehind (text ++ piece) given new
taken text piece given old new same whole unended behind = record {
  whole = whole behind.whole;
  unended = unended behind.unended;
  says = λ more.
      ap numbered_records (append_assoc text piece more) ∙ behind.says (piece ++ more)
      ∙ ap (λ (t : List ℕ). given ++ numbered_records t)
      (sym (append_assoc (text_of old) piece more) ∙ ap (λ (t : List ℕ). t ++ more) (sym same));
}

-- it ends the last line, and has whole lines more
pub lengthened : (lines last more rest piece : List ℕ) → piece ≡ more ++ rest → ((lines ++ last) ++ more) ++ rest ≡ (lines ++ last) ++ piece
lengthened lines last more rest piece parts = append_assoc (lines ++ last) more rest ∙ ap (λ (t : List ℕ). (lines ++ last) ++ t) (sym parts)

pub still-whole : (text lines : List ℕ) → (length lines == 0 ≡ true → ⊥) → are_whole_lines lines ≡ true → are_whole_lines (text ++ lines) ≡ true
still-whole text [] some whole = absurd (some refl)
still-whole text (b ∷ lines) some whole = whole-append text b lines whole

-- lines that are plain stand apart
pub apart : (lines : List ℕ) → 3 ≤ length lines → is_plain (without_mark lines) ≡ true → (length (without_mark lines) == 0 ≡ true → ⊥) →
    StandApart lines
apart [] long plain some = absurd (omega (arith, long))
apart (a ∷ []) long plain some = absurd (omega (arith, long))
apart (a ∷ b ∷ []) long plain some = absurd (omega (arith, long))
apart (a ∷ b ∷ c ∷ text) long plain some = λ whole rest.
    let lines = a ∷ b ∷ c ∷ text in
    at-start a b c text rest whole plain (never (length (without_mark lines) == 0) some)
    ∙ ap (λ (l : List Fields). numbered l ++ numbered (records default_config rest)) (sym (plain-records (without_mark lines) plain))
    ∙ ap (λ (l : List Fields). numbered_records lines ++ l) (sym (behind-feed rest))
  where
    never : (b : Bool) → (b ≡ true → ⊥) → b ≡ false
    never true h = absurd (h refl)
    never false h = refl

-- the last line continues
pub still-unended : (last more : List ℕ) → is_unended more ≡ true → is_unended last ≡ true → is_unended (last ++ more) ≡ true
still-unended [] more h g = h
still-unended (b ∷ last) more h g = by (is_line_end b) g (still-unended last more h) where
  by : (end : Bool) → not (end || list_any is_line_end last) ≡ true → (is_unended last ≡ true → is_unended (last ++ more) ≡ true) →
      not (end || list_any is_line_end (last ++ more)) ≡ true
  by true g again = absurd cc
  by false g again = again g

-- nothing more comes
pub all-come : (text : List ℕ) (given : List Fields) (at_hand : AtHand) → IsBehind text given at_hand →
    numbered_records text ≡ given ++ numbered_records (text_of at_hand)
all-come text given at_hand behind =
    ap numbered_records (sym (append-nil text)) ∙ behind.says [] ∙ ap (λ (t : List ℕ). given ++ numbered_records t) (append-nil (text_of at_hand))

pub plain-unmarked : (text : List ℕ) → is_plain text ≡ true → is_plain (without_mark text) ≡ true
plain-unmarked text h = by (starts_with nat_eq text byte_order_mark) where
  by : (marked : Bool) → is_plain (if marked then drop 3 text else text) ≡ true
  by true = (plain-parted (take 3 text) (drop 3 text) (ap is_plain (take-append-drop 3 text) ∙ h)).1
  by false = h

pub some-apart : {T : Type 0} (records : Option T) (lines : List ℕ) → 3 ≤ length lines → is_some records ≡ is_plain (without_mark lines) →
    (length (without_mark lines) == 0 ≡ true → ⊥) → IfSome records (λ _. StandApart lines)
some-apart None lines long plain some = tt
some-apart (Some records) lines long plain some = apart lines long (sym plain) some
