-- Whole plain lines at the front of a text have the same records, whatever comes after them.
use Rattle.std.proofs.Common.{le_refl, ◌≡◌, ◌∙◌, ◌<◌, ◌≤◌, ◌∷◌, ◌++◌, ◌==◌, [], ℕ, zero, suc, Bool, true, false, List, length, refl, sym, ap, ap₂, arith, inl, inr}
use Rattle.std.specs.Prelude.{if◌then◌else◌, not, nat_eq, ◌&&◌}
use Rattle.std.specs.List.{starts_with}
use Rattle.std.proofs.lemmas.Bool.{cases_Bool}
use Rattle.std.proofs.lemmas.List.{append-nil}
use Rattle.csv.specs.Reading.{default_config, records}
use Rattle.csv_rows.specs.Rows.{Fields, records_of}
use Rattle.csv_rows.specs.Fields.{byte_order_mark, is_blank_record, numbered, numbered_records, trimmed_fields, without_mark}
use Rattle.csv_rows.specs.Lines.{are_whole_lines, behind_line, fields_in, is_line_end, is_odd_byte, is_plain, with_front}
use Rattle.csv_rows.proofs.Plain.{behind-shorter, is_plain_line, line-blank, line-full, line-step, none-left, plain-behind, plain-line, plain-parts, unmarked-first}

-- ---- the first of them

-- what comes after whole lines changes nothing in the first of them
record FirstLine (lines rest : List ℕ) : Type 0 where
  fields : fields_in (lines ++ rest) ≡ fields_in lines
  behind : behind_line (lines ++ rest) ≡ behind_line lines ++ rest
  plain : is_plain_line (lines ++ rest) ≡ is_plain_line lines
  whole : are_whole_lines (behind_line lines) ≡ true

first-line : (b : ℕ) (text rest : List ℕ) → are_whole_lines (b ∷ text) ≡ true → FirstLine (b ∷ text) rest
first-line b [] rest whole = record { fields = rw whole refl; behind = rw whole refl; plain = rw whole refl; whole = rw whole refl }
first-line b (next ∷ text) rest whole =
    let more = first-line next text rest whole in
    elim (cases_Bool (is_line_end b)) [
      | inl line ↦ record { fields = rw line refl; behind = rw line refl; plain = rw line refl; whole = rw line whole }
      | inr on ↦ record {
        fields = rw on (ap (λ (f : Fields). if b == 44 then [] ∷ f else with_front (b ∷ []) f) more.fields);
        behind = rw on more.behind;
        plain = rw on (ap (λ p. not (is_odd_byte b) && p) more.plain);
        whole = rw on more.whole;
      }
    ]

-- ---- all of them

over : (fields : Fields) (all front rest : List Fields) → numbered all ≡ numbered front ++ numbered rest →
    numbered (fields ∷ all) ≡ numbered (fields ∷ front) ++ numbered rest
over fields all front rest h = elim (cases_Bool (is_blank_record (trimmed_fields fields))) [
  | inl blank ↦ line-blank fields all blank ∙ h ∙ ap (λ (l : List Fields). l ++ numbered rest) (sym (line-blank fields front blank))
  | inr full ↦
      line-full fields all full ∙ ap (λ (l : List Fields). trimmed_fields fields ∷ l) h
      ∙ ap (λ (l : List Fields). l ++ numbered rest) (sym (line-full fields front full))
]

rows : List ℕ → List Fields
rows text = numbered (records default_config text)

up-to : (n : ℕ) (lines rest : List ℕ) → length lines ≤ n → is_plain lines ≡ true → are_whole_lines lines ≡ true → rows (lines ++ rest) ≡ rows lines ++ rows rest
unfolding rows
up-to n [] rest fits plain whole = ap (λ (l : List Fields). l ++ rows rest) (sym (none-left [] refl))
up-to zero (b ∷ text) rest fits plain whole = absurd (omega (arith, fits))
up-to (suc n) (b ∷ text) rest fits plain whole =
    let lines = b ∷ text in
    let first = first-line b text rest whole in
    let one = plain-line lines plain in
    let all : rows (lines ++ rest) ≡ numbered (fields_in lines ∷ records default_config (behind_line lines ++ rest)) =
    line-step (lines ++ rest) (first.plain ∙ one)
    ∙ ap₂ (λ (f : Fields) (l : List ℕ). numbered (f ∷ records default_config l)) first.fields first.behind in
    let more = up-to n (behind_line lines) rest (omega (arith, fits, behind-shorter b text)) (plain-behind lines plain) first.whole in
    all ∙ over (fields_in lines) (records default_config (behind_line lines ++ rest)) (records default_config (behind_line lines)) (records default_config rest) more
    ∙ ap (λ (l : List Fields). l ++ rows rest) (sym (line-step lines one))

pub lines-apart : (lines rest : List ℕ) → is_plain lines ≡ true → are_whole_lines lines ≡ true →
    numbered (records default_config (lines ++ rest)) ≡ numbered (records default_config lines) ++ numbered (records default_config rest)
unfolding rows
lines-apart lines rest plain whole = up-to (length lines) lines rest (le_refl (length lines)) plain whole

-- the lines of a text, cut after some of them or after all of them
pub parted : (text front behind : List ℕ) → text ≡ front ++ behind → is_plain front ≡ true → (0 < length behind → are_whole_lines front ≡ true) →
    numbered (records default_config text) ≡ numbered (records default_config front) ++ numbered (records default_config behind)
unfolding rows
parted text front [] parts plain whole =
    ap rows (parts ∙ append-nil front) ∙ sym (append-nil (rows front)) ∙ ap (λ (l : List Fields). rows front ++ l) (sym (none-left [] refl))
parted text front (b ∷ behind) parts plain whole = ap rows parts ∙ lines-apart front (b ∷ behind) plain (whole (omega arith))

-- ---- after a line end, and at the start of a file

-- a line end at the front is not a record, and what comes after it has no byte order mark
pub behind-feed : (rest : List ℕ) → numbered (records_of (10 ∷ rest)) ≡ numbered (records default_config rest)
behind-feed rest =
    let none : numbered (records default_config (10 ∷ [])) ≡ [] = line-step (10 ∷ []) refl ∙ line-blank (fields_in (10 ∷ [])) (records default_config []) refl ∙ none-left [] refl in
    ap (λ text. numbered (records default_config text)) (unmarked-first 10 rest refl) ∙ lines-apart (10 ∷ []) rest refl refl
    ∙ ap (λ (l : List Fields). l ++ numbered (records default_config rest)) none

whole-behind : (b : ℕ) (text : List ℕ) → are_whole_lines (b ∷ text) ≡ true → are_whole_lines text ≡ true
whole-behind b [] h = refl
whole-behind b (next ∷ text) h = h

pub whole-append : (text : List ℕ) (b : ℕ) (lines : List ℕ) → are_whole_lines (b ∷ lines) ≡ true → are_whole_lines (text ++ b ∷ lines) ≡ true
whole-append [] b lines h = h
whole-append (a ∷ []) b lines h = h
whole-append (a ∷ next ∷ text) b lines h = whole-append (next ∷ text) b lines h

-- at the start there may be a byte order mark, which is not part of the first line
pub at-start : (a b c : ℕ) (text rest : List ℕ) → let front = a ∷ b ∷ c ∷ text in
    are_whole_lines front ≡ true → is_plain (without_mark front) ≡ true → (length (without_mark front) == 0) ≡ false →
    numbered_records (front ++ rest) ≡ numbered (records default_config (without_mark front)) ++ numbered (records default_config rest)
at-start a b c text rest whole plain some =
    let front = a ∷ b ∷ c ∷ text in
    let marked = starts_with nat_eq front byte_order_mark in
    let same : without_mark (front ++ rest) ≡ without_mark front ++ rest = cut marked in
    ap (λ text. numbered (records_of text)) same ∙ ap numbered (unmarked-lines (without_mark front) plain some)
    ∙ lines-apart (without_mark front) rest plain (left-whole marked)
  where
    cut : (marked : Bool) → (if marked then text ++ rest else a ∷ b ∷ c ∷ text ++ rest) ≡ (if marked then text else a ∷ b ∷ c ∷ text) ++ rest
    cut true = refl
    cut false = refl

    left-whole : (marked : Bool) → are_whole_lines (if marked then text else a ∷ b ∷ c ∷ text) ≡ true
    left-whole true = whole-behind c text (whole-behind b (c ∷ text) (whole-behind a (b ∷ c ∷ text) whole))
    left-whole false = whole

    unmarked-lines : (lines : List ℕ) → is_plain lines ≡ true → (length lines == 0) ≡ false → records_of (lines ++ rest) ≡ records default_config (lines ++ rest)
    unmarked-lines [] plain some = absurd cc
    unmarked-lines (d ∷ lines) plain some = ap (records default_config) (unmarked-first d (lines ++ rest) (plain-parts d lines plain).1)
