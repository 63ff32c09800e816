-- The records of a plain text are its lines, separated at commas.
use Rattle.std.proofs.Common.{le_refl, ap₂, ◌≡◌, ◌≤◌, ◌<◌, ◌+◌, ◌∙◌, ◌∷◌, ◌++◌, ◌==◌, [], ℕ, Bool, true, false, List, Option, Some, None, length, refl, sym, ap, subst, arith, inl, inr, append_assoc}
use Rattle.std.specs.Prelude.{◌&&◌, ◌||◌, if◌then◌else◌, not}
use Rattle.std.specs.List.{list_any}
use Rattle.std.proofs.lemmas.Bool.{cases_Bool, eqb-true, false≢true, not-true}
use Rattle.std.proofs.lemmas.List.{append-nil}
use Rattle.csv.specs.Machine.{Read, after_end, ends_at_end, next_record}
use Rattle.csv.specs.Reading.{default_config, records, records_from, strip_bom}
use Rattle.csv.specs.declared.parser.State.{State}
use Rattle.csv.specs.declared.parser.State.TheVariants as st
use Rattle.csv.specs.declared.parser.Terminator.TheVariants as term
use Rattle.csv_rows.specs.Rows.{Fields, records_of}
use Rattle.csv_rows.specs.Fields.{is_blank_record, numbered, trimmed_fields}
use Rattle.csv_rows.specs.Lines.{behind_line, fields_in, is_line_end, is_odd_byte, is_plain, with_front}
use Rattle.csv_rows.proofs.Cuts.{not-comma}
use Rattle.csv_rows.proofs.Reading.{records-none, records-some}

or-false : (x y : Bool) → (x || y) ≡ false → (x ≡ false) × (y ≡ false)
or-false false y h = (refl, h)
or-false true y h = absurd cc

-- ---- a plain text, byte by byte

pub plain-parts : (b : ℕ) (text : List ℕ) → is_plain (b ∷ text) ≡ true → ((b == 34) ≡ false) × ((b == 239) ≡ false) × (is_plain text ≡ true)
plain-parts b text h =
    let (first, rest) = or-false (is_odd_byte b) (list_any is_odd_byte text) (not-true (list_any is_odd_byte (b ∷ text)) h) in
    let (quote, mark) = or-false (b == 34) (b == 239) first in
    (quote, mark, ap not rest)

pub plain-parted : (front behind : List ℕ) → is_plain (front ++ behind) ≡ true → (is_plain front ≡ true) × (is_plain behind ≡ true)
plain-parted [] behind h = (refl, h)
plain-parted (b ∷ front) behind h = by (is_odd_byte b) h (plain-parted front behind) where
  by : (odd : Bool) → not (odd || list_any is_odd_byte (front ++ behind)) ≡ true →
      (is_plain (front ++ behind) ≡ true → (is_plain front ≡ true) × (is_plain behind ≡ true)) →
      (not (odd || list_any is_odd_byte front) ≡ true) × (is_plain behind ≡ true)
  by true h parts = absurd cc
  by false h parts = parts h

pub plain-joined : (front behind : List ℕ) → is_plain front ≡ true → is_plain behind ≡ true → is_plain (front ++ behind) ≡ true
plain-joined [] behind h more = more
plain-joined (b ∷ front) behind h more = by (is_odd_byte b) h (λ rest. plain-joined front behind rest more) where
  by : (odd : Bool) → not (odd || list_any is_odd_byte front) ≡ true → (is_plain front ≡ true → is_plain (front ++ behind) ≡ true) →
      not (odd || list_any is_odd_byte (front ++ behind)) ≡ true
  by true h joined = absurd cc
  by false h joined = joined h

pub plain-behind : (text : List ℕ) → is_plain text ≡ true → is_plain (behind_line text) ≡ true
plain-behind [] h = refl
plain-behind (b ∷ text) h =
    let rest = (plain-parts b text h).2 in
    by (is_line_end b) rest (plain-behind text rest)
  where
    by : (t : Bool) → is_plain text ≡ true → is_plain (behind_line text) ≡ true → is_plain (if t then text else behind_line text) ≡ true
    by true h k = h
    by false h k = k

-- ---- a text whose first line is plain

-- up to the end of its first line, a text has no odd byte
abbrev pub is_plain_line : List ℕ → Bool
is_plain_line [] = true
is_plain_line (b ∷ text) = if is_line_end b then true else (not (is_odd_byte b) && is_plain_line text)

not-odd : (odd rest : Bool) → (not odd && rest) ≡ true → (odd ≡ false) × (rest ≡ true)
not-odd false rest h = (refl, h)
not-odd true rest h = absurd cc

pub line-parts : (b : ℕ) (text : List ℕ) → is_line_end b ≡ false → is_plain_line (b ∷ text) ≡ true →
    ((b == 34) ≡ false) × ((b == 239) ≡ false) × (is_plain_line text ≡ true)
line-parts b text on h =
    let whole : (not (is_odd_byte b) && is_plain_line text) ≡ true = rw on at h in
    let (even, rest) = not-odd (is_odd_byte b) (is_plain_line text) whole in
    let (quote, mark) = or-false (b == 34) (b == 239) even in
    (quote, mark, rest)

line-end-no-quote : (b : ℕ) → is_line_end b ≡ true → (b == 34) ≡ false
line-end-no-quote b line = elim (cases_Bool (b == 34)) [
  | inl quote ↦ absurd (false≢true (sym (ap is_line_end (eqb-true b 34 quote)) ∙ line))
  | inr other ↦ other
]

no-quote : (b : ℕ) (text : List ℕ) → is_plain_line (b ∷ text) ≡ true → (b == 34) ≡ false
no-quote b text h = elim (cases_Bool (is_line_end b)) [
  | inl line ↦ line-end-no-quote b line
  | inr on ↦ (line-parts b text on h).0
]

pub plain-line : (text : List ℕ) → is_plain text ≡ true → is_plain_line text ≡ true
plain-line [] h = refl
plain-line (b ∷ text) h =
    let (quote, mark, rest) = plain-parts b text h in
    by (is_line_end b) (ap₂ (λ x y. x || y) quote mark) (plain-line text rest)
  where
    by : (line : Bool) → is_odd_byte b ≡ false → is_plain_line text ≡ true →
        (if line then true else (not (is_odd_byte b) && is_plain_line text)) ≡ true
    by true even rest = refl
    by false even rest = rw even rest

-- ---- what the machine does in a line

-- the state after the end of the first line
state_behind : List ℕ → State
state_behind [] = st.StartRecord
state_behind (b ∷ text) = if is_line_end b then after_end term.CRLF b else state_behind text

between-behind : (text : List ℕ) → ends_at_end (state_behind text) ≡ false
unfolding state_behind
between-behind [] = refl
between-behind (b ∷ text) = by (is_line_end b) (b == 13) (between-behind text) where
  by : (line cr : Bool) → ends_at_end (state_behind text) ≡ false →
      ends_at_end (if line then (if cr then st.AfterCr else st.StartRecord) else state_behind text) ≡ false
  by true true h = refl
  by true false h = refl
  by false cr h = h

field-start : (fields : Fields) (field text : List ℕ) → is_plain_line text ≡ true →
    next_record default_config st.StartField fields field text ≡ next_record default_config st.InField fields field text
unfolding next_record
field-start fields field [] h = refl
field-start fields field (b ∷ text) h = rw (no-quote b text h) refl

front-none : (fields : Fields) → with_front [] fields ≡ fields
front-none [] = refl
front-none (field ∷ fields) = refl

front-more : (field : List ℕ) (b : ℕ) (fields : Fields) → with_front (field ++ b ∷ []) fields ≡ with_front field (with_front (b ∷ []) fields)
front-more field b [] = refl
front-more field b (first ∷ fields) = ap (λ f. f ∷ fields) (append_assoc field (b ∷ []) first)

abbrev read_line : Fields → List ℕ → Option Read
read_line fields text = Some (fields, state_behind text, behind_line text)

-- what is read of a line, from within the current field
reads : (fields : Fields) (field text : List ℕ) → is_plain_line text ≡ true →
    next_record default_config st.InField fields field text ≡ read_line (fields ++ with_front field (fields_in text)) text
unfolding next_record state_behind
reads fields field [] h = ap (λ last. Some (fields ++ last ∷ [], st.StartRecord, [])) (sym (append-nil field))
reads fields field (b ∷ text) h =
    elim (cases_Bool (b == 44)) [
      | inl comma ↦
          let rest = (line-parts b text (not-comma b comma) h).2 in
          let apart : (fields ++ field ∷ []) ++ with_front [] (fields_in text) ≡ fields ++ (field ++ []) ∷ fields_in text =
          ap (λ more. (fields ++ field ∷ []) ++ more) (front-none (fields_in text)) ∙ append_assoc fields (field ∷ []) (fields_in text)
          ∙ ap (λ f. fields ++ f ∷ fields_in text) (sym (append-nil field)) in
          rw (comma, not-comma b comma) (field-start (fields ++ field ∷ []) [] text rest ∙ reads (fields ++ field ∷ []) [] text rest
          ∙ ap (λ all. read_line all text) apart)
      | inr other ↦ elim (cases_Bool (is_line_end b)) [
        | inl line ↦ rw (other, line) (ap (λ last. Some (fields ++ last ∷ [], after_end term.CRLF b, text)) (sym (append-nil field)))
        | inr on ↦
            let rest = (line-parts b text on h).2 in
            rw (other, on) (reads fields (field ++ b ∷ []) text rest ∙ ap (λ more. read_line (fields ++ more) text) (front-more field b (fields_in text)))
      ]
    ]

-- ---- between two records, it doesn't matter whether a carriage return came before

after-cr : (text : List ℕ) → next_record default_config st.AfterCr [] [] text ≡ next_record default_config st.StartRecord [] [] text
unfolding next_record
after-cr [] = refl
after-cr (b ∷ text) = elim (cases_Bool (b == 10)) [
  | inl feed ↦
      subst (λ n. next_record default_config st.AfterCr [] [] (n ∷ text) ≡ next_record default_config st.StartRecord [] [] (n ∷ text)) (sym (eqb-true b 10 feed))
      refl
  | inr other ↦ rw other refl
]

between-records : (s : State) (text : List ℕ) → ends_at_end s ≡ false →
    next_record default_config s [] [] text ≡ next_record default_config st.StartRecord [] [] text
between-records st.StartRecord text h = refl
between-records st.AfterCr text h = after-cr text
between-records st.StartField text h = absurd cc
between-records st.InField text h = absurd cc
between-records st.InQuoted text h = absurd cc
between-records st.AfterQuote text h = absurd cc
between-records st.InEscape text h = absurd cc
between-records st.InComment text h = absurd cc

same-records : (s t : State) (xs ys : List ℕ) → ends_at_end s ≡ false → ends_at_end t ≡ false →
    next_record default_config s [] [] xs ≡ next_record default_config t [] [] ys →
    records_from default_config (length xs + 1) s xs ≡ records_from default_config (length ys + 1) t ys
same-records s t xs ys e f h = by (next_record default_config t [] [] ys) refl where
  by : (o : Option Read) → next_record default_config t [] [] ys ≡ o →
      records_from default_config (length xs + 1) s xs ≡ records_from default_config (length ys + 1) t ys
  by None n = records-none default_config s xs (h ∙ n) ∙ sym (records-none default_config t ys n)
  by (Some p) n = records-some default_config s xs p e (h ∙ n) ∙ sym (records-some default_config t ys p f n)

-- ---- the records of a text, line by line

skips-end : (b : ℕ) (text : List ℕ) → is_line_end b ≡ true →
    next_record default_config st.StartRecord [] [] (b ∷ text) ≡ next_record default_config st.StartRecord [] [] text
unfolding next_record
skips-end b text line = rw line refl

starts : (b : ℕ) (text : List ℕ) → is_line_end b ≡ false →
    next_record default_config st.StartRecord [] [] (b ∷ text) ≡ next_record default_config st.StartField [] [] (b ∷ text)
unfolding next_record
starts b text on = rw on refl

-- an empty line isn't a record, and would have no number
pub line-step : (text : List ℕ) → is_plain_line text ≡ true →
    numbered (records default_config text) ≡ numbered (fields_in text ∷ records default_config (behind_line text))
line-step [] h = refl
line-step (b ∷ text) h = elim (cases_Bool (is_line_end b)) [
  | inl line ↦ rw line (ap numbered (same-records st.StartRecord st.StartRecord (b ∷ text) text refl refl (skips-end b text line)))
  | inr on ↦
      let line = b ∷ text in
      let left = behind_line line in
      let read = starts b text on ∙ field-start [] [] line h ∙ reads [] [] line h ∙ ap (λ all. read_line all line) (front-none (fields_in line)) in
      ap numbered (records-some default_config st.StartRecord line (fields_in line, state_behind line, left) refl read
      ∙ ap (λ rows. fields_in line ∷ rows) (same-records (state_behind line) st.StartRecord left left (between-behind line) refl
      (between-records (state_behind line) left (between-behind line))))
]

pub unmarked-first : (b : ℕ) (text : List ℕ) → (b == 239) ≡ false → strip_bom (b ∷ text) ≡ b ∷ text
unfolding strip_bom
unmarked-first b [] h = refl
unmarked-first b (c ∷ []) h = refl
unmarked-first b (c ∷ d ∷ text) h = rw h refl

unmarked : (text : List ℕ) → is_plain text ≡ true → strip_bom text ≡ text
unfolding strip_bom
unmarked [] h = refl
unmarked (b ∷ text) h = unmarked-first b text (plain-parts b text h).1

pub plain-records : (text : List ℕ) → is_plain text ≡ true → records_of text ≡ records default_config text
plain-records text h = ap (records default_config) (unmarked text h)

-- what comes after a line is shorter
behind-le : (text : List ℕ) → length (behind_line text) ≤ length text
behind-le [] = le_refl 0
behind-le (b ∷ text) = by (is_line_end b) (behind-le text) where
  by : (t : Bool) → length (behind_line text) ≤ length text → length (if t then text else behind_line text) ≤ length (b ∷ text)
  by true h = omega arith
  by false h = omega (arith, h)

pub behind-shorter : (b : ℕ) (text : List ℕ) → length (behind_line (b ∷ text)) ≤ length text
behind-shorter b text = by (is_line_end b) (behind-le text) where
  by : (t : Bool) → length (behind_line text) ≤ length text → length (if t then text else behind_line text) ≤ length text
  by true h = le_refl (length text)
  by false h = h

pub behind-less : (text : List ℕ) → (length text == 0) ≡ false → length (behind_line text) < length text
behind-less [] h = absurd cc
behind-less (b ∷ text) h = omega (arith, behind-shorter b text)

nothing : next_record default_config st.StartRecord [] [] [] ≡ None
unfolding next_record
nothing = refl

pub none-left : (text : List ℕ) → (length text == 0) ≡ true → numbered (records default_config text) ≡ []
none-left [] h = ap numbered (records-none default_config st.StartRecord [] nothing)
none-left (b ∷ text) h = absurd (omega (arith, eqb-true (length (b ∷ text)) 0 h))

-- ---- a line with a number, and one that is a blank record

pub line-blank : (fields : Fields) (rows : List Fields) → is_blank_record (trimmed_fields fields) ≡ true → numbered (fields ∷ rows) ≡ numbered rows
line-blank fields rows h = rw h refl

pub line-full : (fields : Fields) (rows : List Fields) → is_blank_record (trimmed_fields fields) ≡ false →
    numbered (fields ∷ rows) ≡ trimmed_fields fields ∷ numbered rows
line-full fields rows h = rw h refl
