-- Plain records that are written are read back.
use Rattle.std.proofs.Common.{◌≡◌, ◌∙◌, ◌++◌, ◌∷◌, [], ◌+◌, ◌-◌, ◌≤◌, ◌<◌, ◌&&◌, ◌==◌, ℕ, zero, suc, Bool, true, false, not, List, length, take, drop, get_or, nat_le, refl, sym, ap, arith, leb-true, length-append}
use Rattle.std.specs.Prelude.{All, if◌then◌else◌, nat_eq}
use Rattle.std.specs.List.{list_all, starts_with}
use Rattle.std.proofs.lemmas.Bool.{and_parts, ne_eqb, not-true}
use Rattle.std.proofs.lemmas.List.Elements.{All-append, All-cons, All-head, All-nil, All-tail}
use Rattle.csv.specs.Machine.{next_record}
use Rattle.csv.specs.Reading.{default_config, records, records_from, records_next, strip_bom}
use Rattle.csv.specs.Writing.{default_writer, escaped, field_text, fields_text, is_blank, needs_quotes, read_back, row_body, row_text}
use Rattle.csv.specs.declared.parser.State.TheVariants as st
use Rattle.csv.proofs.RoundTrip.{read-write}
use Rattle.csv_rows.specs.Fields as fields
use Rattle.csv_rows.specs.Fields.{byte_order_mark, is_blank_record, numbered, numbered_records, trimmed, trimmed_end, trimmed_fields, trimmed_start, without_mark}
use Rattle.csv_rows.specs.Rows.{Fields, records_of}
use Rattle.csv_rows.proofs.Ends.{end-stays, take_last}
use Rattle.irv_base.specs.Names.{space, tilde, touches_space}
use Rattle.ballot_ids.proofs.Differing.{or-false}
use Rattle.ballot_laws.specs.Bytes.{WrittenIsRead, is_plain, is_plain_record, written}

abbrev is_printable : ℕ → Bool
is_printable b = nat_le space b && nat_le b tilde

-- ---- what is written is ASCII

abbrev AreAscii : List ℕ → Type 0
AreAscii bytes = All (λ b. b < 128) bytes

joined : (xs ys : List ℕ) → AreAscii xs → AreAscii ys → AreAscii (xs ++ ys)
joined xs ys h k = All-append (λ b. b < 128) xs ys h k

begins : (b : ℕ) (bytes : List ℕ) → b < 128 → AreAscii bytes → AreAscii (b ∷ bytes)
begins b bytes h k = All-cons (λ b. b < 128) b bytes h k

none : AreAscii []
none = All-nil (λ b. b < 128)

printable : (field : List ℕ) → list_all is_printable field ≡ true → AreAscii field
printable [] h = none
printable (b ∷ field) h =
    let (one, all) = and_parts (is_printable b) (list_all is_printable field) h in
    begins b field (omega (arith, leb-true b tilde (and_parts (nat_le space b) (nat_le b tilde) one).1)) (printable field all)

escaped-ascii : (field : List ℕ) → AreAscii field → AreAscii (escaped default_writer field)
unfolding escaped
escaped-ascii [] h = none
escaped-ascii (b ∷ field) h = by (b == 34) (escaped-ascii field (All-tail (λ b. b < 128) b field h)) where
  by : (q : Bool) → AreAscii (escaped default_writer field) → AreAscii (if q then 34 ∷ b ∷ escaped default_writer field else b ∷ escaped default_writer field)
  by true more = begins 34 (b ∷ escaped default_writer field) (omega arith) (begins b (escaped default_writer field) (All-head (λ b. b < 128) b field h) more)
  by false more = begins b (escaped default_writer field) (All-head (λ b. b < 128) b field h) more

field-ascii : (field : List ℕ) → AreAscii field → AreAscii (field_text default_writer field)
field-ascii field h = by (needs_quotes default_writer field) where
  by : (q : Bool) → AreAscii (if q then 34 ∷ (escaped default_writer field ++ (34 ∷ [])) else field)
  by true = begins 34 (escaped default_writer field ++ (34 ∷ [])) (omega arith)
      (joined (escaped default_writer field) (34 ∷ []) (escaped-ascii field h) (begins 34 [] (omega arith) none))
  by false = h

fields-ascii : (rest : Fields) → list_all is_plain rest ≡ true → AreAscii (fields_text default_writer rest)
unfolding fields_text
fields-ascii [] h = none
fields-ascii (field ∷ rest) h =
    let (one, all) = and_parts (is_plain field) (list_all is_plain rest) h in
    let text = field-ascii field (printable field (and_parts (list_all is_printable field) (not (touches_space field)) one).0) in
    begins 44 (field_text default_writer field ++ fields_text default_writer rest) (omega arith)
    (joined (field_text default_writer field) (fields_text default_writer rest) text (fields-ascii rest all))

body-ascii : (row : Fields) → list_all is_plain row ≡ true → AreAscii (row_body default_writer row)
body-ascii [] h = none
body-ascii (field ∷ rest) h =
    let (one, all) = and_parts (is_plain field) (list_all is_plain rest) h in
    let text = field-ascii field (printable field (and_parts (list_all is_printable field) (not (touches_space field)) one).0) in
    joined (field_text default_writer field) (fields_text default_writer rest) text (fields-ascii rest all)

end-ascii : (b : Bool) → AreAscii ((if b then 34 ∷ 34 ∷ [] else []) ++ (10 ∷ []))
end-ascii true = begins 34 (34 ∷ 10 ∷ []) (omega arith) (begins 34 (10 ∷ []) (omega arith) (begins 10 [] (omega arith) none))
end-ascii false = begins 10 [] (omega arith) none

plain-fields : (row : Fields) → is_plain_record row ≡ true → list_all is_plain row ≡ true
plain-fields row h = (and_parts (list_all is_plain row) (nat_le 1 (length row))
    (and_parts (list_all is_plain row && nat_le 1 (length row)) (not (is_blank_record row)) h).0).0

pub written-ascii : (rows : List Fields) → list_all is_plain_record rows ≡ true → All (λ b. b < 128) (written rows)
written-ascii [] h = none
written-ascii (row ∷ rows) h =
    let (one, all) = and_parts (is_plain_record row) (list_all is_plain_record rows) h in
    joined (row_text default_writer row) (written rows)
    (joined (row_body default_writer row) ((if is_blank default_writer row then 34 ∷ 34 ∷ [] else []) ++ (10 ∷ [])) (body-ascii row (plain-fields row one))
    (end-ascii (is_blank default_writer row)))
    (written-ascii rows all)

-- ---- so there is no byte order mark

no-mark : (bytes : List ℕ) → AreAscii bytes → without_mark bytes ≡ bytes
no-mark [] h = refl
no-mark (b ∷ bytes) h = ap (λ s. if s then drop 3 (b ∷ bytes) else b ∷ bytes) (other (All-head (λ b. b < 128) b bytes h)) where
  other : b < 128 → starts_with nat_eq (b ∷ bytes) byte_order_mark ≡ false
  other l = let e : nat_eq 0xEF b ≡ false = ne_eqb 0xEF b (λ s. omega (arith, l, s)) in rw e refl

no-strip : (bytes : List ℕ) → AreAscii bytes → strip_bom bytes ≡ bytes
unfolding strip_bom
no-strip [] h = refl
no-strip (a ∷ []) h = refl
no-strip (a ∷ b ∷ []) h = refl
no-strip (a ∷ b ∷ c ∷ bytes) h =
    let l = All-head (λ b. b < 128) a (b ∷ c ∷ bytes) h in
    let e : (a == 0xEF) ≡ false = ne_eqb a 0xEF (λ s. omega (arith, l, s)) in
    rw e refl

-- ---- the records of what is written

some-back : (row : Fields) → 1 ≤ length row → read_back row ≡ row
some-back [] h = absurd (omega (arith, h))
some-back (field ∷ rest) h = refl

plain-some : (row : Fields) → is_plain_record row ≡ true → 1 ≤ length row
plain-some row h = leb-true 1 (length row) (and_parts (list_all is_plain row) (nat_le 1 (length row))
    (and_parts (list_all is_plain row && nat_le 1 (length row)) (not (is_blank_record row)) h).0).1

no-more : (n : ℕ) → records_from default_config n st.StartRecord [] ≡ []
unfolding records_from next_record
no-more zero = refl
no-more (suc n) = refl

records-back : (rows : List Fields) (n : ℕ) → list_all is_plain_record rows ≡ true → length rows ≤ n →
    records_from default_config n st.StartRecord (written rows) ≡ rows
unfolding records_from
records-back [] n h l = no-more n
records-back (row ∷ rows) zero h l = absurd (omega (arith, l))
records-back (row ∷ rows) (suc n) h l =
    let (one, all) = and_parts (is_plain_record row) (list_all is_plain_record rows) h in
    ap (records_next (records_from default_config n)) (read-write row (written rows))
    ∙ ap (λ more. read_back row ∷ more) (records-back rows n all (omega (arith, l)))
    ∙ ap (λ r. r ∷ rows) (some-back row (plain-some row one))

some-text : (row : Fields) → 1 ≤ length (row_text default_writer row)
some-text row =
    let end : List ℕ = if is_blank default_writer row then 34 ∷ 34 ∷ [] else [] in
    omega (arith, length-append (row_body default_writer row) (end ++ (10 ∷ [])), length-append end (10 ∷ []))

long : (rows : List Fields) → length rows ≤ length (written rows)
long [] = omega arith
long (row ∷ rows) = omega (arith, long rows, some-text row, length-append (row_text default_writer row) (written rows))

-- ---- they are trimmed, and none is blank

ends-well : (field : List ℕ) → 0 < length field → fields.is_blank (get_or field (length field - 1) 0) ≡ false → trimmed_end field ≡ field
ends-well field some h =
    let e = take_last field (length field) some (omega arith) in
    let whole : field ≡ take (length field - 1) field ++ get_or field (length field - 1) 0 ∷ [] = sym (all-of field) ∙ e in
    ap trimmed_end whole ∙ end-stays (take (length field - 1) field) (get_or field (length field - 1) 0) h ∙ sym whole
  where
    all-of : (xs : List ℕ) → take (length xs) xs ≡ xs
    all-of [] = refl
    all-of (x ∷ xs) = ap (λ more. x ∷ more) (all-of xs)

printable-at : (field : List ℕ) (i : ℕ) → list_all is_printable field ≡ true → i < length field → 0x20 ≤ get_or field i 0
printable-at [] i h l = absurd (omega (arith, l))
printable-at (b ∷ field) zero h l =
    let (one, all) = and_parts (is_printable b) (list_all is_printable field) h in
    leb-true space b (and_parts (nat_le space b) (nat_le b tilde) one).0
printable-at (b ∷ field) (suc i) h l = printable-at field i (and_parts (is_printable b) (list_all is_printable field) h).1 (omega (arith, l))

not-blank : (b : ℕ) → 0x20 ≤ b → (b == space) ≡ false → fields.is_blank b ≡ false
not-blank b l n =
    let tab : (b == 0x09) ≡ false = ne_eqb b 0x09 (λ e. omega (arith, l, e)) in
    rw (n, tab) refl

trimmed-is : (field : List ℕ) → is_plain field ≡ true → trimmed field ≡ field
trimmed-is [] h = refl
trimmed-is (b ∷ field) h =
    let (all, apart) = and_parts (list_all is_printable (b ∷ field)) (not (touches_space (b ∷ field))) h in
    let last = length (b ∷ field) - 1 in
    let (first, end) = or-false (b == space) (get_or (b ∷ field) last 0 == space) (not-true (touches_space (b ∷ field)) apart) in
    let at : last < length (b ∷ field) = omega arith in
    let start : trimmed_start (b ∷ field) ≡ b ∷ field =
    ap (λ s. if s then trimmed_start field else b ∷ field) (not-blank b (printable-at (b ∷ field) 0 all (omega arith)) first) in
    ap trimmed_end start ∙ ends-well (b ∷ field) (omega arith) (not-blank (get_or (b ∷ field) last 0) (printable-at (b ∷ field) last all at) end)

fields-are : (row : Fields) → list_all is_plain row ≡ true → trimmed_fields row ≡ row
fields-are [] h = refl
fields-are (field ∷ row) h =
    let (one, all) = and_parts (is_plain field) (list_all is_plain row) h in
    ap (λ f. f ∷ trimmed_fields row) (trimmed-is field one) ∙ ap (λ more. field ∷ more) (fields-are row all)

all-numbered : (rows : List Fields) → list_all is_plain_record rows ≡ true → numbered rows ≡ rows
all-numbered [] h = refl
all-numbered (row ∷ rows) h =
    let (one, all) = and_parts (is_plain_record row) (list_all is_plain_record rows) h in
    let filled = (and_parts (list_all is_plain row && nat_le 1 (length row)) (not (is_blank_record row)) one).1 in
    ap (λ r. if not (is_blank_record r) then r ∷ numbered rows else numbered rows) (fields-are row (plain-fields row one))
    ∙ ap (λ b. if b then row ∷ numbered rows else numbered rows) filled
    ∙ ap (λ more. row ∷ more) (all-numbered rows all)

pub written-back : (rows : List Fields) → list_all is_plain_record rows ≡ true → numbered_records (written rows) ≡ rows
written-back rows h =
    let ascii = written-ascii rows h in
    ap (λ bytes. numbered (records_of bytes)) (no-mark (written rows) ascii)
    ∙ ap (λ bytes. numbered (records default_config bytes)) (no-strip (written rows) ascii)
    ∙ ap numbered (records-back rows (length (written rows) + 1) h (omega (arith, long rows)))
    ∙ all-numbered rows h

pub written_is_read : WrittenIsRead
written_is_read rows h = (written-ascii rows h, written-back rows h)
