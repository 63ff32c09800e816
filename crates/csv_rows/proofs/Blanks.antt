-- The fields of a line, byte by byte: whether they are a blank record, and the number of them.
use Rattle.std.proofs.Common.{◌≡◌, ◌∙◌, ◌∷◌, ◌==◌, [], ℕ, Bool, true, false, List, length, refl, sym, ap, subst, arith, inl, inr}
use Rattle.std.proofs.lemmas.Bool.{cases_Bool, eqb-true, ne_eqb, or_cases}
use Rattle.csv_rows.specs.Rows.{Fields}
use Rattle.csv_rows.specs.Fields.{is_blank, is_blank_record, trimmed, trimmed_end, trimmed_fields, trimmed_start}
use Rattle.csv_rows.specs.Lines.{fields_in, is_line_end, with_front}

pub record HasField (fields : Fields) : Type 0 where
  pub first : List ℕ
  pub others : Fields
  pub same : fields ≡ first ∷ others

pub has_field : (text : List ℕ) → HasField (fields_in text)
has_field [] = record { first = []; others = []; same = refl }
has_field (b ∷ text) = elim (cases_Bool (is_line_end b)) [
  | inl line ↦ record { first = []; others = []; same = rw line refl }
  | inr on ↦ elim (cases_Bool (b == 44)) [
    | inl comma ↦ record { first = []; others = fields_in text; same = rw (on, comma) refl }
    | inr other ↦
        let more = has_field text in
        record { first = b ∷ more.first; others = more.others; same = rw (on, other) (ap (with_front (b ∷ [])) more.same) }
  ]
]

-- ---- whether they are a blank record

abbrev blank : List ℕ → Bool
blank text = is_blank_record (trimmed_fields (fields_in text))

blank-comma : (b : ℕ) → is_blank b ≡ true → (b == 44) ≡ false
blank-comma b h = elim (or_cases (b == 32) (b == 9) h) [
  | inl space ↦ subst (λ n. (n == 44) ≡ false) (sym (eqb-true b 32 space)) refl
  | inr tab ↦ subst (λ n. (n == 44) ≡ false) (sym (eqb-true b 9 tab)) refl
]

blank-front : (b : ℕ) (fields : Fields) → is_blank b ≡ true →
    is_blank_record (trimmed_fields (with_front (b ∷ []) fields)) ≡ is_blank_record (trimmed_fields fields)
blank-front b [] h = refl
blank-front b (field ∷ []) h = rw h refl
blank-front b (field ∷ next ∷ rest) h = refl

stays : (b : ℕ) (field : List ℕ) → is_blank b ≡ false → trimmed (b ∷ field) ≡ b ∷ trimmed_end field
stays b field h = ap trimmed_end (start h) ∙ end h where
  start : is_blank b ≡ false → trimmed_start (b ∷ field) ≡ b ∷ field
  start h = rw h refl

  end : is_blank b ≡ false → trimmed_end (b ∷ field) ≡ b ∷ trimmed_end field
  end h = rw h refl

full : (b : ℕ) (field : List ℕ) (others : Fields) → is_blank b ≡ false → is_blank_record (trimmed_fields ((b ∷ field) ∷ others)) ≡ false
full b field [] h = ap (λ text. length text == 0) (stays b field h) ∙ ne_eqb (length (b ∷ trimmed_end field)) 0 (λ e. omega (arith, e))
full b field (next ∷ rest) h = refl

pub blank-none : (b : ℕ) (text : List ℕ) → is_line_end b ≡ false → is_blank b ≡ false → blank (b ∷ text) ≡ false
blank-none b text on h =
    let more = has_field text in
    elim (cases_Bool (b == 44)) [
      | inl comma ↦ rw (on, comma) (ap (λ fields. is_blank_record (trimmed_fields ([] ∷ fields))) more.same)
      | inr other ↦ rw (on, other) (ap (λ fields. is_blank_record (trimmed_fields (with_front (b ∷ []) fields))) more.same ∙ full b more.first more.others h)
    ]

-- ---- the number of fields

count-front : (b : ℕ) (fields : Fields) → length (with_front (b ∷ []) fields) ≡ length fields
count-front b [] = refl
count-front b (field ∷ fields) = refl

pub count-end : (b : ℕ) (text : List ℕ) → is_line_end b ≡ true → length (fields_in (b ∷ text)) ≡ 1
count-end b text line = rw line refl
