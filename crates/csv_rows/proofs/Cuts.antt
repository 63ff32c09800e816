-- The place of the first byte of some kind, and the text that is cut there.
use Rattle.std.proofs.Common.{◌≡◌, ◌+◌, ◌-◌, ◌<◌, ◌∙◌, ◌∷◌, ◌==◌, [], ℕ, zero, suc, Bool, true, false, List, Option, Some, None, length, take, drop, slice_index, refl, sym, ap, subst, arith, inl, inr}
use Rattle.std.specs.Prelude.{◌||◌, if◌then◌else◌, is_some, not}
use Rattle.std.proofs.lemmas.Bool.{cases_Bool, cases_eq, false≢true, not-false, not-true, eqb-true, eq-eqb, ne_eqb}
use Rattle.std.proofs.lemmas.List.{length-drop, take_all}
use Rattle.memchr.specs.Find.{IsFirstByte, NoneBefore, Nowhere, Passes, TakesFirst, is_byte2, is_byte3, places, places_from}
use Rattle.csv_rows.specs.Lines.{behind_line, fields_in, is_line_end, is_odd_byte, is_plain, with_front}

never : (b : Bool) → (b ≡ true → ⊥) → b ≡ false
never true h = absurd (h refl)
never false h = refl

-- ---- the first place that a walk over all of them gives

module _ (test : ℕ → Bool) (hay : List ℕ) where
  -- a place that doesn't pass is left out
  wider : (i k : ℕ) → test (slice_index hay i) ≡ false → Nowhere (Passes test hay) (i + 1) k → Nowhere (Passes test hay) i k
  wider i k out h = λ j low high passes. elim (cases_eq i j) [
    | inl same ↦ false≢true (sym out ∙ ap (λ m. test (slice_index hay m)) same ∙ passes)
    | inr other ↦ h j (omega (arith, low, other)) high passes
  ]

  none_first : (i n : ℕ) → places_from test hay i n ≡ [] → Nowhere (Passes test hay) i (i + n)
  unfolding places_from
  none_first i zero e = λ k low high passes. omega (arith, low, high)
  none_first i (suc n) e = by (test (slice_index hay i)) refl e (none_first (i + 1) n) where
    by : (t : Bool) → test (slice_index hay i) ≡ t → (if t then i ∷ places_from test hay (i + 1) n else places_from test hay (i + 1) n) ≡ [] →
        (places_from test hay (i + 1) n ≡ [] → Nowhere (Passes test hay) (i + 1) (i + 1 + n)) → Nowhere (Passes test hay) i (i + suc n)
    by true h d later = absurd cc
    by false h d later =
        let same : i + 1 + n ≡ i + suc n = omega arith in
        wider i (i + suc n) h (subst (Nowhere (Passes test hay) (i + 1)) same (later d))

  first_place : (i n k : ℕ) (rest : List ℕ) → places_from test hay i n ≡ k ∷ rest → NoneBefore (Passes test hay) i (i + n) k × Passes test hay k
  unfolding places_from
  first_place i zero k rest e = absurd cc
  first_place i (suc n) k rest e = by (test (slice_index hay i)) refl e (first_place (i + 1) n k rest) where
    by : (t : Bool) → test (slice_index hay i) ≡ t → (if t then i ∷ places_from test hay (i + 1) n else places_from test hay (i + 1) n) ≡ k ∷ rest →
        (places_from test hay (i + 1) n ≡ k ∷ rest → NoneBefore (Passes test hay) (i + 1) (i + 1 + n) k × Passes test hay k) →
        NoneBefore (Passes test hay) i (i + suc n) k × Passes test hay k
    by true h d later =
        let same : i ≡ k = cc in (
          record { low = omega (arith, same); high = omega (arith, same); before = λ j low high passes. omega (arith, low, high, same) },
          ap (λ m. test (slice_index hay m)) (sym same) ∙ h,
        )
    by false h d later =
        let more = later d in (
          record { low = omega (arith, more.0.low); high = omega (arith, more.0.high); before = wider i k h more.0.before },
          more.1,
        )

  pub first-next : (r : Option ℕ) (rest : List ℕ) → TakesFirst (places test hay) r rest → IsFirstByte test hay r
  first-next None rest h = λ k low high. none_first 0 (length hay - 0) h.0 k low (omega (arith, high))
  first-next (Some k) rest h =
      let found = first_place 0 (length hay - 0) k rest h in
      (record { low = found.0.low; high = omega (arith, found.0.high); before = found.0.before }, found.1)

-- ---- a text that is cut where a field ends, or a line

or-parts : (x y z : Bool) → ((x || y) || z) ≡ false → ((y || z) ≡ false) × (x ≡ false)
or-parts false false false h = (refl, refl)
or-parts true y z h = absurd cc
or-parts false true z h = absurd cc
or-parts false false true h = absurd cc

or-last : (x y z : Bool) → ((x || y) || z) ≡ true → x ≡ false → (y || z) ≡ true
or-last false y z h e = h
or-last true y z h e = absurd cc

pub not-comma : (b : ℕ) → (b == 44) ≡ true → is_line_end b ≡ false
not-comma b h = subst (λ n. is_line_end n ≡ false) (sym (eqb-true b 44 h)) refl

-- the bytes from a place to the end
pub rest-from : (n : ℕ) (text : List ℕ) → take (length text - n) (drop n text) ≡ drop n text
rest-from n text = take_all _ (drop n text) (omega (arith, length-drop n text))

pub cut-comma : (text : List ℕ) (k : ℕ) → k < length text → Nowhere (Passes (is_byte3 44 13 10) text) 0 k → slice_index text k ≡ 44 →
    fields_in text ≡ take k text ∷ fields_in (drop (suc k) text)
cut-comma [] k less before here = absurd (omega (arith, less))
cut-comma (b ∷ text) zero less before here =
    let comma = eq-eqb b 44 here in
    rw (comma, not-comma b comma) refl
cut-comma (b ∷ text) (suc k) less before here =
    let (line, comma) = or-parts (b == 44) (b == 13) (b == 10) (never _ (before 0 (omega arith) (omega arith))) in
    rw (comma, line) (ap (with_front (b ∷ [])) (cut-comma text k (omega (arith, less)) (λ j low high. before (suc j) (omega arith) (omega (arith, high))) here))

pub cut-line : (text : List ℕ) (k : ℕ) → k < length text → Nowhere (Passes (is_byte3 44 13 10) text) 0 k → Passes (is_byte3 44 13 10) text k →
    (slice_index text k ≡ 44 → ⊥) → fields_in text ≡ take k text ∷ []
cut-line [] k less before here other = absurd (omega (arith, less))
cut-line (b ∷ text) zero less before here other = rw (or-last (b == 44) (b == 13) (b == 10) here (ne_eqb b 44 other)) refl
cut-line (b ∷ text) (suc k) less before here other =
    let (line, comma) = or-parts (b == 44) (b == 13) (b == 10) (never _ (before 0 (omega arith) (omega arith))) in
    rw (comma, line)
    (ap (with_front (b ∷ [])) (cut-line text k (omega (arith, less)) (λ j low high. before (suc j) (omega arith) (omega (arith, high))) here other))

pub cut-none : (text : List ℕ) → Nowhere (Passes (is_byte3 44 13 10) text) 0 (length text) → fields_in text ≡ text ∷ []
cut-none [] before = refl
cut-none (b ∷ text) before =
    let (line, comma) = or-parts (b == 44) (b == 13) (b == 10) (never _ (before 0 (omega arith) (omega arith))) in
    rw (comma, line) (ap (with_front (b ∷ [])) (cut-none text (λ j low high. before (suc j) (omega arith) (omega (arith, high)))))

pub behind-cut : (text : List ℕ) (k : ℕ) → k < length text → Nowhere (Passes (is_byte2 13 10) text) 0 k → Passes (is_byte2 13 10) text k →
    behind_line text ≡ drop (suc k) text
behind-cut [] k less before here = absurd (omega (arith, less))
behind-cut (b ∷ text) zero less before here = rw here refl
behind-cut (b ∷ text) (suc k) less before here =
    rw (never _ (before 0 (omega arith) (omega arith)))
    (behind-cut text k (omega (arith, less)) (λ j low high. before (suc j) (omega arith) (omega (arith, high))) here)

pub behind-none : (text : List ℕ) → Nowhere (Passes (is_byte2 13 10) text) 0 (length text) → behind_line text ≡ []
behind-none [] before = refl
behind-none (b ∷ text) before =
    rw (never _ (before 0 (omega arith) (omega arith)))
    (behind-none text (λ j low high. before (suc j) (omega arith) (omega (arith, high))))

-- ---- a text without an odd byte is plain

pub plain-none : (text : List ℕ) → Nowhere (Passes (is_byte2 34 239) text) 0 (length text) → is_plain text ≡ true
plain-none [] before = refl
plain-none (b ∷ text) before =
    rw (never _ (before 0 (omega arith) (omega arith)))
    (plain-none text (λ j low high. before (suc j) (omega arith) (omega (arith, high))))

pub plain-some : (text : List ℕ) (k : ℕ) → k < length text → Passes (is_byte2 34 239) text k → is_plain text ≡ false
plain-some [] k less here = absurd (omega (arith, less))
plain-some (b ∷ text) zero less here = rw here refl
plain-some (b ∷ text) (suc k) less here = elim (cases_Bool (is_odd_byte b)) [
  | inl odd ↦ rw odd refl
  | inr even ↦ rw even (plain-some text k (omega (arith, less)) here)
]

pub plain-first : (text : List ℕ) (r : Option ℕ) (b : Bool) → IsFirstByte (is_byte2 34 239) text r → is_some r ≡ not b → b ≡ is_plain text
plain-first text None b h e = not-false b (sym e) ∙ sym (plain-none text h)
plain-first text (Some k) b h e = not-true b (sym e) ∙ sym (plain-some text k h.0.high h.1)
