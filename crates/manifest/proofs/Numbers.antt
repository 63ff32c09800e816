-- The numbers of cards, written in digits.
use Rattle.std.proofs.Common.{inl, inr, ◌≡◌, ◌∙◌, ◌&&◌, ◌==◌, ◌<◌, ◌≤◌, ℕ, zero, suc, List, [], ◌∷◌, Bool, true, false, Some, None, length, get_or, decimal, nat_le, refl, sym, ap, subst, arith, leb-true}
use Rattle.std.specs.Prelude.{if◌then◌else◌}
use Rattle.std.specs.Char.{is_ascii_digit}
use Rattle.std.specs.Cmp.Lexicographic.{bytes_decides}
use Rattle.std.specs.List.{list_all}
use Rattle.std.specs.Str.Parse.{digits_value}
use Rattle.std.proofs.lemmas.Bool.{and_parts, cases_Bool, eqb-true}
use Rattle.std.proofs.lemmas.Fmt.{digits_decimal, decimal-digits_value, first_decimal, decimal_nonempty, decimal_digit, digits_value-decimal, length-decimal-le}
use Rattle.irv_base.specs.Names.{is_same}
use Rattle.csv_rows.specs.Numbers.{number_of}
use Rattle.csv_rows.proofs.Numbers.{few, is_number, is_number-from, own}
use Rattle.irv_base.specs.declared.limits.TheConstants.{MOST_NUMBER_DIGITS}
use Rattle.manifest.specs.declared.limits.TheConstants.{MOST_BATCH_CARDS}

zero_first : (k : ℕ) (text : List ℕ) → 1 ≤ k → k ≤ MOST_BATCH_CARDS → get_or text 0 0 ≡ 48 → decimal k ≡ text → ⊥
zero_first k text some most z e = omega (arith, first_decimal k (omega (arith, some)) (omega (arith, most)), ap (λ t. get_or t 0 0) e, z)

pub same-equal : (a b : List ℕ) → is_same a b ≡ true → a ≡ b
same-equal a b h = (bytes_decides a b).0 h

pub not_written : (k : ℕ) (text : List ℕ) → (decimal k ≡ text → ⊥) → is_same (decimal k) text ≡ false
not_written k text h = elim (cases_Bool (is_same (decimal k) text)) [
  | inl t ↦ absurd (h (same-equal (decimal k) text t))
  | inr f ↦ f
]

pub padded : (text : List ℕ) → get_or text 0 0 ≡ 48 → (k : ℕ) → 1 ≤ k → k ≤ MOST_BATCH_CARDS → is_same (decimal k) text ≡ false
padded text z k some most = not_written k text (zero_first k text some most z)

pub empty : (text : List ℕ) → length text ≡ 0 → (k : ℕ) → 1 ≤ k → k ≤ MOST_BATCH_CARDS → is_same (decimal k) text ≡ false
empty text z k some most = not_written k text (λ e. omega (arith, decimal_nonempty k (omega (arith, most)), ap length e, z))

zero_written : decimal 0 ≡ 48 ∷ []
zero_written = decimal_digit 0 (omega arith)

pub written : (text : List ℕ) (k : ℕ) → (get_or text 0 0 ≡ 48 → ⊥) → number_of text ≡ Some k → (decimal k ≡ text) × (1 ≤ k)
written text k first h = by (is_number text) refl h where
  value : is_number text ≡ true → digits_value 10 text ≡ k → (decimal k ≡ text) × (1 ≤ k)
  value t e =
      let (range, digits) = and_parts (nat_le 1 (length text) && nat_le (length text) MOST_NUMBER_DIGITS) (list_all is_ascii_digit text) t in
      let (low, high) = and_parts (nat_le 1 (length text)) (nat_le (length text) MOST_NUMBER_DIGITS) range in
      let less = few text digits (leb-true (length text) MOST_NUMBER_DIGITS high) in
      let same : decimal (digits_value 10 text) ≡ text = decimal-digits_value own text digits (omega (arith, leb-true 1 (length text) low))
      (λ z. absurd (first z)) (omega (arith, less)) in
      let same_k : decimal k ≡ text = ap decimal (sym e) ∙ same in
      (same_k, positive k same_k)
    where
      positive : (j : ℕ) → decimal j ≡ text → 1 ≤ j
      positive zero h = absurd (first (ap (λ t. get_or t 0 0) (sym h ∙ zero_written)))
      positive (suc j) h = omega arith

  by : (b : Bool) → is_number text ≡ b → (if b then Some (digits_value 10 text) else None) ≡ Some k → (decimal k ≡ text) × (1 ≤ k)
  by true t g = value t cc
  by false t g = absurd cc

pub reads : (k : ℕ) (text : List ℕ) → k ≤ MOST_BATCH_CARDS → decimal k ≡ text → number_of text ≡ Some k
reads k text most e = subst (λ t. number_of t ≡ Some k) e (rw digits (ap Some (digits_value-decimal own k (omega (arith, most))))) where
  digits : is_number (decimal k) ≡ true
  digits =
      is_number-from (decimal k) (digits_decimal own k (omega (arith, most))) (omega (arith, decimal_nonempty k (omega (arith, most))))
      (omega (arith, length-decimal-le MOST_NUMBER_DIGITS k (omega arith) (omega (arith, most)) (omega (arith, most))))

pub unread : (text : List ℕ) → number_of text ≡ None → (k : ℕ) → 1 ≤ k → k ≤ MOST_BATCH_CARDS → is_same (decimal k) text ≡ false
unread text h k some most = not_written k text (λ e. let r = reads k text most e in cc)

pub too_many : (text : List ℕ) (n : ℕ) → number_of text ≡ Some n → MOST_BATCH_CARDS < n → (k : ℕ) → 1 ≤ k → k ≤ MOST_BATCH_CARDS →
    is_same (decimal k) text ≡ false
too_many text n h many k some most = not_written k text (λ e. let r = reads k text most e in let s : k ≡ n = cc in omega (arith, s, many, most))

-- ---- lengths

pub no_length : (n : ℕ) → (n == 0) ≡ true → n ≡ 0
no_length n h = eqb-true n 0 h
