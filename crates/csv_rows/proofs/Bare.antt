-- Fields without a blank, which are what is left when the blanks around them are removed.
use Rattle.std.proofs.Common.{◌≡◌, ◌∙◌, ◌||◌, ◌==◌, ◌∷◌, [], ℕ, zero, suc, Bool, true, false, List, take, refl, sym, ap, arith, inl, inr}
use Rattle.std.specs.Prelude.{nat_lt, slice_index}
use Rattle.std.proofs.lemmas.Bool.{cases_Bool, false≢true, ne_eqb}
use Rattle.memchr.specs.Find.{Nowhere, Passes, is_byte2, is_byte3}
use Rattle.csv_rows.specs.Fields.{is_blank, trimmed, trimmed_end, trimmed_start}
use Rattle.csv_rows.specs.Lanes.{is_low, is_stop}

or-false : (x y : Bool) → (x || y) ≡ false → (x ≡ false) × (y ≡ false)
or-false false y h = (refl, h)
or-false true y h = absurd cc

other : (b n : ℕ) → nat_lt n 33 ≡ true → nat_lt b 33 ≡ false → (b == n) ≡ false
other b n low high = ne_eqb b n (λ e. false≢true (sym high ∙ ap (λ m. nat_lt m 33) e ∙ low))

-- what isn't a stop isn't a blank, and ends no field

no-blank : (b : ℕ) → is_stop b ≡ false → is_blank b ≡ false
no-blank b h =
    let (comma, high) = or-false (b == 44) (nat_lt b 33) h in
    rw (other b 32 refl high, other b 9 refl high) refl

no-end : (b : ℕ) → is_stop b ≡ false → is_byte3 44 13 10 b ≡ false
no-end b h =
    let (comma, high) = or-false (b == 44) (nat_lt b 33) h in
    rw (comma, other b 13 refl high, other b 10 refl high) refl

is-stop : (b : ℕ) → is_byte3 44 13 10 b ≡ true → is_stop b ≡ true
is-stop b ends = elim (cases_Bool (is_stop b)) [
  | inl stop ↦ stop
  | inr h ↦ absurd (false≢true (sym (no-end b h) ∙ ends))
]

no-line-end : (b : ℕ) → is_low b ≡ false → is_byte2 13 10 b ≡ false
no-line-end b high = rw (other b 13 refl high, other b 10 refl high) refl

is-low : (b : ℕ) → is_byte2 13 10 b ≡ true → is_low b ≡ true
is-low b ends = elim (cases_Bool (is_low b)) [
  | inl low ↦ low
  | inr h ↦ absurd (false≢true (sym (no-line-end b h) ∙ ends))
]

pub low-lines : (text : List ℕ) (k : ℕ) → Nowhere (Passes is_low text) 0 k → Nowhere (Passes (is_byte2 13 10) text) 0 k
low-lines text k before = λ j low high passes. before j low high (is-low (slice_index text j) passes)

pub none-ends : (text : List ℕ) (k : ℕ) → Nowhere (Passes is_stop text) 0 k → Nowhere (Passes (is_byte3 44 13 10) text) 0 k
none-ends text k before = λ j low high passes. before j low high (is-stop (slice_index text j) passes)

never : (b : Bool) → (b ≡ true → ⊥) → b ≡ false
never true h = absurd (h refl)
never false h = refl

start-bare : (text : List ℕ) (k : ℕ) → Nowhere (Passes is_stop text) 0 k → trimmed_start (take k text) ≡ take k text
start-bare [] zero before = refl
start-bare [] (suc k) before = refl
start-bare (b ∷ text) zero before = refl
start-bare (b ∷ text) (suc k) before = rw (no-blank b (never _ (before 0 (omega arith) (omega arith)))) refl

end-bare : (text : List ℕ) (k : ℕ) → Nowhere (Passes is_stop text) 0 k → trimmed_end (take k text) ≡ take k text
end-bare [] zero before = refl
end-bare [] (suc k) before = refl
end-bare (b ∷ text) zero before = refl
end-bare (b ∷ text) (suc k) before =
    rw (no-blank b (never _ (before 0 (omega arith) (omega arith))))
    (ap (λ rest. b ∷ rest) (end-bare text k (λ j low high. before (suc j) (omega arith) (omega (arith, high)))))

pub bare : (text : List ℕ) (k : ℕ) → Nowhere (Passes is_stop text) 0 k → trimmed (take k text) ≡ take k text
bare text k before = ap trimmed_end (start-bare text k before) ∙ end-bare text k before
