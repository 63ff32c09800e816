-- A set as a number: which candidates it has.
use Rattle.std.proofs.Common.{◌==◌, bit_or, ◌≡◌, ℕ, ◌+◌, ◌*◌, ◌/◌, ◌%◌, ◌^◌, ◌<◌, max, true, inl, inr, List, [], ◌∷◌, ◌++◌, sym, ap, arith, eq-eqb, eqb-true, ◌∙◌, bit_and, add_comm, pow_pos, shr-shr, div-lt_iff_lt-mul}
use Rattle.std.specs.Int.{bit_at}
use Rattle.std.proofs.lemmas.List.Sums.{sum_by-cons, sum_by_push}
use Rattle.std.proofs.lemmas.Nat.{or_disjoint}
use Rattle.std.proofs.lemmas.Nat.Bits.{and_pow, bit_at_or, bit_at-pow_same, bit_at-pow_other, bit_at-zero, bit_at-lt, same_from_bits}
use Rattle.std.proofs.lemmas.Bool.{cases_Bool, eqb-false}
use Rattle.irv_base.specs.Candidates.{set_of, has, is_in}
use Rattle.irv_base.proofs.Members.{Member, there, member_at, member_cases, member_nil, member-from_in, none-from_out}
use Rattle.irv_base.proofs.Distinct.{Distinct, distinct-head, distinct-tail}

pub set_of-cons : (a : ℕ) (cs : List ℕ) → set_of (a ∷ cs) ≡ 2 ^ a + set_of cs
set_of-cons a cs = sum_by-cons (λ c. 2 ^ c) a cs

-- one more candidate
bit_at-more : (s a i : ℕ) → bit_at s a ≡ 0 → bit_at (2 ^ a + s) i ≡ max (bit_at s i) (bit_at (2 ^ a) i)
bit_at-more s a i e =
    let apart : bit_and s (2 ^ a) ≡ 0 = and_pow s a ∙ ap (λ x. x * 2 ^ a) e ∙ omega arith in
    ap (λ x. bit_at x i) (add_comm (2 ^ a) s ∙ sym (or_disjoint s (2 ^ a) apart)) ∙ bit_at_or s (2 ^ a) i

pub bit_at-out : (cs : List ℕ) (c : ℕ) → Distinct cs → (Member c cs → ⊥) → bit_at (set_of cs) c ≡ 0
bit_at-out [] c d out = bit_at-zero c
bit_at-out (a ∷ cs) c d out =
    let e : bit_at (set_of cs) a ≡ 0 = bit_at-out cs a (distinct-tail d) (distinct-head d) in
    let f : bit_at (set_of cs) c ≡ 0 = bit_at-out cs c (distinct-tail d) (λ m. out (there m)) in
    let g : bit_at (2 ^ a) c ≡ 0 = bit_at-pow_other a c (λ s. out (member_at (sym s))) in
    ap (λ x. bit_at x c) (set_of-cons a cs) ∙ bit_at-more (set_of cs) a c e ∙ omega arith

pub bit_at-in : (cs : List ℕ) (c : ℕ) → Distinct cs → Member c cs → bit_at (set_of cs) c ≡ 1
bit_at-in [] c d m = absurd (member_nil m)
bit_at-in (a ∷ cs) c d m =
    let e : bit_at (set_of cs) a ≡ 0 = bit_at-out cs a (distinct-tail d) (distinct-head d) in
    ap (λ x. bit_at x c) (set_of-cons a cs) ∙ bit_at-more (set_of cs) a c e
    ∙ elim (member_cases m) [
      | inl s ↦ let f : bit_at (2 ^ a) c ≡ 1 = ap (λ x. bit_at (2 ^ a) x) (sym s) ∙ bit_at-pow_same a in omega (arith, bit_at-lt (set_of cs) c)
      | inr r ↦ let f : bit_at (set_of cs) c ≡ 1 = bit_at-in cs c (distinct-tail d) r in omega (arith, bit_at-lt (2 ^ a) c)
    ]

pub has-member : {cs : List ℕ} {c : ℕ} → Distinct cs → Member c cs → has (set_of cs) c ≡ true
has-member {cs} {c} d m = eq-eqb (bit_at (set_of cs) c) 1 (bit_at-in cs c d m)

pub member-from_has : (cs : List ℕ) (c : ℕ) → Distinct cs → has (set_of cs) c ≡ true → Member c cs
member-from_has cs c d h =
    elim (cases_Bool (is_in cs c)) [
      | inl t ↦ member-from_in c cs t
      | inr f ↦
          let zero' : bit_at (set_of cs) c ≡ 0 = bit_at-out cs c d (none-from_out f) in
          let one : bit_at (set_of cs) c ≡ 1 = eqb-true (bit_at (set_of cs) c) 1 h in
          absurd (omega arith)
    ]

pub set_of-lt : (n : ℕ) (cs : List ℕ) → Distinct cs → ((c : ℕ) → Member c cs → c < n) → set_of cs < 2 ^ n
set_of-lt n cs d below =
    let high : set_of cs / 2 ^ n ≡ 0 = same_from_bits (set_of cs / 2 ^ n) 0 (λ i. shifted i) in
    let below' : set_of cs < 1 * 2 ^ n = (div-lt_iff_lt-mul (pow_pos n)).0 (omega arith) in
    omega arith
  where
    shifted : (i : ℕ) → bit_at (set_of cs / 2 ^ n) i ≡ bit_at 0 i
    shifted i =
        ap (λ x. x % 2) (shr-shr (set_of cs) n i)
        ∙ bit_at-out cs (n + i) d (λ m. let l : n + i < n = below (n + i) m in absurd (omega arith))
        ∙ sym (bit_at-zero i)

-- ---- for code that keeps a set as a mask
pub has-set_of : (cs : List ℕ) (c : ℕ) → Distinct cs → has (set_of cs) c ≡ is_in cs c
has-set_of cs c d =
    elim (cases_Bool (is_in cs c)) [
      | inl t ↦ has-member d (member-from_in c cs t) ∙ sym t
      | inr f ↦ ap (λ b. b == 1) (bit_at-out cs c d (none-from_out f)) ∙ sym f
    ]

-- a number that has exactly these candidates is the number of their set
pub set_of_is : (s : ℕ) (cs : List ℕ) → Distinct cs → ((c : ℕ) → has s c ≡ is_in cs c) → s ≡ set_of cs
set_of_is s cs d h = same_from_bits s (set_of cs) (λ c. same_bit (bit_at s c) (bit_at (set_of cs) c) (bit_at-lt s c) (bit_at-lt (set_of cs) c) (h c
    ∙ sym (has-set_of cs c d)))
  where
    same_bit : (a b : ℕ) → a < 2 → b < 2 → (a == 1) ≡ (b == 1) → a ≡ b
    same_bit a b ha hb e =
        elim (cases_Bool (b == 1)) [
          | inl t ↦ eqb-true a 1 (e ∙ t) ∙ sym (eqb-true b 1 t)
          | inr f ↦ let na = eqb-false a 1 (e ∙ f) in let nb = eqb-false b 1 f in omega arith
        ]
