-- Whether a set has a member outside another.
use Rattle.std.proofs.Common.{◌≡◌, ℕ, ◌<◌, ◌^◌, max, bit_or, Bool, true, false, not, ◌==◌, inl, inr, refl, sym, ap, arith, eq-eqb, eqb-true, ne_eqb, ◌∙◌}
use Rattle.std.specs.List.{list_any}
use Rattle.std.specs.Int.{bit_at}
use Rattle.std.proofs.lemmas.Bool.{cases_eq, cases_lt, cases_Bool, both_ways, false_from_ne_true, not-true, not_from_false, eqb-false}
use Rattle.std.proofs.lemmas.Nat.Bits.{bit_at_or, bit_at-lt, bit_at_above, same_from_bits}
use Rattle.irv_base.specs.Candidates.{candidates, has, members}
use Rattle.irv_base.specs.declared.limits.TheConstants.{ROOM}
use Rattle.irv_base.proofs.Members.{from_list_any, list_any-member, candidate-member, member-filter, from_filter}

pub both : (a b : Bool) → (a ≡ true → b ≡ true) → (b ≡ true → a ≡ true) → a ≡ b
both true true f g = refl
both true false f g = sym (f refl)
both false true f g = g refl
both false false f g = refl

pub eq-turned : (a b : ℕ) → (a == b) ≡ (b == a)
eq-turned a b = elim (cases_eq a b) [
  | inl e ↦ eq-eqb a b e ∙ sym (eq-eqb b a (sym e))
  | inr ne ↦ ne_eqb a b ne ∙ sym (ne_eqb b a (λ e. ne (sym e)))
]

bit_in : (a c : ℕ) → has a c ≡ true → bit_at a c ≡ 1
bit_in a c h = eqb-true (bit_at a c) 1 h

bit_out : (a c : ℕ) → has a c ≡ false → bit_at a c ≡ 0
bit_out a c h = let ne = eqb-false (bit_at a c) 1 h in omega (arith, ne, bit_at-lt a c)

-- the members of a set of candidates are below ROOM
pub has-below : (a c : ℕ) → a < 2 ^ ROOM → has a c ≡ true → c < ROOM
has-below a c fits h =
    let one : bit_at a c ≡ 1 = bit_in a c h in
    elim (cases_lt c ROOM) [ inl l ↦ l | inr le ↦ let z : bit_at a c ≡ 0 = bit_at_above a ROOM c fits le in absurd (omega arith) ]

pub outside_is : (a b : ℕ) → a < 2 ^ ROOM → not (bit_or a b == b) ≡ list_any (λ w. not (has b w)) (members a)
outside_is a b fits = both (not (bit_or a b == b)) (list_any (λ w. not (has b w)) (members a)) to from where
  within : list_any (λ w. not (has b w)) (members a) ≡ false → (i : ℕ) → bit_at (bit_or a b) i ≡ bit_at b i
  within h i = bit_at_or a b i ∙ go (has a i) refl where
    go : (x : Bool) → has a i ≡ x → max (bit_at a i) (bit_at b i) ≡ bit_at b i
    go false e = let z : bit_at a i ≡ 0 = bit_out a i e in omega arith
    go true e =
        let one : bit_at a i ≡ 1 = bit_in a i e in
        let below = has-below a i fits e in
        elim (cases_Bool (has b i)) [
          | inl t ↦ let o : bit_at b i ≡ 1 = bit_in b i t in omega arith
          | inr f ↦ absurd (both_ways (list_any (λ w. not (has b w)) (members a)) h
              (list_any-member (λ w. not (has b w)) (member-filter (has a) (candidates ROOM) (candidate-member i ROOM below) e) (not_from_false (has b i) f)))
        ]

  to : not (bit_or a b == b) ≡ true → list_any (λ w. not (has b w)) (members a) ≡ true
  to h = elim (cases_Bool (list_any (λ w. not (has b w)) (members a))) [
    | inl t ↦ t
    | inr f ↦ absurd (both_ways (bit_or a b == b) (not-true (bit_or a b == b) h) (eq-eqb (bit_or a b) b (same_from_bits (bit_or a b) b (within f))))
  ]

  from : list_any (λ w. not (has b w)) (members a) ≡ true → not (bit_or a b == b) ≡ true
  from h =
      let (w, m, n) = from_list_any (λ w. not (has b w)) (members a) h in
      let one : bit_at a w ≡ 1 = bit_in a w (from_filter (has a) (candidates ROOM) m).1 in
      let zero' : bit_at b w ≡ 0 = bit_out b w (not-true (has b w) n) in
      not_from_false (bit_or a b == b) (false_from_ne_true (bit_or a b == b) (λ e.
      let same : max (bit_at a w) (bit_at b w) ≡ bit_at b w = sym (bit_at_or a b w) ∙ ap (λ x. bit_at x w) (eqb-true (bit_or a b) b e) in
      absurd (omega arith)))
