-- A set with one candidate more or less.
use Rattle.std.proofs.Common.{◌≡◌, ℕ, ◌+◌, ◌<◌, ◌≤◌, ◌^◌, ◌/◌, ◌%◌, ◌*◌, Bool, true, false, not, ◌&&◌, ◌||◌, ◌==◌, nat_lt, bit_or, if◌then◌else◌, inl, inr, refl, sym, ap, arith, eq-eqb, eqb-true, ◌∙◌}
use Rattle.std.proofs.Math.Nat.{add-mul-div_right, div-eq_of_lt}
use Rattle.std.proofs.lemmas.Nat.{pow_pos}
use Rattle.std.proofs.lemmas.Bool.{cases_Bool, cases_lt, both_ways, or_right, and_right, false_from_ne_true, eqb-false}
use Rattle.irv_base.specs.Candidates.{has}
use Rattle.std.proofs.lemmas.Nat.Bits.{same_from_bits, bit_at-lt}
use Rattle.std.specs.Int.{bit_at}
use Rattle.irv_base.proofs.Bits.{with-number, has-with, or-false}
use Rattle.assertions.specs.Steps.{more}
use Rattle.set_flow.specs.declared.room.Room.{Room}
use Rattle.set_flow.specs.Rooms.{is_open, is_free}
use Rattle.set_flow.specs.Seen.{less, turned, can_go}
use Rattle.set_flow.proofs.Poured.{next-below}

pub turned-in : (set c : ℕ) → has set c ≡ true → turned set c ≡ less set c
turned-in set c h = ap (λ b. if b then less set c else more set c) h

pub turned-out : (set c : ℕ) → has set c ≡ false → turned set c ≡ more set c
turned-out set c h = ap (λ b. if b then less set c else more set c) h

pub turned-below : (n set c : ℕ) → set < 2 ^ n → c < n → turned set c < 2 ^ n
turned-below n set c small below =
    elim (cases_Bool (has set c)) [
      | inl t ↦ let e = turned-in set c t in omega (arith, e, small)
      | inr f ↦
          let e = turned-out set c f in
          let l = next-below n set c (set + 2 ^ c) small below f refl in
          omega (arith, e, l)
    ]

pub has-more : (set c : ℕ) → has set c ≡ false → has (more set c) c ≡ true
has-more set c f =
    let e : more set c ≡ bit_or set (2 ^ c) = (let w = with-number set c f in omega (arith, w)) in
    ap (λ s. has s c) e ∙ has-with set c c ∙ or_right (has set c) (c == c) (eq-eqb c c refl)

-- a candidate who is in the set already is carried to the next place
pub two-more : (set c : ℕ) → has set c ≡ true → has (more set c) c ≡ false
two-more set c t =
    let p = pow_pos c in
    let e : more set c ≡ set + 1 * 2 ^ c = omega arith in
    let d : (more set c) / 2 ^ c ≡ set / 2 ^ c + 1 = ap (λ s. s / 2 ^ c) e ∙ add-mul-div_right set 1 p in
    let m = eqb-true ((set / 2 ^ c) % 2) 1 t in
    let z : (set / 2 ^ c + 1) % 2 ≡ 0 = omega (arith, m) in
    ap (λ q. q % 2 == 1) d ∙ ap (λ r. r == 1) z

pub less-more : (set c : ℕ) → less (more set c) c ≡ set
less-more set c = omega arith

-- a member counts in the number of a set
has-most : (set c : ℕ) → has set c ≡ true → 2 ^ c ≤ set
has-most set c t =
    elim (cases_lt set (2 ^ c)) [
      | inl l ↦ absurd (both_ways (has set c) (ap (λ q. q % 2 == 1) (div-eq_of_lt l)) t)
      | inr l ↦ l
    ]

pub more-less : (set c : ℕ) → has set c ≡ true → more (less set c) c ≡ set
more-less set c t = let l = has-most set c t in omega (arith, l)

pub less-out : (set c : ℕ) → has set c ≡ true → has (less set c) c ≡ false
less-out set c t =
    false_from_ne_true (has (less set c) c) (λ u.
    both_ways (has set c) (ap (λ s. has s c) (sym (more-less set c t)) ∙ two-more (less set c) c u) t)

and-yes : (a b : Bool) → b ≡ true → (a && b) ≡ a
and-yes true b h = h
and-yes false b h = refl

pub has-less : (set c d : ℕ) → has set c ≡ true → has (less set c) d ≡ (has set d && not (d == c))
has-less set c d t =
    let out = less-out set c t in
    let e : set ≡ bit_or (less set c) (2 ^ c) = (let w = with-number (less set c) c out in let m = more-less set c t in omega (arith, w, m)) in
    let h : has set d ≡ (has (less set c) d || (d == c)) = ap (λ s. has s d) e ∙ has-with (less set c) c d in
    elim (cases_Bool (d == c)) [
      | inl same ↦
          ap (has (less set c)) (eqb-true d c same) ∙ out
          ∙ sym (and_right (has set d) (not (d == c)) (ap not same))
      | inr other ↦
          sym (or-false (has (less set c) d)) ∙ ap (λ b. has (less set c) d || b) (sym other) ∙ sym h
          ∙ sym (and-yes (has set d) (not (d == c)) (ap not other))
    ]

-- sets of the same members are the same
pub same-members : (a b : ℕ) → ((d : ℕ) → has a d ≡ has b d) → a ≡ b
same-members a b h = same_from_bits a b (λ d. same_bit (bit_at a d) (bit_at b d) (bit_at-lt a d) (bit_at-lt b d) (h d))
  where
    same_bit : (a b : ℕ) → a < 2 → b < 2 → (a == 1) ≡ (b == 1) → a ≡ b
    same_bit a b ha hb e =
        elim (cases_Bool (b == 1)) [
          | inl t ↦ eqb-true a 1 (e ∙ t) ∙ sym (eqb-true b 1 t)
          | inr f ↦ let na = eqb-false a 1 (e ∙ f) in let nb = eqb-false b 1 f in omega arith
        ]

pub without-less : (set c w : ℕ) → has set c ≡ true → ((d : ℕ) → has w d ≡ (has set d && not (d == c))) → w ≡ less set c
without-less set c w t h = same-members w (less set c) (λ d. h d ∙ sym (has-less set c d t))

-- when a unit can go back
pub goes-back : (rooms : ℕ → ℕ → Room) (flow : ℕ → ℕ → ℕ) (set c w : ℕ) → has set c ≡ true → w ≡ less set c →
    can_go rooms flow set c ≡ (nat_lt 0 (flow w c) && is_open (rooms w c))
goes-back rooms flow set c w t e =
    ap (λ b. if b then nat_lt 0 (flow (less set c) c) && is_open (rooms (less set c) c) else is_free (rooms set c) (flow set c)) t
    ∙ ap (λ s. nat_lt 0 (flow s c) && is_open (rooms s c)) (sym e)
