-- Eight bytes side by side: whether a name may have them.
use Rattle.std.proofs.Common.{◌≡◌, ◌∙◌, ◌≤◌, ◌+◌, ◌-◌, ◌*◌, ◌%◌, ◌^◌, ◌&&◌, ◌==◌, ◌∷◌, [], ℕ, Bool, true, false, not, List, length, map, replicate, cond, eqb, leb, Fits, w8, refl, sym, ap, ap₂, arith, inl, inr}
use Rattle.std.specs.List.{list_all}
use Rattle.std.proofs.lemmas.Bool.{agree_below, agree_below_at, cases_eq, eq-eqb, ne_eqb}
use Rattle.std.proofs.lemmas.List.{length-map}
use Rattle.std.proofs.lemmas.Simd.{mask_l-mod, splat_is_map, zip2_of_maps, zip2_splat}
use Rattle.irv_base.specs.Names.{is_name_byte}
use lib.Bits.{bit_or}
use lib.Lanes.{Each1, zip2, mask_l, top}

-- what a lane holds
abbrev far : ℕ → ℕ
far x = cond (leb 95 ((x + (256 - 32)) % 256)) 255 0

abbrev hit : ℕ → ℕ → ℕ
hit x b = cond (eqb x b) 255 0

abbrev other : ℕ → ℕ
other x = bit_or (bit_or (far x) (hit x 34)) (hit x 44)

-- it is marked exactly if no name has the byte
marked : agree_below (λ x. top 7 (other x)) (λ x. not (is_name_byte x)) 256 ≡ true
marked = refl

marks : (v : List ℕ) → Each1 (Fits w8) v → map (top 7) (map other v) ≡ map (λ x. not (is_name_byte x)) v
marks [] fits = refl
marks (x ∷ v) fits =
    ap₂ (λ b bs. b ∷ bs) (agree_below_at (λ y. top 7 (other y)) (λ y. not (is_name_byte y)) 256 x marked fits.0.fits) (marks v fits.1)

one-more : (b : Bool) (m : ℕ) (all : Bool) → (m == 0) ≡ all → (cond (not b) 1 0 + 2 * m == 0) ≡ (b && all)
one-more false m all h = ne_eqb (1 + 2 * m) 0 (λ e. omega (arith, e))
one-more true m all h = elim (cases_eq m 0) [
  | inl none ↦ eq-eqb (0 + 2 * m) 0 (omega (arith, none)) ∙ sym (eq-eqb m 0 none) ∙ h
  | inr some ↦ ne_eqb (0 + 2 * m) 0 (λ e. some (omega (arith, e))) ∙ sym (ne_eqb m 0 some) ∙ h
]

unmarked : (test : ℕ → Bool) (v : List ℕ) → (mask_l (map (λ x. not (test x)) v) == 0) ≡ list_all test v
unmarked test [] = refl
unmarked test (x ∷ v) = one-more (test x) (mask_l (map (λ y. not (test y)) v)) (list_all test v) (unmarked test v)

pub eight : (v : List ℕ) → length v ≡ 8 → Each1 (Fits w8) v →
    (mask_l (map (top 7) (zip2 bit_or (zip2 bit_or (zip2 (λ a b. cond (leb a b) 255 0) (replicate 8 95) (zip2 (λ a b. (a + (256 - b)) % 256) v (replicate 8 32)))
    (zip2 (λ a b. cond (eqb a b) 255 0) v (replicate 8 34))) (zip2 (λ a b. cond (eqb a b) 255 0) v (replicate 8 44)))) % 2 ^ 64 == 0) ≡ list_all is_name_byte v
eight v long fits =
    let few : length (map (λ x. not (is_name_byte x)) v) ≤ 64 = omega (arith, length-map v (λ x. not (is_name_byte x)), long) in
    let behind = zip2_of_maps (λ a b. cond (leb a b) 255 0) (λ _. 95) (λ x. (x + (256 - 32)) % 256) v (splat_is_map v 8 95 long)
    (zip2_splat (λ a b. (a + (256 - b)) % 256) v 8 32 long) in
    let quoted = zip2_of_maps bit_or far (λ x. hit x 34) v behind (zip2_splat (λ a b. cond (eqb a b) 255 0) v 8 34 long) in
    let lanes = zip2_of_maps bit_or (λ x. bit_or (far x) (hit x 34)) (λ x. hit x 44) v quoted (zip2_splat (λ a b. cond (eqb a b) 255 0) v 8 44 long) in
    ap (λ l. mask_l l % 2 ^ 64 == 0) (ap (map (top 7)) lanes ∙ marks v fits)
    ∙ ap (λ n. n == 0) (mask_l-mod (map (λ x. not (is_name_byte x)) v) 64 few)
    ∙ unmarked is_name_byte v
