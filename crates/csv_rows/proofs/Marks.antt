-- The marks of bytes that are looked at side by side.
use Rattle.std.proofs.Common.{◌≡◌, ◌∙◌, ◌≤◌, ◌<◌, ◌+◌, ◌-◌, ◌*◌, ◌/◌, ◌%◌, ◌^◌, ◌||◌, ◌∷◌, [], ℕ, zero, suc, Bool, true, false, not, List, length, map, replicate, take, drop, cond, eqb, ltb, w64, refl, sym, ap, ap₂, subst, arith, inl, inr}
use Rattle.std.specs.Int.{trailing_zeros}
use Rattle.std.proofs.lemmas.Bool.{cases_lt, false≢true}
use Rattle.std.proofs.lemmas.Nat.{div-mul-add, shr-shr}
use Rattle.std.proofs.lemmas.Simd.{mask_l-mod, zip2_splat, first_set_mask_l, trailing_mask_l, run_in_chunk_fails, run_in_chunk_le, run_in_chunk_stops}
use Rattle.std.proofs.lemmas.List.{drop-map, drop-take, drop_all, length-drop, length-map, length-take-le}
use Rattle.memchr.specs.Find.{NoneBefore, Nowhere, Passes, is_byte2, is_byte3}
use Rattle.csv_rows.specs.Lanes.{AreMarks, before_first, first_set, is_low, is_stop}
use native.Mathlib.Nat.{div-one, zero-div}
use lib.Bits.{bit_or}
use lib.Lanes.{zip2, mask_l, top}

-- what a lane holds when it is compared with a byte
abbrev hit : ℕ → ℕ → ℕ
hit x b = cond (eqb x b) 255 0

joined : (f g : ℕ → ℕ) (v : List ℕ) → zip2 bit_or (map f v) (map g v) ≡ map (λ x. bit_or (f x) (g x)) v
joined f g [] = refl
joined f g (x ∷ v) = ap (λ rest. bit_or (f x) (g x) ∷ rest) (joined f g v)

each : (f : ℕ → ℕ) (test : ℕ → Bool) → ((x : ℕ) → top 7 (f x) ≡ test x) → (v : List ℕ) → map (top 7) (map f v) ≡ map test v
each f test h [] = refl
each f test h (x ∷ v) = ap₂ (λ b bs. b ∷ bs) (h x) (each f test h v)

-- the marks of lanes that report a test
marks : (f : ℕ → ℕ) (test : ℕ → Bool) → ((x : ℕ) → top 7 (f x) ≡ test x) → (v z : List ℕ) → length v ≤ 64 → z ≡ map f v →
    mask_l (map (top 7) z) % 2 ^ 64 ≡ mask_l (map test v)
marks f test h v z few e =
    ap (λ l. mask_l l % 2 ^ 64) (ap (map (top 7)) e ∙ each f test h v) ∙ mask_l-mod (map test v) 64 (omega (arith, length-map v test, few))

two : (a b : Bool) → top 7 (bit_or (cond a 255 0) (cond b 255 0)) ≡ (a || b)
two true true = refl
two true false = refl
two false true = refl
two false false = refl

three : (a b c : Bool) → top 7 (bit_or (bit_or (cond a 255 0) (cond b 255 0)) (cond c 255 0)) ≡ ((a || b) || c)
three true true true = refl
three true true false = refl
three true false true = refl
three true false false = refl
three false true true = refl
three false true false = refl
three false false true = refl
three false false false = refl

pub first-two : (a b n : ℕ) (v : List ℕ) → length v ≡ n → n ≤ 64 →
    first_set (mask_l (map (top 7) (zip2 bit_or (zip2 hit v (replicate n a)) (zip2 hit v (replicate n b)))) % 2 ^ 64) n ≡ before_first (is_byte2 a b) v
first-two a b n v long few =
    let lanes = ap₂ (zip2 bit_or) (zip2_splat hit v n a long) (zip2_splat hit v n b long) ∙ joined (λ x. hit x a) (λ x. hit x b) v in
    ap (λ m. first_set m n) (marks (λ x. bit_or (hit x a) (hit x b)) (is_byte2 a b) (λ x. two (eqb x a) (eqb x b)) v _ (omega (arith, long, few)) lanes)
    ∙ first_set_mask_l (is_byte2 a b) v n long few

pub first-three : (a b c n : ℕ) (v : List ℕ) → length v ≡ n → n ≤ 64 →
    first_set (mask_l (map (top 7) (zip2 bit_or (zip2 bit_or (zip2 hit v (replicate n a)) (zip2 hit v (replicate n b))) (zip2 hit v (replicate n c)))) % 2 ^ 64) n
    ≡ before_first (is_byte3 a b c) v
first-three a b c n v long few =
    let lanes = ap₂ (zip2 bit_or) (ap₂ (zip2 bit_or) (zip2_splat hit v n a long) (zip2_splat hit v n b long) ∙ joined (λ x. hit x a) (λ x. hit x b) v)
    (zip2_splat hit v n c long) ∙ joined (λ x. bit_or (hit x a) (hit x b)) (λ x. hit x c) v in
    ap (λ m. first_set m n)
    (marks (λ x. bit_or (bit_or (hit x a) (hit x b)) (hit x c)) (is_byte3 a b c) (λ x. three (eqb x a) (eqb x b) (eqb x c)) v _ (omega (arith, long, few)) lanes)
    ∙ first_set_mask_l (is_byte3 a b c) v n long few

-- what a lane holds when it is compared with a byte above it
abbrev low : ℕ → ℕ → ℕ
low x b = cond (ltb x b) 255 0

one : (a : Bool) → top 7 (cond a 255 0) ≡ a
one true = refl
one false = refl

pub first-low : (v : List ℕ) → length v ≡ 64 →
    first_set (mask_l (map (top 7) (zip2 low v (replicate 64 33))) % 2 ^ 64) 64 ≡ before_first is_low v
first-low v long =
    ap (λ m. first_set m 64) (marks (λ x. low x 33) is_low (λ x. one (ltb x 33)) v _ (omega (arith, long)) (zip2_splat low v 64 33 long))
    ∙ first_set_mask_l is_low v 64 long (omega arith)

pub stops-in : (v : List ℕ) → length v ≡ 64 →
    mask_l (map (top 7) (zip2 bit_or (zip2 hit v (replicate 64 44)) (zip2 low v (replicate 64 33)))) % 2 ^ 64 ≡ mask_l (map is_stop v)
stops-in v long =
    let lanes = ap₂ (zip2 bit_or) (zip2_splat hit v 64 44 long) (zip2_splat low v 64 33 long) ∙ joined (λ x. hit x 44) (λ x. low x 33) v in
    marks (λ x. bit_or (hit x 44) (low x 33)) is_stop (λ x. two (eqb x 44) (ltb x 33)) v _ (omega (arith, long)) lanes

-- ---- from the bytes that were looked at to the places in the text

module _ (test : ℕ → Bool) (text : List ℕ) (from n seen : ℕ) (room : from + n ≤ length text) (counted : seen ≡ before_first test (take n (drop from text)))
    (before : Nowhere (Passes test text) 0 from) where
  -- none of those that were seen passes
  seen-none : Nowhere (Passes test text) 0 (from + seen)
  seen-none = λ k low high passes. elim (cases_lt k from) [
    | inl early ↦ before k low early passes
    | inr late ↦ false≢true (sym (run_in_chunk_fails test text from n seen 0 room counted k late high) ∙ passes)
  ]

  -- the next one passes, if it was looked at
  pub seen-first : (end : ℕ) → end ≡ from + seen → seen < n → NoneBefore (Passes test text) 0 (length text) end × Passes test text end
  seen-first end e short = subst (λ m. NoneBefore (Passes test text) 0 (length text) m × Passes test text m) (sym e) (
    record { low = omega arith; high = omega (arith, room, short); before = seen-none },
    run_in_chunk_stops test text from n seen 0 room counted short,
  )

  -- if all were seen, none passes up to their end
  pub seen-all : (end : ℕ) → end ≡ from + n → (seen < n → ⊥) → Nowhere (Passes test text) 0 end
  seen-all end e all =
      let same : from + seen ≡ end = omega (arith, e, all, run_in_chunk_le test text from n seen 0 room counted) in
      subst (λ m. Nowhere (Passes test text) 0 m) same seen-none

-- ---- the marks of a text

some-marked : (test : ℕ → Bool) (v : List ℕ) → (mask_l (map test v) ≡ 0 → ⊥) → before_first test v < length v
some-marked test [] some = absurd (some refl)
some-marked test (x ∷ v) some = by (test x) some (some-marked test v) where
  by : (t : Bool) → (cond t 1 0 + 2 * mask_l (map test v) ≡ 0 → ⊥) → ((mask_l (map test v) ≡ 0 → ⊥) → before_first test v < length v) →
      cond (not t) (1 + before_first test v) 0 < suc (length v)
  by true s h = omega arith
  by false s h = omega (arith, h (λ z. s (omega (arith, z))))

-- the lowest mark is that of the first stop
pub first-stop : (marked : ℕ) (text : List ℕ) (end : ℕ) → AreMarks marked text → (marked ≡ 0 → ⊥) → end ≡ trailing_zeros w64 marked →
    NoneBefore (Passes is_stop text) 0 (length text) end × Passes is_stop text end
first-stop marked text end are some lowest =
    let n = are.looked in
    let v = take n text in
    let long : length v ≡ n = length-take-le n text are.within in
    let any : mask_l (map is_stop v) ≡ 0 → ⊥ = λ z. some (are.same ∙ z) in
    let counted : end ≡ before_first is_stop v =
    lowest ∙ ap (trailing_zeros w64) are.same ∙ trailing_mask_l is_stop 64 v (omega (arith, long, are.few)) (positive (mask_l (map is_stop v)) any) in
    let short : end < n = omega (arith, counted, long, some-marked is_stop v any) in
    seen-first is_stop text 0 n end (omega (arith, are.within)) counted (λ k lower high. absurd (omega (arith, high))) end (omega arith) short
  where
    positive : (m : ℕ) → (m ≡ 0 → ⊥) → 0 < m
    positive zero none = absurd (none refl)
    positive (suc m) none = omega arith

half : (m : Bool) (n : ℕ) → (cond m 1 0 + 2 * n) / 2 ≡ n
half true n = let e : 1 + 2 * n ≡ n * 2 + 1 = omega arith in ap (λ k. k / 2) e ∙ div-mul-add n 2 1 (omega arith)
half false n = let e : 0 + 2 * n ≡ n * 2 + 0 = omega arith in ap (λ k. k / 2) e ∙ div-mul-add n 2 0 (omega arith)

mask-drop : (k : ℕ) (ms : List Bool) → mask_l ms / 2 ^ k ≡ mask_l (drop k ms)
mask-drop zero ms = div-one (mask_l ms)
mask-drop (suc k) [] = zero-div (2 ^ suc k)
mask-drop (suc k) (m ∷ ms) =
    let e : suc k ≡ 1 + k = omega arith in
    ap (λ n. mask_l (m ∷ ms) / 2 ^ n) e ∙ sym (shr-shr (mask_l (m ∷ ms)) 1 k) ∙ ap (λ n. n / 2 ^ k) (half m (mask_l ms)) ∙ mask-drop k ms

pub no-marks : (text : List ℕ) → AreMarks 0 text
no-marks text = record { looked = 0; few = omega arith; within = omega arith; same = refl }

pub marks-behind : (marked end : ℕ) (text : List ℕ) → AreMarks marked text → AreMarks (marked / 2 ^ end / 2 ^ 1) (drop (end + 1) text)
marks-behind marked end text are =
    let n = are.looked in
    let behind = end + 1 in
    let shifted : marked / 2 ^ end / 2 ^ 1 ≡ mask_l (map is_stop (drop behind (take n text))) =
    shr-shr marked end 1 ∙ ap (λ m. m / 2 ^ behind) are.same ∙ mask-drop behind (map is_stop (take n text)) ∙ ap mask_l (drop-map is_stop behind (take n text)) in
    elim (cases_lt n behind) [
      | inl short ↦
          let none = drop_all behind (take n text) (omega (arith, short, length-take-le n text are.within)) in
          record { looked = 0; few = omega arith; within = omega arith; same = shifted ∙ ap (λ v. mask_l (map is_stop v)) none }
      | inr enough ↦
          let left = n - behind in
          let all : n ≡ behind + left = omega (arith, enough) in
          record {
            looked = left;
            few = omega (arith, are.few);
            within = omega (arith, are.within, enough, length-drop behind text);
            same = shifted ∙ ap (λ k. mask_l (map is_stop (drop behind (take k text)))) all
                ∙ ap (λ v. mask_l (map is_stop v)) (drop-take behind left text);
          }
    ]
