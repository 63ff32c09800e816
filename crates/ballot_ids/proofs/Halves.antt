-- Lists that are distinguished by their first and last elements, which together are all elements.
use Rattle.std.proofs.Common.{◌≡◌, ◌∙◌, ◌≤◌, ◌+◌, ◌-◌, ◌++◌, ◌==◌, ◌∷◌, [], ℕ, zero, suc, Bool, true, List, length, take, drop, refl, sym, ap, ap₂, arith, eq-eqb, eqb-true}
use Rattle.std.specs.Cmp.{both_ways}
use Rattle.std.specs.Cmp.Lexicographic.{bytes_decides}
use Rattle.std.proofs.lemmas.List.{drop-drop, length-drop, take-append-drop, take_all}
use Rattle.std.proofs.lemmas.List.Folds.{list_all-append}
use Rattle.std.proofs.lemmas.Bool.{and_from, and_parts}
use Rattle.std.specs.List.{list_all}
use Rattle.irv_base.specs.Names.{Id, is_same}

-- the last w elements
abbrev pub last : ℕ → List ℕ → List ℕ
last w xs = take w (drop (length xs - w) xs)

last-drop : (w : ℕ) (xs : List ℕ) → w ≤ length xs → last w xs ≡ drop (length xs - w) xs
last-drop w xs fewest = take_all w (drop (length xs - w) xs) (omega (arith, length-drop (length xs - w) xs, fewest))

-- what comes after the first w elements is among the last w
behind-first : (w : ℕ) (xs : List ℕ) → w ≤ length xs → length xs ≤ w + w → drop w xs ≡ drop (w + w - length xs) (last w xs)
behind-first w xs fewest most =
    let at : length xs - w + (w + w - length xs) ≡ w = omega (arith, fewest, most) in
    sym (ap (λ n. drop n xs) at) ∙ sym (drop-drop (w + w - length xs) (length xs - w) xs) ∙ ap (drop (w + w - length xs)) (sym (last-drop w xs fewest))

same-halves : (w : ℕ) (a b : List ℕ) → length a ≡ length b → w ≤ length a → length a ≤ w + w → take w a ≡ take w b → last w a ≡ last w b → a ≡ b
same-halves w a b long fewest most first behind =
    sym (take-append-drop w a)
    ∙ ap₂ (λ xs ys. xs ++ ys) first (behind-first w a fewest most ∙ ap₂ (λ n xs. drop (w + w - n) xs) long behind
    ∙ sym (behind-first w b (omega (arith, long, fewest)) (omega (arith, long, most))))
    ∙ take-append-drop w b

-- ids whose first elements are the same, given that two numbers are the same exactly if the ids' last elements are
pub same-by-last : (w : ℕ) (a b : Id) (x y : ℕ) → length a ≡ length b → w ≤ length a → length a ≤ w + w → take w a ≡ take w b →
    (x ≡ y → last w a ≡ last w b) → (last w a ≡ last w b → x ≡ y) → (x == y) ≡ is_same a b
same-by-last w a b x y long fewest most first tells told =
    both_ways (x == y) (is_same a b)
    (λ e. (bytes_decides a b).1 (same-halves w a b long fewest most first (tells (eqb-true x y e))))
    (λ e. eq-eqb x y (told (ap (last w) ((bytes_decides a b).0 e))))

-- ---- a test that all elements pass

drop-passes : (test : ℕ → Bool) (k : ℕ) (xs : List ℕ) → list_all test xs ≡ true → list_all test (drop k xs) ≡ true
drop-passes test zero xs h = h
drop-passes test (suc k) [] h = refl
drop-passes test (suc k) (x ∷ xs) h = drop-passes test k xs (and_parts (test x) (list_all test xs) h).1

-- if the first elements pass, all do exactly if the last do
pub all-by-last : (test : ℕ → Bool) (w : ℕ) (xs : List ℕ) → w ≤ length xs → length xs ≤ w + w → list_all test (take w xs) ≡ true →
    list_all test (last w xs) ≡ list_all test xs
all-by-last test w xs fewest most first =
    both_ways (list_all test (last w xs)) (list_all test xs)
    (λ e.
    let rest : list_all test (drop w xs) ≡ true =
    ap (list_all test) (behind-first w xs fewest most) ∙ drop-passes test (w + w - length xs) (last w xs) e in
    ap (list_all test) (sym (take-append-drop w xs)) ∙ list_all-append test (take w xs) (drop w xs)
    ∙ and_from (list_all test (take w xs)) (list_all test (drop w xs)) first rest)
    (λ e. ap (list_all test) (last-drop w xs fewest) ∙ drop-passes test (length xs - w) xs e)
