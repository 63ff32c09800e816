-- Assertions that are offered to a score one by one, for all records that have these numbers.
use Rattle.std.proofs.Common.{◌≡◌, ◌==◌, ◌&&◌, ◌||◌, ℕ, ◌+◌, ◌<◌, nat_lt, Bool, true, false, not, inl, inr, Some, List, [], ◌∷◌, map, filter, cond, length, get_or, drop, refl, sym, ap, arith, ltb-true, eqb-true, ◌∙◌}
use Rattle.std.proofs.lemmas.Bool.{and_parts, both_ways, ltb-false, or_cases}
use Rattle.std.proofs.lemmas.List.{drop_more}
use Rattle.irv_base.specs.Candidates.{has}
use Rattle.assertions.specs.declared.assertion.Assertion.{Assertion}
use Rattle.assertions.specs.declared.assertion.Assertion.TheVariants.{Neb}
use Rattle.assertions.specs.Assertions.{is_true, true_margin, votes_for, votes_against}
use Rattle.assertions.specs.Scores.{Score, offered, all_offered, is_before_that}
use Rattle.suffix_tree.specs.Offers.{IsSomeByMargin}

-- the NEBs of those in a list that aren't in the set
abbrev pub nebs_of : ℕ → ℕ → List ℕ → List Assertion
nebs_of set c winners = map (λ w. Neb w c) (filter (λ w. not (has set w)) winners)

nebs-next : (set c w : ℕ) (rest : List ℕ) → nebs_of set c (w ∷ rest) ≡ cond (has set w) (nebs_of set c rest) (Neb w c ∷ nebs_of set c rest)
nebs-next set c w rest = go (has set w) where
  go : (b : Bool) → map (λ w. Neb w c) (cond (not b) (w ∷ filter (λ w. not (has set w)) rest) (filter (λ w. not (has set w)) rest))
      ≡ cond b (nebs_of set c rest) (Neb w c ∷ nebs_of set c rest)
  go true = refl
  go false = refl

-- the next element of a list
at-next : (xs : List ℕ) (i w : ℕ) → i < length xs → get_or xs i 0 ≡ w → drop i xs ≡ w ∷ drop (i + 1) xs
at-next xs i w within at = drop_more xs i 0 within ∙ ap (λ x. x ∷ drop (i + 1) xs) at

pub neb-taken : (records : List (List ℕ)) (set c i w : ℕ) (winners : List ℕ) (score : Score) → i < length winners → get_or winners i 0 ≡ w → has set w ≡ false →
    all_offered records (offered score (true_margin records (Neb w c)) (Neb w c)) (nebs_of set c (drop (i + 1) winners))
    ≡ all_offered records score (nebs_of set c (drop i winners))
neb-taken records set c i w winners score within at out =
    ap (all_offered records score) (sym (ap (nebs_of set c) (at-next winners i w within at) ∙ nebs-next set c w (drop (i + 1) winners)
    ∙ ap (λ b. cond b (nebs_of set c (drop (i + 1) winners)) (Neb w c ∷ nebs_of set c (drop (i + 1) winners))) out))

pub neb-left : (records : List (List ℕ)) (set c i w : ℕ) (winners : List ℕ) (score : Score) → i < length winners → get_or winners i 0 ≡ w → has set w ≡ true →
    all_offered records score (nebs_of set c (drop (i + 1) winners)) ≡ all_offered records score (nebs_of set c (drop i winners))
neb-left records set c i w winners score within at is =
    ap (all_offered records score) (sym (ap (nebs_of set c) (at-next winners i w within at) ∙ nebs-next set c w (drop (i + 1) winners)
    ∙ ap (λ b. cond b (nebs_of set c (drop (i + 1) winners)) (Neb w c ∷ nebs_of set c (drop (i + 1) winners))) is))

-- ---- a NEB that isn't true changes no score
abbrev is_better : Score → ℕ → Assertion → Bool
is_better score margin a = nat_lt score.low margin || ((score.low == margin) && is_before_that a score.by)

-- nothing without a margin is better
none-better : (score : Score) (margin : ℕ) (a : Assertion) → IsSomeByMargin score → margin ≡ 0 → is_better score margin a ≡ true → ⊥
none-better score margin a some none e = elim (or_cases (nat_lt score.low margin) ((score.low == margin) && is_before_that a score.by) e) [
  | inl l ↦ let lt = ltb-true score.low margin l in omega arith
  | inr r ↦
      let (same, first) = and_parts (score.low == margin) (is_before_that a score.by) r in
      let last : is_before_that a score.by ≡ false = ap (is_before_that a) (some (eqb-true score.low margin same ∙ none)) in
      both_ways (is_before_that a score.by) last first
]

untrue : (score : Score) (margin : ℕ) (a : Assertion) → IsSomeByMargin score → margin ≡ 0 → offered score margin a ≡ score
untrue score margin a some none = go (is_better score margin a) refl where
  go : (b : Bool) → is_better score margin a ≡ b → cond b (record { low = margin; by = Some a }) score ≡ score
  go true e = absurd (none-better score margin a some none e)
  go false e = refl

-- an offer with a margin doesn't take the assertion away either
still : (score : Score) (margin : ℕ) (a : Assertion) → IsSomeByMargin score → IsSomeByMargin (offered score margin a)
still score margin a some = go (is_better score margin a) refl where
  go : (b : Bool) → is_better score margin a ≡ b → IsSomeByMargin (cond b (record { low = margin; by = Some a }) score)
  go true e z = absurd (none-better score margin a some z e)
  go false e z = some z

pub untrue-left : (records : List (List ℕ)) (set c : ℕ) (winners : List ℕ) (score : Score) → IsSomeByMargin score →
    all_offered records score (nebs_of set c (filter (λ w. is_true records (Neb w c)) winners)) ≡ all_offered records score (nebs_of set c winners)
untrue-left records set c [] score some = refl
untrue-left records set c (w ∷ rest) score some =
    go (is_true records (Neb w c)) refl (has set w) refl (λ s h. untrue-left records set c rest s h)
  where
    kept : List ℕ
    kept = filter (λ w. is_true records (Neb w c)) rest

    with_this : Score
    with_this = offered score (true_margin records (Neb w c)) (Neb w c)

    taken : (ws : List ℕ) → has set w ≡ false → all_offered records score (nebs_of set c (w ∷ ws)) ≡ all_offered records with_this (nebs_of set c ws)
    taken ws out = ap (all_offered records score) (nebs-next set c w ws ∙ ap (λ b. cond b (nebs_of set c ws) (Neb w c ∷ nebs_of set c ws)) out)

    passed : (ws : List ℕ) → has set w ≡ true → all_offered records score (nebs_of set c (w ∷ ws)) ≡ all_offered records score (nebs_of set c ws)
    passed ws is = ap (all_offered records score) (nebs-next set c w ws ∙ ap (λ b. cond b (nebs_of set c ws) (Neb w c ∷ nebs_of set c ws)) is)

    go : (t : Bool) → is_true records (Neb w c) ≡ t → (b : Bool) → has set w ≡ b →
        ((s : Score) → IsSomeByMargin s → all_offered records s (nebs_of set c kept) ≡ all_offered records s (nebs_of set c rest)) →
        all_offered records score (nebs_of set c (cond t (w ∷ kept) kept)) ≡ all_offered records score (nebs_of set c (w ∷ rest))
    go true e true is ih = passed kept is ∙ ih score some ∙ sym (passed rest is)
    go true e false out ih =
        taken kept out ∙ ih with_this (still score (true_margin records (Neb w c)) (Neb w c) some) ∙ sym (taken rest out)
    go false e true is ih = ih score some ∙ sym (passed rest is)
    go false e false out ih =
        let le = ltb-false (votes_against records (Neb w c)) (votes_for records (Neb w c)) e in
        let none : true_margin records (Neb w c) ≡ 0 = omega (arith, le) in
        ih score some
        ∙ ap (λ s. all_offered records s (nebs_of set c rest)) (sym (untrue score (true_margin records (Neb w c)) (Neb w c) some none))
        ∙ sym (taken rest out)
