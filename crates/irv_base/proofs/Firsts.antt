-- Lists of candidates, each of whom counts only at its first place.
use Rattle.std.proofs.Common.{◌≡◌, ◌++◌, ◌∷◌, [], ◌∙◌, ◌+◌, ◌<◌, ◌||◌, ◌==◌, not, ℕ, Bool, true, false, List, length, take, get_or, refl, sym, ap, inl, inr, arith}
use Rattle.std.specs.Prelude.{filter, if◌then◌else◌}
use Rattle.std.proofs.lemmas.Bool.{and_parts, cases_Bool, both_ways, ne_eqb, not-true}
use Rattle.std.proofs.lemmas.List.{append-nil, take_more}
use Rattle.std.proofs.lemmas.List.Elements.{filter-append}
use Rattle.irv_base.specs.Candidates.{is_in, is_distinct}
use Rattle.irv_base.specs.Records.{firsts}
use Rattle.irv_base.proofs.Bits.{or-false as or-none}

or-false : (a b : Bool) → (a || b) ≡ false → (a ≡ false) × (b ≡ false)
or-false false b h = (refl, h)
or-false true b h = absurd (both_ways true h refl)

filter-same : (p : ℕ → Bool) (xs : List ℕ) (c : ℕ) → p c ≡ true → is_in (filter p xs) c ≡ is_in xs c
filter-same p [] c h = refl
filter-same p (x ∷ xs) c h = elim (cases_Bool (p x)) [
  | inl t ↦ ap (λ b. is_in (if b then x ∷ filter p xs else filter p xs) c) t ∙ ap (λ b. (x == c) || b) (filter-same p xs c h)
  | inr f ↦ ap (λ b. is_in (if b then x ∷ filter p xs else filter p xs) c) f ∙ filter-same p xs c h
      ∙ ap (λ b. b || is_in xs c) (sym (ne_eqb x c (λ e. both_ways (p c) (ap p (sym e) ∙ f) h)))
]

eqb-sym : (a b : ℕ) → (a == b) ≡ (b == a)
eqb-sym a b = grind arith

-- an element that isn't taken is found as before
is_in-filter : (cs : List ℕ) (c d : ℕ) → (c == d) ≡ false → is_in (filter (λ e. not (e == c)) cs) d ≡ is_in cs d
is_in-filter cs c d h = filter-same (λ e. not (e == c)) cs d (ap not (eqb-sym d c ∙ h))

is_in-firsts : (cs : List ℕ) (c : ℕ) → is_in (firsts cs) c ≡ is_in cs c
is_in-firsts [] c = refl
is_in-firsts (a ∷ cs) c = elim (cases_Bool (a == c)) [
  | inl t ↦ ap (λ b. b || is_in (filter (λ e. not (e == a)) (firsts cs)) c) t ∙ ap (λ b. b || is_in cs c) (sym t)
  | inr f ↦ ap (λ b. (a == c) || b) (is_in-filter (firsts cs) a c f ∙ is_in-firsts cs c)
]

pub firsts-more : (cs : List ℕ) (c : ℕ) → is_in (firsts cs) c ≡ false → firsts (cs ++ c ∷ []) ≡ firsts cs ++ c ∷ []
firsts-more [] c h = refl
firsts-more (a ∷ cs) c h =
    let (first, rest) = or-false (a == c) (is_in (filter (λ e. not (e == a)) (firsts cs)) c) h in
    let later = sym (is_in-filter (firsts cs) a c first) ∙ rest in
    ap (λ ds. a ∷ filter (λ e. not (e == a)) ds) (firsts-more cs c later)
    ∙ ap (λ ds. a ∷ ds) (filter-append (λ e. not (e == a)) (firsts cs) (c ∷ [])
    ∙ ap (λ b. filter (λ e. not (e == a)) (firsts cs) ++ (if b then c ∷ [] else [])) (ap not (eqb-sym c a ∙ first)))

filter-last : (cs : List ℕ) (a c : ℕ) → (a == c) ≡ true → filter (λ e. not (e == a)) (cs ++ c ∷ []) ≡ filter (λ e. not (e == a)) cs
filter-last cs a c h =
    filter-append (λ e. not (e == a)) cs (c ∷ []) ∙ ap (λ b. filter (λ e. not (e == a)) cs ++ (if b then c ∷ [] else [])) (ap not (eqb-sym c a ∙ h))
    ∙ append-nil (filter (λ e. not (e == a)) cs)

pub firsts-again : (cs : List ℕ) (c : ℕ) → is_in (firsts cs) c ≡ true → firsts (cs ++ c ∷ []) ≡ firsts cs
firsts-again [] c h = absurd cc
firsts-again (a ∷ cs) c h = elim (cases_Bool (a == c)) [
  | inl t ↦ elim (cases_Bool (is_in (firsts cs) c)) [
    | inl again ↦ ap (λ ds. a ∷ filter (λ e. not (e == a)) ds) (firsts-again cs c again)
    | inr new ↦ ap (λ ds. a ∷ filter (λ e. not (e == a)) ds) (firsts-more cs c new) ∙ ap (λ ds. a ∷ ds) (filter-last (firsts cs) a c t)
  ]
  | inr f ↦ ap (λ ds. a ∷ filter (λ e. not (e == a)) ds) (firsts-again cs c (sym (is_in-filter (firsts cs) a c f)
      ∙ ap (λ b. b || is_in (filter (λ e. not (e == a)) (firsts cs)) c) (sym f) ∙ h))
]

-- as the code learns it
pub firsts-step : (cs : List ℕ) (i c : ℕ) (old new : List ℕ) → i < length cs → c ≡ get_or cs i c → old ≡ firsts (take i cs)
    → (is_in old c ≡ false → new ≡ old ++ c ∷ []) → (is_in old c ≡ true → new ≡ old) → new ≡ firsts (take (i + 1) cs)
firsts-step cs i c old new l at seen added kept = step ∙ ap firsts (sym more) where
  more : take (i + 1) cs ≡ take i cs ++ c ∷ []
  more = take_more cs i c l ∙ ap (λ d. take i cs ++ d ∷ []) (sym at)

  step : new ≡ firsts (take i cs ++ c ∷ [])
  step = elim (cases_Bool (is_in old c)) [
    | inl t ↦ kept t ∙ seen ∙ sym (firsts-again (take i cs) c (ap (λ s. is_in s c) (sym seen) ∙ t))
    | inr f ↦ added f ∙ ap (λ s. s ++ c ∷ []) seen ∙ sym (firsts-more (take i cs) c (ap (λ s. is_in s c) (sym seen) ∙ f))
  ]

-- ---- distinct candidates

filter-absent : (cs : List ℕ) (c : ℕ) → is_in cs c ≡ false → filter (λ d. not (d == c)) cs ≡ cs
filter-absent [] c h = refl
filter-absent (x ∷ cs) c h =
    let (first, rest) = or-false (x == c) (is_in cs c) h in
    ap (λ b. if not b then x ∷ filter (λ d. not (d == c)) cs else filter (λ d. not (d == c)) cs) first ∙ ap (λ ds. x ∷ ds) (filter-absent cs c rest)

pub firsts-distinct : (cs : List ℕ) → is_distinct cs ≡ true → firsts cs ≡ cs
firsts-distinct [] h = refl
firsts-distinct (c ∷ cs) h =
    let (out, rest) = and_parts (not (is_in cs c)) (is_distinct cs) h in
    ap (λ ds. c ∷ filter (λ d. not (d == c)) ds) (firsts-distinct cs rest) ∙ ap (λ ds. c ∷ ds) (filter-absent cs c (not-true (is_in cs c) out))

-- ---- one more candidate

pub is_in-push : (cs : List ℕ) (c d : ℕ) → is_in (cs ++ c ∷ []) d ≡ (is_in cs d || (d == c))
is_in-push [] c d = or-none (c == d) ∙ eqb-sym c d
is_in-push (x ∷ cs) c d = ap (λ b. (x == d) || b) (is_in-push cs c d) ∙ in_turn (x == d) where
  in_turn : (b : Bool) → (b || (is_in cs d || (d == c))) ≡ ((b || is_in cs d) || (d == c))
  in_turn true = refl
  in_turn false = refl
