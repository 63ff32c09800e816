-- How a walk continues from one list of suffixes to the next.
use Rattle.std.proofs.Common.{◌≡◌, ℕ, zero, suc, ◌+◌, ◌-◌, ◌<◌, ◌≤◌, Bool, true, false, nat_lt, inl, inr, List, [], ◌∷◌, ◌++◌, length, flat_map, if◌then◌else◌, Some, None, Result, Ok, Err, refl, sym, ap, arith, ltb-true, lt-ltb, le-ltb, eq-eqb, ne_eqb, ◌∙◌}
use Rattle.std.specs.List.{range_with_len}
use Rattle.std.proofs.lemmas.Bool.{cases_Bool, cases_eq, both_ways, false_from_ne_true}
use Rattle.irv_base.specs.Candidates.{candidates, is_in}
use Rattle.irv_base.specs.Suffixes.{is_suffix, whole}
use Rattle.irv_base.proofs.Members.{Member, here, there, member_cases, member_nil, from_flat_map, from_candidates}
use Rattle.irv_base.proofs.Suffixes.{suffix_more, suffix-short}
use Rattle.assertions.specs.Suffixes.{suffixes_ending}
use Rattle.suffix_walk.specs.Kept.{is_parent_kept, all_ending}
use Rattle.suffix_walk.specs.Walks.{walked}
use Rattle.suffix_walk.specs.declared.walk.Stop.{Stop}
use Rattle.suffix_walk.specs.declared.walk.Stop.TheVariants.{Found, Spent}

abbrev pub child : ℕ → List ℕ → ℕ → List (List ℕ)
child n t c = if is_in t c then [] else all_ending n (c ∷ t)

pub all_ending-step : (n : ℕ) (t : List ℕ) → length t < n → all_ending n t ≡ t ∷ flat_map (child n t) (candidates n)
all_ending-step n t h =
    let e : n - length t ≡ suc (n - suc (length t)) = omega arith in
    ap (λ k. suffixes_ending n k t) e

pub all_ending-whole : (n : ℕ) (t : List ℕ) → n ≤ length t → all_ending n t ≡ t ∷ []
all_ending-whole n t h =
    let e : n - length t ≡ 0 = omega arith in
    ap (λ k. suffixes_ending n k t) e

-- ---- what ends in the children of a suffix, from a candidate in front on
abbrev pub below_from : ℕ → List ℕ → ℕ → List (List ℕ)
below_from n t c = flat_map (child n t) (range_with_len c (n - c))

pub below_from-start : (n : ℕ) (t : List ℕ) → below_from n t 0 ≡ flat_map (child n t) (candidates n)
below_from-start n t = let e : n - 0 ≡ n = omega arith in ap (λ k. flat_map (child n t) (range_with_len 0 k)) e

below_from-step : (n : ℕ) (t : List ℕ) (c : ℕ) → c < n → below_from n t c ≡ child n t c ++ below_from n t (c + 1)
below_from-step n t c l = let e : n - c ≡ suc (n - (c + 1)) = omega arith in ap (λ k. flat_map (child n t) (range_with_len c k)) e

pub below_from-end : (n : ℕ) (t : List ℕ) (c : ℕ) → n ≤ c → below_from n t c ≡ []
below_from-end n t c l = let e : n - c ≡ 0 = omega arith in ap (λ k. flat_map (child n t) (range_with_len c k)) e

pub below_from-passes : (n : ℕ) (t : List ℕ) (c : ℕ) → c < n → is_in t c ≡ true → below_from n t c ≡ below_from n t (c + 1)
below_from-passes n t c l h = below_from-step n t c l ∙ (rw h refl)

pub below_from-goes : (n : ℕ) (t : List ℕ) (c : ℕ) → c < n → is_in t c ≡ false → below_from n t c ≡ all_ending n (c ∷ t) ++ below_from n t (c + 1)
below_from-goes n t c l h = below_from-step n t c l ∙ (rw h refl)

-- ---- whole orders
pub record IsWhole (n : ℕ) (t order : List ℕ) : Type 0 where
  pub long : n ≤ length t
  pub same : t ≡ order

pub from_whole : (n : ℕ) (t order : List ℕ) → whole n t ≡ Some order → IsWhole n t order
from_whole n t order h =
    elim (cases_eq (length t) n) [
      | inl e ↦ let w : whole n t ≡ Some t = rw (eq-eqb (length t) n e) refl in record { long = omega arith; same = cc }
      | inr ne ↦ let w : whole n t ≡ None = rw (ne_eqb (length t) n ne) refl in cc
    ]

pub short-from_none : (n : ℕ) (t : List ℕ) → is_suffix n t ≡ true → whole n t ≡ None → length t < n
short-from_none n t proper h =
    let le : length t ≤ n = suffix-short n t proper in
    elim (cases_eq (length t) n) [
      | inl e ↦ let w : whole n t ≡ Some t = rw (eq-eqb (length t) n e) refl in cc
      | inr ne ↦ omega (arith, ne)
    ]

-- a suffix is the parent of a longer one
pub parent-kept : (kept : List ℕ → Bool) (c : ℕ) (t : List ℕ) → 0 < length t → kept t ≡ true → is_parent_kept kept (c ∷ t) ≡ true
parent-kept kept c [] some h = absurd (omega arith)
parent-kept kept c (d ∷ t) some h = h

-- what comes after a walk
abbrev pub after : Result ℕ Stop → (ℕ → Result ℕ Stop) → Result ℕ Stop
after (Ok count) rest = rest count
after (Err stop) rest = Err stop

module _ (n nodes : ℕ) (kept : List ℕ → Bool) where
  pub walked-append : (count : ℕ) (xs ys : List (List ℕ)) → walked n nodes kept count (xs ++ ys)
      ≡ after (walked n nodes kept count xs) (λ j. walked n nodes kept j ys)
  walked-append count [] ys = refl
  walked-append count (s ∷ xs) ys = go (kept s) (nat_lt (length s) n) (nat_lt count nodes) (walked-append count xs ys) (walked-append (count + 1) xs ys) where
    go : (a b d : Bool) → walked n nodes kept count (xs ++ ys) ≡ after (walked n nodes kept count xs) (λ j. walked n nodes kept j ys) →
        walked n nodes kept (count + 1) (xs ++ ys) ≡ after (walked n nodes kept (count + 1) xs) (λ j. walked n nodes kept j ys) →
        (if a then (if b then (if d then walked n nodes kept (count + 1) (xs ++ ys) else Err Spent) else Err (Found s)) else walked n nodes kept count
        (xs ++ ys))
        ≡ after (if a then (if b then (if d then walked n nodes kept (count + 1) xs else Err Spent) else Err (Found s)) else walked n nodes kept count xs)
        (λ j. walked n nodes kept j ys)
    go true true true e f = f
    go true true false e f = refl
    go true false d e f = refl
    go false b d e f = e

  pub walked_none : (count : ℕ) (xs : List (List ℕ)) → ((s : List ℕ) → Member s xs → kept s ≡ false) → walked n nodes kept count xs ≡ Ok count
  walked_none count [] h = refl
  walked_none count (s ∷ xs) h = rw (h s here) (walked_none count xs (λ z m. h z (there m)))

  pub walked-bounded : (count : ℕ) (xs : List (List ℕ)) (j : ℕ) → count ≤ nodes → walked n nodes kept count xs ≡ Ok j → j ≤ nodes
  walked-bounded count [] j le e = let same : count ≡ j = cc in omega arith
  walked-bounded count (s ∷ xs) j le e =
      go (kept s) (nat_lt (length s) n) (nat_lt count nodes) refl e (walked-bounded count xs j le) (λ l. walked-bounded (count + 1) xs j l)
    where
      go : (a b d : Bool) → nat_lt count nodes ≡ d →
          (if a then (if b then (if d then walked n nodes kept (count + 1) xs else Err Spent) else Err (Found s)) else walked n nodes kept count xs) ≡ Ok j →
          (walked n nodes kept count xs ≡ Ok j → j ≤ nodes) → (count + 1 ≤ nodes → walked n nodes kept (count + 1) xs ≡ Ok j → j ≤ nodes) → j ≤ nodes
      go true true true k e p q = let lt : count < nodes = ltb-true count nodes k in q (omega arith) e
      go true true false k e p q = cc
      go true false d k e p q = cc
      go false b d k e p q = p e

  module _ (shrinks : (c : ℕ) (s : List ℕ) → is_suffix n (c ∷ s) ≡ true → kept (c ∷ s) ≡ true → kept s ≡ true) where
    none_kept : (k : ℕ) (t : List ℕ) → is_suffix n t ≡ true → kept t ≡ false → (s : List ℕ) → Member s (suffixes_ending n k t) → kept s ≡ false
    none_kept zero t h f s m = elim (member_cases m) [ inl e ↦ ap kept (sym e) ∙ f | inr r ↦ absurd (member_nil r) ]
    none_kept (suc k) t h f s m =
        elim (member_cases m) [
          | inl e ↦ ap kept (sym e) ∙ f
          | inr r ↦
              let (c, inn, k') = from_flat_map (λ c. if is_in t c then [] else suffixes_ending n k (c ∷ t)) s (candidates n) r in
              elim (cases_Bool (is_in t c)) [
                | inl in' ↦ absurd (member_nil (rw in' at k'))
                | inr out ↦
                    let m' : Member s (suffixes_ending n k (c ∷ t)) = rw out at k' in
                    let h' = suffix_more n c t (from_candidates inn) out h in
                    let f' : kept (c ∷ t) ≡ false = false_from_ne_true (kept (c ∷ t)) (λ g. both_ways (kept t) f (shrinks c t h' g)) in
                    none_kept k (c ∷ t) h' f' s m'
              ]
        ]

    pub walked-dropped : (count : ℕ) (t : List ℕ) → is_suffix n t ≡ true → kept t ≡ false → walked n nodes kept count (all_ending n t) ≡ Ok count
    walked-dropped count t h f = walked_none count (all_ending n t) (none_kept (n - length t) t h f)

  pub walked-found : (count : ℕ) (t : List ℕ) → kept t ≡ true → n ≤ length t → walked n nodes kept count (all_ending n t) ≡ Err (Found t)
  walked-found count t k le = ap (walked n nodes kept count) (all_ending-whole n t le) ∙ (rw (k, le-ltb (length t) n le) refl)

  pub walked-spent : (count : ℕ) (t : List ℕ) → kept t ≡ true → length t < n → nodes ≤ count → walked n nodes kept count (all_ending n t) ≡ Err Spent
  walked-spent count t k lt le = ap (walked n nodes kept count) (all_ending-step n t lt) ∙ (rw (k, lt-ltb (length t) n lt, le-ltb count nodes le) refl)

  pub walked-enters : (count : ℕ) (t : List ℕ) → kept t ≡ true → length t < n → count < nodes →
      walked n nodes kept count (all_ending n t) ≡ walked n nodes kept (count + 1) (flat_map (child n t) (candidates n))
  walked-enters count t k lt l = ap (walked n nodes kept count) (all_ending-step n t lt) ∙ (rw (k, lt-ltb (length t) n lt, lt-ltb count nodes l) refl)

  -- ---- the loop over the candidates
  abbrev pub rest : ℕ → List ℕ → ℕ → Result ℕ Stop
  rest count t c = walked n nodes kept count (below_from n t c)

  pub rest-start : (count : ℕ) (t : List ℕ) → rest count t 0 ≡ walked n nodes kept count (flat_map (child n t) (candidates n))
  rest-start count t = ap (walked n nodes kept count) (below_from-start n t)

  pub rest-step : (count : ℕ) (t : List ℕ) (c : ℕ) → c < n → is_in t c ≡ false → rest count t c
      ≡ after (walked n nodes kept count (all_ending n (c ∷ t))) (λ j. rest j t (c + 1))
  rest-step count t c l out = ap (walked n nodes kept count) (below_from-goes n t c l out) ∙ walked-append count (all_ending n (c ∷ t)) (below_from n t (c + 1))

  pub rest-end : (count : ℕ) (t : List ℕ) (c : ℕ) → n ≤ c → rest count t c ≡ Ok count
  rest-end count t c l = ap (walked n nodes kept count) (below_from-end n t c l)

  pub rest-passes : (count : ℕ) (t : List ℕ) (c : ℕ) → c < n → is_in t c ≡ true → rest count t c ≡ rest count t (c + 1)
  rest-passes count t c l h = ap (walked n nodes kept count) (below_from-passes n t c l h)

  pub rest-goes : (count j : ℕ) (t : List ℕ) (c : ℕ) → c < n → is_in t c ≡ false → walked n nodes kept count (all_ending n (c ∷ t)) ≡ Ok j →
      rest count t c ≡ rest j t (c + 1)
  rest-goes count j t c l out e = rest-step count t c l out ∙ ap (λ r. after r (λ j. rest j t (c + 1))) e

  pub rest-stops : (count : ℕ) (stop : Stop) (t : List ℕ) (c : ℕ) → c < n → is_in t c ≡ false → walked n nodes kept count (all_ending n (c ∷ t)) ≡ Err stop →
      rest count t c ≡ Err stop
  rest-stops count stop t c l out e = rest-step count t c l out ∙ ap (λ r. after r (λ j. rest j t (c + 1))) e
