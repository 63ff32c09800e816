-- Lists of ids in which none occurs twice, and lists of candidates.
use Rattle.std.proofs.Common.{inl, inr, ◌≡◌, ◌==◌, ℕ, Bool, true, false, not, ◌&&◌, ◌||◌, List, [], ◌∷◌, ◌++◌, refl, sym, ap, ap₂, ◌∙◌}
use Rattle.std.specs.List.{list_all}
use Rattle.std.proofs.lemmas.Bool.{and_parts, and_from, and_right, or_parts, not-true, not_from_false, both_ways, cases_Bool}
use Rattle.std.proofs.lemmas.Cmp.{nat_list_eq_equiv}
use Rattle.std.proofs.lemmas.List.Folds.{list_any-append}
use Rattle.irv_base.specs.Candidates.{is_in, is_distinct}
use Rattle.irv_base.proofs.Firsts.{is_in-push}
use Rattle.irv_base.specs.Names.{Id, is_same, is_among, all_differ, is_name}
use Rattle.assertion_file.specs.Reading.{are_candidates}

same-comm : (a b : Id) → is_same a b ≡ is_same b a
same-comm a b = nat_list_eq_equiv.symm a b

differ-split : (before : List Id) (id : Id) (rest : List Id) → all_differ (before ++ id ∷ rest) ≡ true → is_among before id ≡ false
differ-split [] id rest h = refl
differ-split (a ∷ before) id rest h =
    let (out, apart) = and_parts (not (is_among (before ++ id ∷ rest) a)) (all_differ (before ++ id ∷ rest)) h in
    let none = sym (list_any-append (λ other. is_same other a) before (id ∷ rest)) ∙ not-true (is_among (before ++ id ∷ rest) a) out in
    let here = (or_parts (is_same id a) (is_among rest a) (or_parts (is_among before a) (is_among (id ∷ rest) a) none).1).0 in
    ap (λ b. b || is_among before id) (same-comm a id ∙ here) ∙ differ-split before id rest apart

pub differ-push : (before : List Id) (id : Id) → all_differ before ≡ true → is_among before id ≡ false → all_differ (before ++ id ∷ []) ≡ true
differ-push [] id h out = refl
differ-push (a ∷ before) id h out =
    let (apart, rest) = and_parts (not (is_among before a)) (all_differ before) h in
    let (first, others) = or_parts (is_same a id) (is_among before id) out in
    let none = list_any-append (λ other. is_same other a) before (id ∷ []) ∙ ap (λ b. b || (is_same id a || false)) (not-true (is_among before a) apart)
    ∙ ap (λ b. b || false) (same-comm id a ∙ first) in
    and_from (not (is_among (before ++ id ∷ []) a)) (all_differ (before ++ id ∷ [])) (not_from_false (is_among (before ++ id ∷ []) a) none)
    (differ-push before id rest others)

pub repeated : (before : List Id) (id : Id) (rest : List Id) → is_among before id ≡ true → all_differ (before ++ id ∷ rest) ≡ false
repeated before id rest h =
    elim (cases_Bool (all_differ (before ++ id ∷ rest))) [
      | inl t ↦ absurd (both_ways (is_among before id) (differ-split before id rest t) h)
      | inr f ↦ f
    ]

pub none-named : (ids : List Id) → list_all is_name ids ≡ false → are_candidates ids ≡ false
none-named ids h = rw h refl

pub none-differ : (ids : List Id) → all_differ ids ≡ false → are_candidates ids ≡ false
none-differ ids h = and_right _ _ h

-- ---- one more number

parted : (a e d b : Bool) → (not (a || e) && (d && not b)) ≡ ((not a && d) && not (e || b))
parted true e d b = refl
parted false true true b = refl
parted false true false b = refl
parted false false d b = refl

distinct-more : (xs : List ℕ) (c : ℕ) → is_distinct (xs ++ c ∷ []) ≡ (is_distinct xs && not (is_in xs c))
distinct-more [] c = refl
distinct-more (x ∷ xs) c =
    ap₂ (λ a b. not a && b) (is_in-push xs c x) (distinct-more xs c) ∙ parted (is_in xs x) (x == c) (is_distinct xs) (is_in xs c)

pub repeats-more : (xs : List ℕ) (c : ℕ) (repeats has : Bool) → repeats ≡ not (is_distinct xs) → has ≡ is_in xs c →
    (repeats || has) ≡ not (is_distinct (xs ++ c ∷ []))
repeats-more xs c repeats has r h = ap₂ (λ a b. a || b) r h ∙ turned (is_distinct xs) (is_in xs c) ∙ sym (ap not (distinct-more xs c)) where
  turned : (d i : Bool) → (not d || i) ≡ not (d && not i)
  turned true true = refl
  turned true false = refl
  turned false i = refl
