-- Lists of ids in which none occurs twice.
use Rattle.std.proofs.Common.{inl, inr, ◌≡◌, ◌+◌, ℕ, zero, suc, Bool, true, false, not, ◌||◌, List, [], ◌∷◌, ◌++◌, Some, refl, sym, ap, ◌∙◌, arith}
use Rattle.std.specs.Prelude.{option_map, position}
use Rattle.std.specs.Cmp.Lexicographic.{bytes_decides}
use Rattle.std.specs.List.{list_any, slice_get}
use Rattle.std.proofs.lemmas.Bool.{and_parts, and_from, not-true, both_ways, cases_Bool}
use Rattle.std.proofs.lemmas.Cmp.{nat_list_eq_equiv}
use Rattle.std.proofs.lemmas.List.Folds.{list_any-append}
use Rattle.irv_base.specs.Names.{Id, is_same, is_among, all_differ}
use Rattle.irv_base.proofs.Positions.{first_place, later_place}

pub same-comm : (a b : Id) → is_same a b ≡ is_same b a
same-comm a b = nat_list_eq_equiv.symm a b

pub or-false : (a b : Bool) → (a || b) ≡ false → (a ≡ false) × (b ≡ false)
or-false false b h = (refl, h)
or-false true b h = absurd (both_ways true h refl)

not_from : (b : Bool) → b ≡ false → not b ≡ true
not_from b h = ap not h

-- a set tests its keys against the id, and a list the id against its elements
pub among-set : (ids : List Id) (id : Id) → list_any (is_same id) ids ≡ is_among ids id
among-set [] id = refl
among-set (a ∷ ids) id = ap (λ b. b || list_any (is_same id) ids) (same-comm id a) ∙ ap (λ b. is_same a id || b) (among-set ids id)

pub differ-split : (before : List Id) (id : Id) (rest : List Id) → all_differ (before ++ id ∷ rest) ≡ true → is_among before id ≡ false
differ-split [] id rest h = refl
differ-split (a ∷ before) id rest h =
    let (out, apart) = and_parts (not (is_among (before ++ id ∷ rest) a)) (all_differ (before ++ id ∷ rest)) h in
    let none = sym (list_any-append (λ other. is_same other a) before (id ∷ rest)) ∙ not-true (is_among (before ++ id ∷ rest) a) out in
    let here = (or-false (is_same id a) (is_among rest a) (or-false (is_among before a) (is_among (id ∷ rest) a) none).1).0 in
    ap (λ b. b || is_among before id) (same-comm a id ∙ here) ∙ differ-split before id rest apart

pub differ-push : (before : List Id) (id : Id) → all_differ before ≡ true → is_among before id ≡ false → all_differ (before ++ id ∷ []) ≡ true
differ-push [] id h out = refl
differ-push (a ∷ before) id h out =
    let (apart, rest) = and_parts (not (is_among before a)) (all_differ before) h in
    let (first, others) = or-false (is_same a id) (is_among before id) out in
    let none = list_any-append (λ other. is_same other a) before (id ∷ []) ∙ ap (λ b. b || (is_same id a || false)) (not-true (is_among before a) apart)
    ∙ ap (λ b. b || false) (same-comm id a ∙ first) in
    and_from (not (is_among (before ++ id ∷ []) a)) (all_differ (before ++ id ∷ [])) (not_from (is_among (before ++ id ∷ []) a) none)
    (differ-push before id rest others)

pub repeated : (before : List Id) (id : Id) (rest : List Id) → is_among before id ≡ true → all_differ (before ++ id ∷ rest) ≡ false
repeated before id rest h =
    elim (cases_Bool (all_differ (before ++ id ∷ rest))) [
      | inl t ↦ absurd (both_ways (is_among before id) (differ-split before id rest t) h)
      | inr f ↦ f
    ]

-- ---- the place of an id, if none occurs twice

lacking : (ids : List Id) (a : Id) (i : ℕ) (x : Id) → is_among ids a ≡ false → slice_get ids i ≡ Some x → is_same x a ≡ false
lacking [] a i x h g = absurd cc
lacking (b ∷ ids) a zero x h g =
    let e : b ≡ x = cc in
    ap (λ y. is_same y a) (sym e) ∙ (or-false (is_same b a) (is_among ids a) h).0
lacking (b ∷ ids) a (suc i) x h g = lacking ids a i x (or-false (is_same b a) (is_among ids a) h).1 g

pub position-at : (ids : List Id) (i : ℕ) (id : Id) → all_differ ids ≡ true → slice_get ids i ≡ Some id → position (λ other. is_same other id) ids ≡ Some i
position-at [] i id d g = absurd cc
position-at (a ∷ ids) zero id d g =
    let e : a ≡ id = cc in
    first_place (λ other. is_same other id) a ids ((bytes_decides a id).1 e)
position-at (a ∷ ids) (suc i) id d g =
    let (out, rest) = and_parts (not (is_among ids a)) (all_differ ids) d in
    let other = nat_list_eq_equiv.symm a id ∙ lacking ids a i id (not-true (is_among ids a) out) g in
    later_place (λ other. is_same other id) a ids other ∙ ap (option_map (λ k. 1 + k)) (position-at ids i id rest g) ∙ ap Some (omega arith)
