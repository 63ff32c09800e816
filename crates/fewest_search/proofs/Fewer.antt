-- If all assertions of a list are in another list, it has no more NENs.
use Rattle.std.proofs.Common.{◌≡◌, suc, ◌≤◌, true, false, cond, not, inl, inr, List, [], ◌∷◌, length, refl, sym, ap, arith, subst, ◌∙◌}
use Rattle.std.specs.List.{list_any}
use Rattle.std.proofs.lemmas.Bool.{and_parts, and_from, both_ways, cases_Bool, not-true, not_from_false}
use Rattle.irv_base.proofs.Distinct.{Distinct, none, more, distinct-le}
use Rattle.irv_base.proofs.Members.{Member, there, from_list_any, list_any-member, member_at, member_cases, member_nil}
use Rattle.assertions.specs.declared.assertion.Assertion.{Assertion}
use Rattle.assertions.specs.Certificate.{is_same}
use Rattle.fewest.specs.Nens.{is_nen, is_new_nen, nen_count}
use Rattle.fewest.proofs.Counting.{nen_count-new, nen_count-old}
use Rattle.set_search.proofs.Giving.{same-self, is_the_same}

-- the different NENs
each-once : List Assertion → List Assertion
each-once [] = []
each-once (a ∷ list) = cond (is_new_nen list a) (a ∷ each-once list) (each-once list)

once-new : (a : Assertion) (list : List Assertion) → is_new_nen list a ≡ true → each-once (a ∷ list) ≡ a ∷ each-once list
unfolding each-once
once-new a list t = ap (λ b. cond b (a ∷ each-once list) (each-once list)) t

once-old : (a : Assertion) (list : List Assertion) → is_new_nen list a ≡ false → each-once (a ∷ list) ≡ each-once list
unfolding each-once
once-old a list f = ap (λ b. cond b (a ∷ each-once list) (each-once list)) f

once-nothing : each-once [] ≡ []
unfolding each-once
once-nothing = refl

once-long : (list : List Assertion) → length (each-once list) ≡ nen_count list
once-long [] = ap length once-nothing
once-long (a ∷ list) =
    elim (cases_Bool (is_new_nen list a)) [
      | inl t ↦ ap length (once-new a list t) ∙ ap suc (once-long list) ∙ sym (nen_count-new a list t)
      | inr f ↦ ap length (once-old a list f) ∙ once-long list ∙ sym (nen_count-old a list f)
    ]

from-once : (list : List Assertion) (b : Assertion) → Member b (each-once list) → Member b list × (is_nen b ≡ true)
from-once [] b m = absurd (member_nil (subst (Member b) once-nothing m))
from-once (a ∷ list) b m =
    elim (cases_Bool (is_new_nen list a)) [
      | inl t ↦
          let (nen, _) = and_parts (is_nen a) (not (list_any (λ c. is_same c a) list)) t in
          elim (member_cases (subst (Member b) (once-new a list t) m)) [
            | inl s ↦ (member_at s, ap is_nen (sym s) ∙ nen)
            | inr r ↦ let (k, n) = from-once list b r in (there k, n)
          ]
      | inr f ↦ let (k, n) = from-once list b (subst (Member b) (once-old a list f) m) in (there k, n)
    ]

once-has : (list : List Assertion) (b : Assertion) → Member b list → is_nen b ≡ true → Member b (each-once list)
once-has [] b m nen = absurd (member_nil m)
once-has (a ∷ list) b m nen =
    elim (cases_Bool (is_new_nen list a)) [
      | inl t ↦ elim (member_cases m) [
        | inl s ↦ subst (Member b) (sym (once-new a list t)) (member_at s)
        | inr r ↦ subst (Member b) (sym (once-new a list t)) (there (once-has list b r nen))
      ]
      | inr f ↦ elim (member_cases m) [
        | inr r ↦ subst (Member b) (sym (once-old a list f)) (once-has list b r nen)
        | inl s ↦ elim (cases_Bool (list_any (λ c. is_same c a) list)) [
          | inl old ↦
              let (c, k, e) = from_list_any (λ c. is_same c a) list old in
              let same : c ≡ b = is_the_same c a e ∙ s in
              subst (Member b) (sym (once-old a list f)) (once-has list b (subst (λ c. Member c list) same k) nen)
          | inr new ↦ absurd (both_ways (is_new_nen list a) f
              (and_from (is_nen a) (not (list_any (λ c. is_same c a) list)) (ap is_nen s ∙ nen)
              (not_from_false (list_any (λ c. is_same c a) list) new)))
        ]
      ]
    ]

once-distinct : (list : List Assertion) → Distinct (each-once list)
once-distinct [] = subst Distinct (sym once-nothing) none
once-distinct (a ∷ list) =
    elim (cases_Bool (is_new_nen list a)) [
      | inl t ↦
          let (_, new) = and_parts (is_nen a) (not (list_any (λ c. is_same c a) list)) t in
          subst Distinct (sym (once-new a list t))
          (more (λ m.
          both_ways (list_any (λ c. is_same c a) list) (not-true (list_any (λ c. is_same c a) list) new)
          (list_any-member (λ c. is_same c a) {x = a} (from-once list a m).0 (same-self a))) (once-distinct list))
      | inr f ↦ subst Distinct (sym (once-old a list f)) (once-distinct list)
    ]

pub fewer-nens : (xs ys : List Assertion) → ((a : Assertion) → Member a xs → is_nen a ≡ true → Member a ys) → nen_count xs ≤ nen_count ys
fewer-nens xs ys part =
    let le = distinct-le (each-once xs) (each-once ys) (once-distinct xs) (λ b m.
    let (k, nen) = from-once xs b m in once-has ys b (part b k nen) nen) in
    let a = once-long xs in
    let b = once-long ys in
    omega (arith, le, a, b)

-- a NEN that isn't in a list adds one to the count
pub one-more-nen : (a : Assertion) (list : List Assertion) → is_nen a ≡ true → (Member a list → ⊥) → nen_count (a ∷ list) ≡ suc (nen_count list)
one-more-nen a list nen out =
    elim (cases_Bool (list_any (λ c. is_same c a) list)) [
      | inl t ↦
          let (c, k, e) = from_list_any (λ c. is_same c a) list t in
          absurd (out (subst (λ c. Member c list) (is_the_same c a e) k))
      | inr f ↦ nen_count-new a list
          (and_from (is_nen a) (not (list_any (λ c. is_same c a) list)) nen (not_from_false (list_any (λ c. is_same c a) list) f))
    ]
