-- The greatest margin of a true assertion that refutes a suffix, and the assertion that has it.
use Rattle.std.proofs.Common.{List, None, Option, Some, [], arith, eq-eqb, eqb-true, false, inl, inr, le_trans, lt-ltb, ltb-true, map, refl, subst, sym, true, ℕ, ◌&&◌, ◌++◌, ◌-◌, ◌<◌, ◌==◌, ◌∷◌, ◌≡◌, ◌≤◌}
use Rattle.std.proofs.lemmas.Bool.{and_from, and_parts, both_ways, cases_Bool, cases_lt}
use Rattle.irv_base.specs.Candidates.{is_in}
use Rattle.irv_base.proofs.Distinct.{Distinct, distinct-head, distinct-tail}
use Rattle.irv_base.proofs.Members.{Member, find-member, from_filter, from_find, from_map, member-filter, member-map, out-from_none}
use Rattle.assertions.specs.Assertions.{assertions, is_proper, is_true, true_margin, votes_against, votes_for}
use Rattle.assertions.specs.Hardness.{low, refuter, true_refuters}
use Rattle.assertions.specs.Refutation.{refutes}
use Rattle.assertions.specs.declared.assertion.Assertion.{Assertion}
use Rattle.assertions.specs.declared.assertion.Assertion.TheVariants.{Neb, Nen}
use Rattle.assertions.proofs.Greatest.{greatest-member, greatest_is}
use Rattle.assertions.proofs.Listed.{assertion-member, assertion-proper}
use Rattle.assertions.proofs.Parts.{refutes_more}

pub low-refuter : (n : ℕ) (records : List (List ℕ)) (t : List ℕ) (a : Assertion) → is_proper n a ≡ true → refutes a t ≡ true →
    true_margin records a ≤ low n records t
low-refuter n records t a proper r =
    elim (cases_Bool (is_true records a)) [
      | inl holds ↦ greatest-member (member-map (true_margin records)
          (member-filter (λ a. refutes a t && is_true records a) (assertions n) (assertion-member n a proper)
          (and_from (refutes a t) (is_true records a) r holds)))
      | inr fails ↦ elim (cases_lt (votes_against records a) (votes_for records a)) [
        | inl lt ↦ absurd (both_ways (is_true records a) fails (lt-ltb (votes_against records a) (votes_for records a) lt))
        | inr le ↦ let none : votes_for records a - votes_against records a ≡ 0 = omega arith in subst (λ x. x ≤ low n records t) (sym none) (omega arith)
      ]
    ]

-- an assertion that gives a suffix its low
pub record Gives (n : ℕ) (records : List (List ℕ)) (t : List ℕ) (a : Assertion) : Type 0 where
  pub proper : is_proper n a ≡ true
  pub refuting : refutes a t ≡ true
  pub true_of : is_true records a ≡ true
  pub reached : true_margin records a ≡ low n records t

pub from_true_refuters : (n : ℕ) (records : List (List ℕ)) (t : List ℕ) (a : Assertion) → Member a (true_refuters n records t) →
    true_margin records a ≡ low n records t → Gives n records t a
from_true_refuters n records t a m e =
    let (k, both) = from_filter (λ a. refutes a t && is_true records a) (assertions n) m in
    let (r, holds) = and_parts (refutes a t) (is_true records a) both in
    record { proper = assertion-proper n a k; refuting = r; true_of = holds; reached = e }

pub low_is : (n : ℕ) (records : List (List ℕ)) (t : List ℕ) → 0 < low n records t → (a : Assertion) × Gives n records t a
low_is n records t h =
    let m : Member (low n records t) (map (true_margin records) (true_refuters n records t)) =
    greatest_is (map (true_margin records) (true_refuters n records t)) h in
    let (a, k, e) = from_map (true_margin records) (low n records t) (true_refuters n records t) m in
    (a, from_true_refuters n records t a k e)

pub positive : (n : ℕ) (records : List (List ℕ)) (t : List ℕ) (a : Assertion) → Gives n records t a → 0 < low n records t
positive n records t a g =
    let lt : votes_against records a < votes_for records a = ltb-true (votes_against records a) (votes_for records a) g.true_of in
    let above : 0 < votes_for records a - votes_against records a = omega arith in
    subst (λ x. 0 < x) g.reached above

pub low_grows : (n : ℕ) (records : List (List ℕ)) (t : List ℕ) (c : ℕ) → is_in t c ≡ false → low n records t ≤ low n records (c ∷ t)
low_grows n records t c out =
    elim (cases_lt 0 (low n records t)) [
      | inl h ↦
          let (a, g) = low_is n records t h in
          subst (λ x. x ≤ low n records (c ∷ t)) g.reached (low-refuter n records (c ∷ t) a g.proper (refutes_more a c t g.refuting out))
      | inr z ↦ omega arith
    ]

pub low_of_suffix : (n : ℕ) (records : List (List ℕ)) (before t : List ℕ) → Distinct (before ++ t) → low n records t ≤ low n records (before ++ t)
low_of_suffix n records [] t d = omega arith
low_of_suffix n records (c ∷ before) t d =
    le_trans (low_of_suffix n records before t (distinct-tail d)) (low_grows n records (before ++ t) c (out-from_none c (before ++ t) (distinct-head d)))

pub low_of_none : (n : ℕ) (records : List (List ℕ)) → low n records [] ≡ 0
low_of_none n records =
    elim (cases_lt 0 (low n records [])) [
      | inl lt ↦ let (a, g) = low_is n records [] lt in absurd (nothing a g.refuting)
      | inr z ↦ omega arith
    ]
  where
    nothing : (a : Assertion) → refutes a [] ≡ true → ⊥
    nothing (Neb w l) r = cc
    nothing (Nen w l s) r = cc

-- ---- the refuter of a suffix
pub from_refuter : (n : ℕ) (records : List (List ℕ)) (t : List ℕ) (a : Assertion) → refuter n records t ≡ Some a → Gives n records t a
from_refuter n records t a h =
    let (m, e) = from_find (λ a. true_margin records a == low n records t) a (true_refuters n records t) h in
    from_true_refuters n records t a m (eqb-true (true_margin records a) (low n records t) e)

pub gives-member : (n : ℕ) (records : List (List ℕ)) (t : List ℕ) (a : Assertion) → Gives n records t a → Member a (true_refuters n records t)
gives-member n records t a g =
    member-filter (λ a. refutes a t && is_true records a) (assertions n) (assertion-member n a g.proper)
    (and_from (refutes a t) (is_true records a) g.refuting g.true_of)

pub refuter_is : (n : ℕ) (records : List (List ℕ)) (t : List ℕ) → 0 < low n records t → (a : Assertion) × (refuter n records t ≡ Some a)
refuter_is n records t h =
    let (a, g) = low_is n records t h in
    find-member (λ a. true_margin records a == low n records t) a (true_refuters n records t) (gives-member n records t a g)
    (eq-eqb (true_margin records a) (low n records t) g.reached)

pub refuter_is_none : (n : ℕ) (records : List (List ℕ)) (t : List ℕ) → low n records t ≡ 0 → refuter n records t ≡ None
refuter_is_none n records t e = go (refuter n records t) refl where
  go : (o : Option Assertion) → refuter n records t ≡ o → refuter n records t ≡ None
  go None h = h
  go (Some a) h = let lt : 0 < low n records t = positive n records t a (from_refuter n records t a h) in absurd (omega arith)
