-- The part of a suffix from a candidate on, and what refutes a longer suffix.
use Rattle.std.proofs.Common.{◌++◌, All, ◌≡◌, ℕ, true, false, not, ◌==◌, ◌⊎◌, inl, inr, List, [], ◌∷◌, refl, sym, ap, subst, eq-eqb, ne_eqb, ◌∙◌, ◌↔◌, eqb-true}
use Rattle.std.proofs.lemmas.Bool.{and_parts, and_from, cases_eq, both_ways, not-true, not_from_false}
use Rattle.std.proofs.lemmas.List.Elements.{All-tail}
use Rattle.irv_base.specs.Candidates.{is_in, is_distinct, set_of}
use Rattle.irv_base.proofs.Members.{Member, here, there, member_cases, member_nil, member-append_right, member-from_in, in-from_member, out-from_none}
use Rattle.irv_base.proofs.Distinct.{Distinct, distinct-head, distinct-tail}
use Rattle.assertions.specs.declared.assertion.Assertion.{Assertion}
use Rattle.assertions.specs.declared.assertion.Assertion.TheVariants.{Neb, Nen}
use Rattle.assertions.specs.Refutation.{part_from, refutes}

pub part_from-same : (c w : ℕ) (t : List ℕ) → c ≡ w → part_from (c ∷ t) w ≡ c ∷ t
part_from-same c w t e = rw (eq-eqb c w e)

pub part_from-other : (c w : ℕ) (t : List ℕ) → (c ≡ w → ⊥) → part_from (c ∷ t) w ≡ part_from t w
part_from-other c w t e = rw (ne_eqb c w e)

-- if w is in the suffix, the part begins with it
pub part_from-member : {w : ℕ} {t : List ℕ} → Member w t → (rest : List ℕ) × (part_from t w ≡ w ∷ rest)
part_from-member {w} (here {xs = xs}) = (xs, part_from-same w w xs refl)
part_from-member {w} (there {y = c} {xs = xs} m) =
    elim (cases_eq c w) [
      | inl e ↦ (xs, part_from-same c w xs e ∙ ap (λ x. x ∷ xs) e)
      | inr ne ↦ let (rest, k) = part_from-member m in (rest, part_from-other c w xs ne ∙ k)
    ]

pub part_from-distinct : (t : List ℕ) (w : ℕ) → Distinct t → Distinct (part_from t w)
part_from-distinct [] w d = d
part_from-distinct (c ∷ t) w d =
    elim (cases_eq c w) [
      | inl e ↦ subst Distinct (sym (part_from-same c w t e)) d
      | inr ne ↦ subst Distinct (sym (part_from-other c w t ne)) (part_from-distinct t w (distinct-tail d))
    ]

pub part_from-inside : (t : List ℕ) (w : ℕ) {z : ℕ} → Member z (part_from t w) → Member z t
part_from-inside [] w m = m
part_from-inside (c ∷ t) w {z} m =
    elim (cases_eq c w) [
      | inl e ↦ subst (Member z) (part_from-same c w t e) m
      | inr ne ↦ there (part_from-inside t w (subst (Member z) (part_from-other c w t ne) m))
    ]

-- the part of a list, all of whose elements pass
pub All-part_from : (P : ℕ → Type 0) (t : List ℕ) (w : ℕ) → All P t → All P (part_from t w)
All-part_from P [] w h = h
All-part_from P (c ∷ t) w h =
    elim (cases_eq c w) [
      | inl e ↦ subst (All P) (sym (part_from-same c w t e)) h
      | inr ne ↦ subst (All P) (sym (part_from-other c w t ne)) (All-part_from P t w (All-tail P c t h))
    ]

pub is_distinct-part_from : (t : List ℕ) (w : ℕ) → is_distinct t ≡ true → is_distinct (part_from t w) ≡ true
is_distinct-part_from [] w h = h
is_distinct-part_from (c ∷ t) w h =
    elim (cases_eq c w) [
      | inl e ↦ subst (λ s. is_distinct s ≡ true) (sym (part_from-same c w t e)) h
      | inr ne ↦ subst (λ s. is_distinct s ≡ true) (sym (part_from-other c w t ne))
          (is_distinct-part_from t w (and_parts (not (is_in t c)) (is_distinct t) h).1)
    ]

-- of two candidates in the suffix, one is in the part from the other on
pub part_from-either : (w l : ℕ) (t : List ℕ) → Member w t → Member l t → Member w (part_from t l) ⊎ Member l (part_from t w)
part_from-either w l [] m k = absurd (member_nil m)
part_from-either w l (c ∷ t) m k =
    elim (cases_eq c w) [
      | inl e ↦ inr (subst (Member l) (sym (part_from-same c w t e)) k)
      | inr ne ↦ elim (cases_eq c l) [
        | inl e ↦ inl (subst (Member w) (sym (part_from-same c l t e)) m)
        | inr nl ↦ elim (part_from-either w l t (behind m ne) (behind k nl)) [
          | inl a ↦ inl (subst (Member w) (sym (part_from-other c l t nl)) a)
          | inr b ↦ inr (subst (Member l) (sym (part_from-other c w t ne)) b)
        ]
      ]
    ]
  where
    behind : {x : ℕ} → Member x (c ∷ t) → (c ≡ x → ⊥) → Member x t
    behind n other = elim (member_cases n) [ inl e ↦ absurd (other e) | inr r ↦ r ]

-- ---- what refutes a suffix refutes each longer one
pub out-other : (t : List ℕ) (c w : ℕ) → is_in t w ≡ true → is_in t c ≡ false → c ≡ w → ⊥
out-other t c w h out e = both_ways (is_in t c) out (ap (is_in t) e ∙ h)

pub in-more : (t : List ℕ) (c w : ℕ) → is_in t w ≡ true → is_in (c ∷ t) w ≡ true
in-more t c w h = in-from_member (there (member-from_in w t h))

pub refutes_more : (a : Assertion) (c : ℕ) (t : List ℕ) → refutes a t ≡ true → is_in t c ≡ false → refutes a (c ∷ t) ≡ true
refutes_more (Neb w l) c t h out =
    let (there', free) = and_parts (is_in t l) (not (is_in (part_from t l) w)) h in
    and_from (is_in (c ∷ t) l) (not (is_in (part_from (c ∷ t) l) w)) (in-more t c l there')
    (ap (λ s. not (is_in s w)) (part_from-other c l t (out-other t c l there' out)) ∙ free)
refutes_more (Nen w l rest) c t h out =
    let (there', same) = and_parts (is_in t w) (set_of (part_from t w) == rest) h in
    and_from (is_in (c ∷ t) w) (set_of (part_from (c ∷ t) w) == rest) (in-more t c w there')
    (ap (λ s. set_of s == rest) (part_from-other c w t (out-other t c w there' out)) ∙ same)

pub refutes_all : (a : Assertion) (before s : List ℕ) → Distinct (before ++ s) → refutes a s ≡ true → refutes a (before ++ s) ≡ true
refutes_all a [] s d r = r
refutes_all a (b ∷ before) s d r = refutes_more a b (before ++ s) (refutes_all a before s (distinct-tail d) r) (out-from_none b (before ++ s) (distinct-head d))

pub part_from-head : {w : ℕ} {t : List ℕ} → Member w t → Member w (part_from t w)
part_from-head {w} m = let (rest, e) = part_from-member m in subst (Member w) (sym e) here

pub part_from-append : (before : List ℕ) (c : ℕ) (rest : List ℕ) → Distinct (before ++ c ∷ rest) → part_from (before ++ c ∷ rest) c ≡ c ∷ rest
part_from-append [] c rest d = part_from-same c c rest refl
part_from-append (b ∷ before) c rest d =
    part_from-other b c (before ++ c ∷ rest) (λ e. distinct-head d (member-append_right before (subst (λ x. Member x (c ∷ rest)) (sym e) here)))
    ∙ part_from-append before c rest (distinct-tail d)

-- ---- where a suffix is refuted
member-split : {c : ℕ} {t : List ℕ} → Member c t → (before : List ℕ) × (behind : List ℕ) × (t ≡ before ++ c ∷ behind)
member-split (here {xs = xs}) = ([], xs, refl)
member-split (there {y = y} m) = let (before, behind, e) = member-split m in (y ∷ before, behind, ap (λ s. y ∷ s) e)

part_from-split : (t before : List ℕ) (c : ℕ) (behind : List ℕ) → Distinct t → t ≡ before ++ c ∷ behind → part_from t c ≡ c ∷ behind
part_from-split t before c behind d same = ap (λ s. part_from s c) same ∙ part_from-append before c behind (subst Distinct same d)

in-split : (t before : List ℕ) (c : ℕ) (behind : List ℕ) → t ≡ before ++ c ∷ behind → is_in t c ≡ true
in-split t before c behind same = in-from_member (subst (Member c) (sym same) (member-append_right before here))

pub neb-where : (t : List ℕ) (w l : ℕ) → Distinct t →
    ((refutes (Neb w l) t ≡ true) ↔ ((before : List ℕ) × (behind : List ℕ) × (t ≡ before ++ l ∷ behind) × (is_in (l ∷ behind) w ≡ false)))
neb-where t w l d = (forth, back) where
  forth : refutes (Neb w l) t ≡ true → (before : List ℕ) × (behind : List ℕ) × (t ≡ before ++ l ∷ behind) × (is_in (l ∷ behind) w ≡ false)
  forth h =
      let (in', free) = and_parts (is_in t l) (not (is_in (part_from t l) w)) h in
      let (before, behind, same) = member-split (member-from_in l t in') in
      (before, behind, same, ap (λ s. is_in s w) (sym (part_from-split t before l behind d same)) ∙ not-true (is_in (part_from t l) w) free)

  back : (before : List ℕ) × (behind : List ℕ) × (t ≡ before ++ l ∷ behind) × (is_in (l ∷ behind) w ≡ false) → refutes (Neb w l) t ≡ true
  back (before, behind, same, out) =
      and_from (is_in t l) (not (is_in (part_from t l) w)) (in-split t before l behind same)
      (not_from_false (is_in (part_from t l) w) (ap (λ s. is_in s w) (part_from-split t before l behind d same) ∙ out))

pub nen-where : (t : List ℕ) (w l rest : ℕ) → Distinct t →
    ((refutes (Nen w l rest) t ≡ true) ↔ ((before : List ℕ) × (behind : List ℕ) × (t ≡ before ++ w ∷ behind) × (set_of (w ∷ behind) ≡ rest)))
nen-where t w l rest d = (forth, back) where
  forth : refutes (Nen w l rest) t ≡ true → (before : List ℕ) × (behind : List ℕ) × (t ≡ before ++ w ∷ behind) × (set_of (w ∷ behind) ≡ rest)
  forth h =
      let (in', is) = and_parts (is_in t w) (set_of (part_from t w) == rest) h in
      let (before, behind, same) = member-split (member-from_in w t in') in
      (before, behind, same, ap set_of (sym (part_from-split t before w behind d same)) ∙ eqb-true (set_of (part_from t w)) rest is)

  back : (before : List ℕ) × (behind : List ℕ) × (t ≡ before ++ w ∷ behind) × (set_of (w ∷ behind) ≡ rest) → refutes (Nen w l rest) t ≡ true
  back (before, behind, same, is) =
      and_from (is_in t w) (set_of (part_from t w) == rest) (in-split t before w behind same)
      (eq-eqb (set_of (part_from t w)) rest (ap set_of (part_from-split t before w behind d same) ∙ is))
