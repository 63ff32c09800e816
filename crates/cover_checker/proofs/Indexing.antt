-- What an index says when an assertion is added, and what it answers.
use Rattle.std.proofs.Common.{◌≡◌, inl, inr, ℕ, ◌<◌, ◌^◌, cond, Bool, true, false, not, ◌&&◌, ◌||◌, ◌==◌, List, [], ◌∷◌, ◌++◌, get_or, replicate, Result, Ok, Err, OnOk, refl, sym, ap, eq-eqb, eqb-true, ◌∙◌}
use Rattle.std.specs.List.{list_any}
use Rattle.std.proofs.lemmas.Bool.{cases_lt, and_parts, and_from, or_cases, or_left, or_right}
use Rattle.std.proofs.lemmas.List.{get_or-replicate, get_or_past}
use Rattle.irv_base.specs.Candidates.{candidates, has, members}
use Rattle.irv_base.specs.declared.limits.TheConstants.{ROOM}
use Rattle.irv_base.proofs.Members.{Member, from_list_any, list_any-member, candidate-member, member-filter, from_filter}
use Rattle.irv_base.proofs.Distinct.{none}
use Rattle.irv_base.proofs.Sets.{has-set_of}
use Rattle.assertions.specs.declared.assertion.Assertion.{Assertion}
use Rattle.assertions.specs.declared.assertion.Assertion.TheVariants.{Neb, Nen}
use Rattle.cover_checker.specs.Indexed.{IsIndexOf, is_beaten, is_neb, is_nen, is_new}
use Rattle.cover_checker.specs.Numbered.{under}
use Rattle.cover_checker.specs.declared.refuting.Refuting.{Refuting}
use Rattle.cover_checker.proofs.Indexes.{both, eq-turned, has-below}

-- ---- a list without assertions

pub no-member : (c : ℕ) → has 0 c ≡ false
no-member c = has-set_of [] c none

no-winners : (l : ℕ) → ◌≡◌ {A = ℕ} (get_or (replicate ROOM 0) l 0) 0
no-winners l = elim (cases_lt l ROOM) [ inl below ↦ get_or-replicate ROOM l 0 0 below | inr le ↦ get_or_past (replicate ROOM 0) l 0 le ]

pub nobody-wins : (w l : ℕ) → has (get_or (replicate ROOM 0) l 0) w ≡ false
nobody-wins w l = ap (λ x. has x w) (no-winners l) ∙ no-member w

-- ---- one more assertion

pub both-ok : {X Y A B C : Type 0} → (r : Result X Y) → OnOk r A → OnOk r B → (A → B → C) → OnOk r C
both-ok (Ok x) a b f = f a b
both-ok (Err y) a b f = a

pub any-parted : (p : Assertion → Bool) (before : List Assertion) (a : Assertion) (after : List Assertion) →
    list_any p (before ++ a ∷ after) ≡ (p a || list_any p (before ++ after))
any-parted p [] a after = refl
any-parted p (b ∷ before) a after =
    ap (λ x. p b || x) (any-parted p before a after) ∙ swapped (p b) (p a) (list_any p (before ++ after))
  where
    swapped : (x y z : Bool) → (x || (y || z)) ≡ (y || (x || z))
    swapped true true z = refl
    swapped true false z = refl
    swapped false true z = refl
    swapped false false z = refl

chosen : (b x : Bool) → cond b true x ≡ (b || x)
chosen true x = refl
chosen false x = refl

pub added : (old new : Refuting) (a : Assertion) →
    ((w l : ℕ) → has (get_or new.winners l 0) w ≡ cond (is_neb w l a) true (has (get_or old.winners l 0) w)) →
    ((w set : ℕ) → has (under new.nens set) w ≡ cond (is_nen w set a) true (has (under old.nens set) w)) →
    (before after : List Assertion) → IsIndexOf (before ++ after) old → IsIndexOf (before ++ a ∷ after) new
added old new a nebs nens before after h = record {
  nebs = λ w l.
      nebs w l ∙ ap (cond (is_neb w l a) true) (h.nebs w l) ∙ chosen (is_neb w l a) (list_any (is_neb w l) (before ++ after))
      ∙ sym (any-parted (is_neb w l) before a after);
  nens = λ w set.
      nens w set ∙ ap (cond (is_nen w set a) true) (h.nens w set) ∙ chosen (is_nen w set a) (list_any (is_nen w set) (before ++ after))
      ∙ sym (any-parted (is_nen w set) before a after);
}

-- ---- what it answers

pub or-first : (a b : Bool) → a ≡ true → a ≡ (a || b)
or-first true b h = refl
or-first false b h = cc

module _ (list : List Assertion) (r : Refuting) (first set : ℕ) (fits : get_or r.winners first 0 < 2 ^ ROOM) (h : IsIndexOf list r) where
  abbrev refuting : Assertion → Bool
  refuting a = is_new a first set

  -- an assertion of the list refutes if it is a NEB of somebody outside over the first candidate, or a NEN of this set
  from-neb : (w : ℕ) (a : Assertion) → is_neb w first a ≡ true → not (has set w) ≡ true → is_new a first set ≡ true
  from-neb w (Neb v l) e out =
      let (here, other) = and_parts (l == first) (v == w) e in
      and_from (l == first) (not (has set v)) here (ap (λ x. not (has set x)) (eqb-true v w other) ∙ out)
  from-neb w (Nen v l rest) e out = cc

  from-nen : (a : Assertion) → is_nen first set a ≡ true → is_new a first set ≡ true
  from-nen (Neb w l) e = cc
  from-nen (Nen w l rest) e =
      let (same, here) = and_parts (rest == set) (w == first) e in
      and_from (w == first) (set == rest) here (eq-turned set rest ∙ same)

  to-any : is_beaten r.winners first set || has (under r.nens set) first ≡ true → list_any refuting list ≡ true
  to-any e = elim (or_cases (is_beaten r.winners first set) (has (under r.nens set) first) e) [
    | inl beaten ↦
        let (w, m, out) = from_list_any (λ w. not (has set w)) (members (get_or r.winners first 0)) beaten in
        let (below, inside) = from_filter (has (get_or r.winners first 0)) (candidates ROOM) m in
        let (a, k, alike) = from_list_any (is_neb w first) list (sym (h.nebs w first) ∙ inside) in
        list_any-member refuting {x = a} k (from-neb w a alike out)
    | inr there ↦
        let (a, k, alike) = from_list_any (is_nen first set) list (sym (h.nens first set) ∙ there) in
        list_any-member refuting {x = a} k (from-nen a alike)
  ]

  of-one : (a : Assertion) → Member a list → is_new a first set ≡ true → is_beaten r.winners first set || has (under r.nens set) first ≡ true
  of-one (Neb w l) m e =
      let (here, out) = and_parts (l == first) (not (has set w)) e in
      let alike : is_neb w first (Neb w l) ≡ true = and_from (l == first) (w == w) here (eq-eqb w w refl) in
      let inside : has (get_or r.winners first 0) w ≡ true = h.nebs w first ∙ list_any-member (is_neb w first) {x = Neb w l} m alike in
      let below = candidate-member w ROOM (has-below (get_or r.winners first 0) w fits inside) in
      or_left (is_beaten r.winners first set) _
      (list_any-member (λ w. not (has set w)) (member-filter (has (get_or r.winners first 0)) (candidates ROOM) below inside) out)
  of-one (Nen w l rest) m e =
      let (here, same) = and_parts (w == first) (set == rest) e in
      let alike : is_nen first set (Nen w l rest) ≡ true = and_from (rest == set) (w == first) (eq-turned rest set ∙ same) here in
      or_right (is_beaten r.winners first set) _ (h.nens first set ∙ list_any-member (is_nen first set) {x = Nen w l rest} m alike)

  pub answers : (is_beaten r.winners first set || has (under r.nens set) first) ≡ list_any refuting list
  answers = both (is_beaten r.winners first set || has (under r.nens set) first) (list_any refuting list) to-any
      (λ e. let (a, m, one) = from_list_any refuting list e in of-one a m one)
