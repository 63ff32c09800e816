-- The number of times that a list says each thing, when an assertion is added or removed.
use Rattle.std.proofs.Common.{◌≡◌, inl, inr, ℕ, ◌+◌, ◌-◌, ◌≤◌, nat_lt, cond, Bool, true, false, ◌&&◌, ◌||◌, ◌==◌, List, [], ◌∷◌, ◌++◌, length, Option, Some, unwrap_or, refl, sym, ap, ap₂, arith, eq-eqb, eqb-true, ◌∙◌}
use Rattle.std.specs.BTreeMap.{get}
use Rattle.std.specs.List.{list_any}
use Rattle.std.specs.Ordering.{is_eq}
use Rattle.std.proofs.lemmas.Bool.{cases_Bool, and_parts, and_from}
use Rattle.irv_base.specs.Candidates.{has}
use Rattle.assertions.specs.declared.assertion.Assertion.{Assertion}
use Rattle.assertions.specs.declared.assertion.Assertion.TheVariants.{Neb, Nen}
use Rattle.assertions.specs.Compared.{matches_fixed}
use Rattle.assertions.specs.FixedOrder.{fixed_order}
use Rattle.assertions.specs.contracts.assertion.AssertionPartialEq.TheImpl.{ghosts}
use Rattle.cover_checker.specs.Indexed.{IsIndexOf, is_neb, is_nen}
use Rattle.cover_checker.specs.Numbered.{under}
use Rattle.cover_checker.specs.declared.refuting.Refuting.{Refuting}
use Rattle.cover_checker.proofs.Indexes.{eq-turned}
use Rattle.cover_checker.proofs.Indexing.{any-parted}
use Rattle.trimmer.specs.Counted.{alike, count_in, is_alike, times}
use Rattle.trimmer.specs.declared.counted.Counted.{Counted}

-- ---- what refutes the same
pub alike-turned : (a b : Assertion) → is_alike a b ≡ is_alike b a
alike-turned (Neb w l) (Neb v k) = ap₂ (λ x y. x && y) (eq-turned k l) (eq-turned v w)
alike-turned (Neb w l) (Nen v k t) = refl
alike-turned (Nen w l s) (Neb v k) = refl
alike-turned (Nen w l s) (Nen v k t) = ap₂ (λ x y. x && y) (eq-turned t s) (eq-turned v w)

pub alike-moves : (a b c : Assertion) → is_alike a b ≡ true → is_alike a c ≡ is_alike b c
alike-moves (Neb w l) (Neb v k) c h =
    let (p, q) = and_parts (k == l) (v == w) h in
    ap₂ (λ x y. is_neb x y c) (sym (eqb-true v w q)) (sym (eqb-true k l p))
alike-moves (Neb w l) (Nen v k t) c h = cc
alike-moves (Nen w l s) (Neb v k) c h = cc
alike-moves (Nen w l s) (Nen v k t) c h =
    let (p, q) = and_parts (t == s) (v == w) h in
    ap₂ (λ x y. is_nen x y c) (sym (eqb-true v w q)) (sym (eqb-true t s p))

pair-turned : (x y : Bool) → (x && y) ≡ (y && x)
pair-turned true true = refl
pair-turned true false = refl
pair-turned false true = refl
pair-turned false false = refl

twice : (x y : Bool) → (x && (x && y)) ≡ (x && y)
twice true y = refl
twice false y = refl

same-place : (a b : Assertion) → ghosts.eq (alike a) (alike b) ≡ is_alike a b
same-place (Neb w l) (Neb v k) = pair-turned (w == v) (l == k) ∙ ap₂ (λ x y. x && y) (eq-turned l k) (eq-turned w v)
same-place (Neb w l) (Nen v k t) = refl
same-place (Nen w l s) (Neb v k) = refl
same-place (Nen w l s) (Nen v k t) =
    twice (w == v) (s == t) ∙ pair-turned (w == v) (s == t) ∙ ap₂ (λ x y. x && y) (eq-turned s t) (eq-turned w v)

-- they have the same key in a map
pub place-is : (a b : Assertion) → is_eq (fixed_order (alike a) (alike b)) ≡ is_alike a b
place-is a b = sym (matches_fixed (alike a) (alike b)) ∙ same-place a b

-- ---- how often
times-moves : (a b : Assertion) (list : List Assertion) → is_alike a b ≡ true → times a list ≡ times b list
times-moves a b [] h = refl
times-moves a b (c ∷ list) h = ap₂ (λ x k. cond x 1 0 + k) (alike-moves a b c h) (times-moves a b list h)

times-parted : (a : Assertion) (before : List Assertion) (c : Assertion) (after : List Assertion) →
    times a (before ++ c ∷ after) ≡ cond (is_alike a c) 1 0 + times a (before ++ after)
times-parted a [] c after = refl
times-parted a (b ∷ before) c after =
    ap (λ k. cond (is_alike a b) 1 0 + k) (times-parted a before c after)
    ∙ swapped (cond (is_alike a b) 1 0) (cond (is_alike a c) 1 0) (times a (before ++ after))
  where
    swapped : (x y z : ℕ) → x + (y + z) ≡ y + (x + z)
    swapped x y z = omega arith

alike-self : (a : Assertion) → is_alike a a ≡ true
alike-self (Neb w l) = and_from (l == l) (w == w) (eq-eqb l l refl) (eq-eqb w w refl)
alike-self (Nen w l s) = and_from (s == s) (w == w) (eq-eqb s s refl) (eq-eqb w w refl)

pub left-times : (a : Assertion) (before after : List Assertion) (number was : ℕ) → was ≡ times a (before ++ a ∷ after) → number ≡ was - 1 →
    number ≡ times a (before ++ after)
left-times a before after number was e f =
    let own : times a (before ++ a ∷ after) ≡ 1 + times a (before ++ after) =
    times-parted a before a after ∙ ap (λ b. cond b 1 0 + times a (before ++ after)) (alike-self a) in
    omega (arith, own, e, f)

one-at-most : (b : Bool) → cond b 1 0 ≤ 1
one-at-most true = omega arith
one-at-most false = omega arith

pub times-le : (a : Assertion) (list : List Assertion) → times a list ≤ length list
times-le a [] = omega arith
times-le a (b ∷ list) = let ih = times-le a list in let one = one-at-most (is_alike a b) in omega (arith, ih, one)

more-than-none : (k : ℕ) → nat_lt 0 (1 + k) ≡ true
more-than-none k = search arith

no-more : (k : ℕ) → 0 + k ≡ k
no-more k = omega arith

pub times-any : (a : Assertion) (list : List Assertion) → nat_lt 0 (times a list) ≡ list_any (is_alike a) list
times-any a [] = refl
times-any a (c ∷ list) = go (is_alike a c) (times-any a list) where
  go : (b : Bool) → nat_lt 0 (times a list) ≡ list_any (is_alike a) list → nat_lt 0 (cond b 1 0 + times a list) ≡ (b || list_any (is_alike a) list)
  go true ih = more-than-none (times a list)
  go false ih = ap (nat_lt 0) (no-more (times a list)) ∙ ih

-- ---- storing a number
chosen-count : (b : Bool) (k : ℕ) (o : Option ℕ) → unwrap_or (cond b (Some k) o) 0 ≡ cond b k (unwrap_or o 0)
chosen-count true k o = refl
chosen-count false k o = refl

module _ (a : Assertion) (old new : Counted) (number : ℕ)
    (put : (c : Assertion) → get fixed_order new.times c ≡ cond (is_eq (fixed_order (alike a) c)) (Some number) (get fixed_order old.times c)) where
  put-down : (c : Assertion) → count_in new c ≡ cond (is_alike a c) number (count_in old c)
  put-down c =
      ap (λ o. unwrap_or o 0) (put (alike c))
      ∙ ap (λ b. unwrap_or (cond b (Some number) (get fixed_order old.times (alike c))) 0) (place-is a c)
      ∙ chosen-count (is_alike a c) number (get fixed_order old.times (alike c))

  module _ (before after : List Assertion) where
    with-own : (c : Assertion) (b : Bool) → is_alike a c ≡ b → times c (before ++ a ∷ after) ≡ cond b 1 0 + times c (before ++ after)
    with-own c b e = times-parted c before a after ∙ ap (λ x. cond x 1 0 + times c (before ++ after)) (alike-turned c a ∙ e)

    pub added-times : ((c : Assertion) → count_in old c ≡ times c (before ++ after)) → number ≡ count_in old a + 1 →
        (c : Assertion) → count_in new c ≡ times c (before ++ a ∷ after)
    added-times h more c = put-down c ∙ pick where
      pick : cond (is_alike a c) number (count_in old c) ≡ times c (before ++ a ∷ after)
      pick = elim (cases_Bool (is_alike a c)) [
        | inl e ↦
            let same = h a ∙ times-moves a c (before ++ after) e in
            let own = with-own c true e in
            ap (λ b. cond b number (count_in old c)) e ∙ omega (arith, more, same, own)
        | inr e ↦ ap (λ b. cond b number (count_in old c)) e ∙ h c ∙ sym (with-own c false e ∙ no-more (times c (before ++ after)))
      ]

    pub fewer-times : ((c : Assertion) → count_in old c ≡ times c (before ++ a ∷ after)) → number ≡ count_in old a - 1 →
        (c : Assertion) → count_in new c ≡ times c (before ++ after)
    fewer-times h less c = put-down c ∙ pick where
      pick : cond (is_alike a c) number (count_in old c) ≡ times c (before ++ after)
      pick = elim (cases_Bool (is_alike a c)) [
        | inl e ↦
            let same = h a ∙ times-moves a c (before ++ a ∷ after) e in
            let own = with-own c true e in
            ap (λ b. cond b number (count_in old c)) e ∙ omega (arith, less, same, own)
        | inr e ↦ ap (λ b. cond b number (count_in old c)) e ∙ h c ∙ with-own c false e ∙ no-more (times c (before ++ after))
      ]

-- ---- the index after an assertion is removed
module _ (a : Assertion) (before after : List Assertion) (number : ℕ) (left : number ≡ times a (before ++ after)) where
  still-said : (said : Assertion) (was now : Bool) → now ≡ cond (is_alike said a) (nat_lt 0 number) was →
      was ≡ list_any (is_alike said) (before ++ a ∷ after) → now ≡ list_any (is_alike said) (before ++ after)
  still-said said was now e h = elim (cases_Bool (is_alike said a)) [
    | inl t ↦
        e ∙ ap (λ b. cond b (nat_lt 0 number) was) t ∙ ap (nat_lt 0) (left ∙ sym (times-moves said a (before ++ after) t))
        ∙ times-any said (before ++ after)
    | inr f ↦
        e ∙ ap (λ b. cond b (nat_lt 0 number) was) f ∙ h ∙ any-parted (is_alike said) before a after
        ∙ ap (λ b. b || list_any (is_alike said) (before ++ after)) f
  ]

  pub fewer-index : (old new : Refuting) →
      ((w l : ℕ) → has (Rattle.std.specs.Prelude.get_or new.winners l 0) w
      ≡ cond (is_neb w l a) (nat_lt 0 number) (has (Rattle.std.specs.Prelude.get_or old.winners l 0) w)) →
      ((w set : ℕ) → has (under new.nens set) w ≡ cond (is_nen w set a) (nat_lt 0 number) (has (under old.nens set) w)) →
      IsIndexOf (before ++ a ∷ after) old → IsIndexOf (before ++ after) new
  fewer-index old new nebs nens h = record {
    nebs = λ w l. still-said (Neb w l) _ _ (nebs w l) (h.nebs w l);
    nens = λ w set. still-said (Nen w w set) _ _ (nens w set) (h.nens w set);
  }
