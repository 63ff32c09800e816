-- Suffixes that end in others, and the places of a suffix.
use Rattle.std.proofs.Common.{◌≡◌, ◌⊎◌, inl, inr, ℕ, ◌+◌, ◌<◌, ◌≤◌, Bool, true, false, not, ◌==◌, cond, List, [], ◌∷◌, ◌++◌, map, filter, length, count_by, Contains, refl, sym, ap, subst, arith, length-append, append_assoc, eqb-true, eq-eqb, ◌∙◌}
use Rattle.std.proofs.lemmas.Bool.{and_from, and_parts, or_cases, or_left, or_right, both_ways, cases_Bool, not_from_false, not-true}
use Rattle.std.proofs.lemmas.List.Folds.{fold-map}
use Rattle.std.proofs.lemmas.List.Sums.{sum_by-cons}
use Rattle.irv_base.specs.Candidates.{candidates, is_in}
use Rattle.irv_base.specs.Orders.{is_order, EndsIn}
use Rattle.irv_base.proofs.Members.{Member, here, there, member-map, member-filter, from_map, from_filter, from_candidates, candidate-member, contains-from_member, member-from_contains, member-append_right, out-from_none}
use Rattle.irv_base.proofs.Distinct.{Distinct, none, more, distinct-head, distinct-rest, distinct-range}
use Rattle.irv_base.proofs.Orders.{last_split, order_facts, order_test}
use Rattle.assertions.specs.Suffixes.{is_suffix}
use Rattle.assertions.specs.Hardness.{low}
use Rattle.assertions.proofs.Endings.{suffix_facts}
use Rattle.assertions.proofs.Enumerated.{suffix_test}
use Rattle.assertions.proofs.Lows.{low_of_suffix}
use Rattle.suffix_tree.specs.Suffixes.{Suffix, with_front, children}
use Rattle.suffix_tree.specs.declared.scored.Scored.{Scored}
use Rattle.suffix_tree.proofs.Tails.{suffix-short}
use Rattle.irv_base.specs.Names.{is_same}
use Rattle.bound_search.specs.Places.{ends_in}

-- ---- suffixes of suffixes
-- a suffix that ends in t is t, or ends in one that is longer by one
pub grows : (n : ℕ) (s t : List ℕ) → is_suffix n s ≡ true → EndsIn s t → (s ≡ t) ⊎ ((c : ℕ) × (c < n) × (is_in t c ≡ false) × EndsIn s (c ∷ t))
grows n s t h ends = go ends.0 ends.1 where
  go : (before : List ℕ) → s ≡ before ++ t → (s ≡ t) ⊎ ((c : ℕ) × (c < n) × (is_in t c ≡ false) × EndsIn s (c ∷ t))
  go [] same = inl same
  go (b ∷ bs) same =
      let (before, c, e) = last_split b bs in
      let same' : s ≡ before ++ c ∷ t = same ∙ ap (λ x. x ++ t) e ∙ append_assoc before (c ∷ []) t in
      let facts = suffix_facts n s h in
      inr (
        c,
        facts.below c (subst (Member c) (sym same') (member-append_right before here)),
        out-from_none c t (distinct-head (distinct-rest before (c ∷ t) (subst Distinct same' facts.apart))),
        (before, same'),
      )

pub low_in : (n : ℕ) (records : List (List ℕ)) (s t : List ℕ) → is_suffix n s ≡ true → EndsIn s t → low n records t ≤ low n records s
low_in n records s t h (before, same) =
    subst (λ x. low n records t ≤ low n records x) (sym same) (low_of_suffix n records before t (subst Distinct same (suffix_facts n s h).apart))

-- a suffix that ends in a whole order is that order
pub whole_ends : (n : ℕ) (s t : List ℕ) → is_suffix n s ≡ true → EndsIn s t → length t ≡ n → s ≡ t
whole_ends n s t h (before, same) long = go before same where
  go : (before : List ℕ) → s ≡ before ++ t → s ≡ t
  go [] e = e
  go (b ∷ bs) e = let le = suffix-short n s h in absurd (omega (arith, le, long, ap length e, length-append (b ∷ bs) t))

pub whole_is_order : (n : ℕ) (t : List ℕ) → is_suffix n t ≡ true → length t ≡ n → is_order n t ≡ true
whole_is_order n t h long = let facts = suffix_facts n t h in order_test n t long facts.apart facts.below

pub order_is_suffix : (n : ℕ) (s : List ℕ) → is_order n s ≡ true → is_suffix n s ≡ true
order_is_suffix n s h = let o = order_facts n s h in suffix_test (record { apart = o.apart; below = o.below })

pub ends_more : (c : ℕ) (t piece : List ℕ) → EndsIn t piece → EndsIn (c ∷ t) piece
ends_more c t piece (before, e) = (c ∷ before, ap (λ x. c ∷ x) e)

pub ends_through : (s t u : List ℕ) → EndsIn s t → EndsIn t u → EndsIn s u
ends_through s t u (before, e) (between, e') = (before ++ between, e ∙ ap (λ x. before ++ x) e' ∙ sym (append_assoc before between u))

-- ---- children
pub child-of : (t : Suffix) (cs : List Scored) (k : Scored) → map (λ s. s.tail) cs ≡ children t → Contains cs k →
    (c : ℕ) × (c < t.n) × (is_in t.list c ≡ false) × (k.tail ≡ with_front t c)
child-of t cs k e h =
    let m : Member k.tail (children t) = subst (Member k.tail) e (member-map (λ s. s.tail) (member-from_contains k cs h)) in
    let (c, m', same) = from_map (with_front t) k.tail (filter (λ c. not (is_in t.list c)) (candidates t.n)) m in
    let (inside, out) = from_filter (λ c. not (is_in t.list c)) (candidates t.n) m' in
    (c, from_candidates inside, not-true (is_in t.list c) out, sym same)

pub child-at : (c : ℕ) (t : Suffix) (cs : List Scored) → map (λ s. s.tail) cs ≡ children t → c < t.n → is_in t.list c ≡ false →
    (k : Scored) × Contains cs k × (k.tail ≡ with_front t c)
child-at c t cs e l out =
    let m : Member (with_front t c) (children t) =
    member-map (with_front t) (member-filter (λ c. not (is_in t.list c)) (candidates t.n) (candidate-member c t.n l) (not_from_false (is_in t.list c) out)) in
    let (k, m', same) = from_map (λ s. s.tail) (with_front t c) cs (subst (Member (with_front t c)) (sym e) m) in
    (k, contains-from_member m', same)

-- ---- each suffix is in one place
abbrev pub bit : Bool → ℕ
bit b = cond b 1 0

pub same-from : (s t : List ℕ) → is_same s t ≡ true → s ≡ t
same-from [] [] h = refl
same-from [] (y ∷ t) h = cc
same-from (x ∷ s) [] h = cc
same-from (x ∷ s) (y ∷ t) h =
    let (p, q) = and_parts (x == y) (is_same s t) h in
    let a : x ≡ y = eqb-true x y p in
    let b = same-from s t q in
    cc

pub same-self : (s : List ℕ) → is_same s s ≡ true
same-self [] = refl
same-self (x ∷ s) = and_from (x == x) (is_same s s) (eq-eqb x x refl) (same-self s)

pub ends-from : (s t : List ℕ) → ends_in s t ≡ true → EndsIn s t
ends-from [] t h = ([], same-from [] t h)
ends-from (c ∷ s) t h =
    elim (or_cases (is_same (c ∷ s) t) (ends_in s t) h) [
      | inl a ↦ ([], same-from (c ∷ s) t a)
      | inr b ↦ let (before, e) = ends-from s t b in (c ∷ before, ap (λ x. c ∷ x) e)
    ]

pub ends-self : (t : List ℕ) → ends_in t t ≡ true
ends-self [] = refl
ends-self (c ∷ t) = or_left (is_same (c ∷ t) (c ∷ t)) (ends_in t (c ∷ t)) (same-self (c ∷ t))

ends-to : (before t : List ℕ) → ends_in (before ++ t) t ≡ true
ends-to [] t = ends-self t
ends-to (c ∷ before) t = or_right (is_same (c ∷ before ++ t) t) (ends_in (before ++ t) t) (ends-to before t)

ends-rest : (s t : List ℕ) (c : ℕ) → ends_in s (c ∷ t) ≡ true → ends_in s t ≡ true
ends-rest s t c h =
    let (before, e) = ends-from s (c ∷ t) h in
    let e' : s ≡ (before ++ c ∷ []) ++ t = e ∙ sym (append_assoc before (c ∷ []) t) in
    subst (λ x. ends_in x t ≡ true) (sym e') (ends-to (before ++ c ∷ []) t)

next_same : (a b t : List ℕ) (c d : ℕ) → a ++ c ∷ t ≡ b ++ d ∷ t → c ≡ d
next_same [] [] t c d e = cc
next_same [] (y ∷ b) t c d e = absurd (omega (arith, ap length e, length-append (y ∷ b) (d ∷ t)))
next_same (x ∷ a) [] t c d e = absurd (omega (arith, ap length e, length-append (x ∷ a) (c ∷ t)))
next_same (x ∷ a) (y ∷ b) t c d e = let e' : a ++ c ∷ t ≡ b ++ d ∷ t = cc in next_same a b t c d e'

not_longer : (t : List ℕ) (c : ℕ) → ends_in t (c ∷ t) ≡ true → ⊥
not_longer t c h = let (before, e) = ends-from t (c ∷ t) h in omega (arith, ap length e, length-append before (c ∷ t))

count_none : (p : ℕ → Bool) (cs : List ℕ) → ((c : ℕ) → p c ≡ false) → count_by p cs ≡ 0
count_none p [] h = refl
count_none p (c ∷ cs) h =
    let e : count_by p (c ∷ cs) ≡ bit (p c) + count_by p cs = sum_by-cons (λ x. bit (p x)) c cs in
    let z : bit (p c) ≡ 0 = ap (λ b. bit b) (h c) in
    omega (arith, e, z, count_none p cs h)

count_one : (p : ℕ → Bool) (cs : List ℕ) → Distinct cs → ((c d : ℕ) → p c ≡ true → p d ≡ true → c ≡ d) → count_by p cs ≤ 1
count_one p [] none h = omega arith
count_one p (c ∷ cs) (more out d) h =
    let e : count_by p (c ∷ cs) ≡ bit (p c) + count_by p cs = sum_by-cons (λ x. bit (p x)) c cs in
    elim (cases_Bool (p c)) [
      | inl t ↦
          let one : bit (p c) ≡ 1 = ap (λ b. bit b) t in
          let rest : count_by p cs ≡ 0 =
          rest_none cs (λ x m. elim (cases_Bool (p x)) [ inl u ↦ absurd (out (subst (λ z. Member z cs) (h x c u t) m)) | inr f ↦ f ]) in
          omega (arith, e, one, rest)
      | inr f ↦ let z : bit (p c) ≡ 0 = ap (λ b. bit b) f in omega (arith, e, z, count_one p cs d h)
    ]
  where
    rest_none : (xs : List ℕ) → ((x : ℕ) → Member x xs → p x ≡ false) → count_by p xs ≡ 0
    rest_none [] k = refl
    rest_none (x ∷ xs) k =
        let e : count_by p (x ∷ xs) ≡ bit (p x) + count_by p xs = sum_by-cons (λ y. bit (p y)) x xs in
        let z : bit (p x) ≡ 0 = ap (λ b. bit b) (k x here) in
        omega (arith, e, z, rest_none xs (λ y m. k y (there m)))

pub distinct-filter : (p : ℕ → Bool) {cs : List ℕ} → Distinct cs → Distinct (filter p cs)
distinct-filter p none = none
distinct-filter p (more {c = c} {cs = cs} out d) = kept (p c) (distinct-filter p d) where
  kept : (b : Bool) → Distinct (filter p cs) → Distinct (cond b (c ∷ filter p cs) (filter p cs))
  kept true k = more (λ m. out (from_filter p cs m).0) k
  kept false k = k

-- a suffix that ends in t is t, or ends in one of t's children
pub one_place : (s t cs : List ℕ) → Distinct cs → bit (is_same s t) + count_by (λ c. ends_in s (c ∷ t)) cs ≤ bit (ends_in s t)
one_place s t cs d =
    elim (cases_Bool (ends_in s t)) [
      | inr f ↦
          let a : is_same s t ≡ false = elim (cases_Bool (is_same s t)) [
            | inl u ↦ absurd
                (both_ways (ends_in s t) f (subst (λ x. ends_in x t ≡ true) (sym (same-from s t u)) (ends-self t)))
            | inr g ↦ g
          ] in
          let b : count_by (λ c. ends_in s (c ∷ t)) cs ≡ 0 = count_none (λ c. ends_in s (c ∷ t)) cs
          (λ c. elim (cases_Bool (ends_in s (c ∷ t))) [ inl u ↦ absurd (both_ways (ends_in s t) f (ends-rest s t c u)) | inr g ↦ g ]) in
          let x : bit (is_same s t) ≡ 0 = ap (λ v. bit v) a in
          omega (arith, b, x)
      | inl u ↦
          let y : bit (ends_in s t) ≡ 1 = ap (λ v. bit v) u in
          elim (cases_Bool (is_same s t)) [
            | inl e ↦
                let x : bit (is_same s t) ≡ 1 = ap (λ v. bit v) e in
                let same = same-from s t e in
                let b : count_by (λ c. ends_in s (c ∷ t)) cs ≡ 0 =
                count_none (λ c. ends_in s (c ∷ t)) cs
                (λ c. elim (cases_Bool (ends_in s (c ∷ t))) [ inl w ↦ absurd (not_longer t c (subst (λ z. ends_in z (c ∷ t) ≡ true) same w)) | inr g ↦ g ]) in
                omega (arith, b, x, y)
            | inr e ↦
                let x : bit (is_same s t) ≡ 0 = ap (λ v. bit v) e in
                let b : count_by (λ c. ends_in s (c ∷ t)) cs ≤ 1 =
                count_one (λ c. ends_in s (c ∷ t)) cs d (λ c k h g. let (before, i) = ends-from s (c ∷ t) h in let (before', j) = ends-from s (k ∷ t) g in
                next_same before before' t c k (sym i ∙ j)) in
                omega (arith, b, x, y)
          ]
    ]

pub places_of_children : (s : List ℕ) (t : Suffix) (cs : List Scored) → map (λ o. o.tail) cs ≡ children t →
    bit (is_same s t.list) + count_by (λ o. ends_in s o.tail.list) cs ≤ bit (ends_in s t.list)
places_of_children s t cs e =
    let of_tails : count_by (λ x. ends_in s x.list) (map (λ o. o.tail) cs) ≡ count_by (λ o. ends_in s o.tail.list) cs =
    fold-map (λ a (x : Suffix). a + bit (ends_in s x.list)) (λ (o : Scored). o.tail) 0 cs in
    let of_candidates : count_by (λ x. ends_in s x.list) (children t) ≡ count_by (λ c. ends_in s (c ∷ t.list))
    (filter (λ c. not (is_in t.list c)) (candidates t.n)) =
    fold-map (λ a (x : Suffix). a + bit (ends_in s x.list)) (with_front t) 0 (filter (λ c. not (is_in t.list c)) (candidates t.n)) in
    let place = one_place s t.list (filter (λ c. not (is_in t.list c)) (candidates t.n)) (distinct-filter (λ c. not (is_in t.list c)) (distinct-range 0 t.n)) in
    omega (arith, of_tails, of_candidates, place, ap (count_by (λ (x : Suffix). ends_in s x.list)) e)
