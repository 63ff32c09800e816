-- The claims that the steps from sets give are the certificate's.
use Rattle.std.proofs.Common.{◌≡◌, ℕ, ◌+◌, ◌-◌, cond, ◌<◌, ◌≤◌, ◌⊎◌, inl, inr, Bool, true, false, not, ◌&&◌, ◌==◌, nat_le, if◌then◌else◌, List, [], ◌∷◌, map, filter, Option, Some, None, refl, sym, ap, subst, eq-eqb, eqb-true, le-leb, leb-true, ◌∙◌}
use Rattle.std.specs.List.{list_any, range_with_len}
use Rattle.std.specs.BTreeMap.{insert_entry}
use Rattle.std.proofs.lemmas.Bool.{and_from, and_parts, not-true, not_from_false, or_cases, or_left, or_right}
use Rattle.irv_base.specs.Candidates.{all_but, candidates, has}
use Rattle.irv_base.proofs.Members.{Member, contains-from_member, from_filter, from_find, from_list_any, here, list_any-member, member-filter, member-from_contains, member_cases, member_nil, there}
use Rattle.assertions.specs.declared.assertion.Assertion.{Assertion}
use Rattle.assertions.specs.declared.assertion.Assertion.TheVariants.{Neb, Nen}
use Rattle.assertions.specs.Assertions.{assertions, true_margin}
use Rattle.assertions.specs.Certificate.{certificate_assertions, certificate_claims, claim_of, is_same, is_some_same}
use Rattle.assertions.proofs.FixedOrders.{Before, before-not_both, sorted-assertions}
use Rattle.assertions.proofs.Sorted.{Sorted, none, sorted-filter, sorted-same}
use Rattle.certifier.specs.Gathered.{claim_at, with_margin}
use Rattle.certifier.proofs.Agreement.{order, marked, keys_of, keys-sorted, from_keys, keys-keep, keys-member, all-marked, map-marked}
use Rattle.irv_base.proofs.Ranges.{range-step}
use Rattle.set_walk.specs.Bests.{gives_from, is_given}
use Rattle.assertions.specs.Steps.{anew, outside, step, step_refuter}
use Rattle.set_walk.specs.Walks.{standing}
use Rattle.set_walk.proofs.Bests.{best_by_sets_is}
use Rattle.set_walk.proofs.Claims.{certificate_by_sets}
use Rattle.set_search.specs.Given.{AreCover, given_by, with_step, with_each, with_steps}
use Rattle.set_search.specs.Limits.{within}
use Rattle.set_search.specs.Offers.{step_score}
use Rattle.set_search.specs.Sets.{best_of}
use Rattle.set_search.specs.declared.by_margin.Limit.TheVariants.{Below}

-- ---- assertions as values
pub same-self : (a : Assertion) → is_same a a ≡ true
same-self (Neb w l) = and_from (w == w) (l == l) (eq-eqb w w refl) (eq-eqb l l refl)
same-self (Nen w l s) = and_from ((w == w) && (l == l)) (s == s) (and_from (w == w) (l == l) (eq-eqb w w refl) (eq-eqb l l refl)) (eq-eqb s s refl)

pub is_the_same : (a b : Assertion) → is_same a b ≡ true → a ≡ b
is_the_same (Neb w l) (Neb v k) h =
    let (p, q) = and_parts (w == v) (l == k) h in
    let p' : w ≡ v = eqb-true w v p in
    let q' : l ≡ k = eqb-true l k q in
    cc
is_the_same (Nen w l s) (Nen v k u) h =
    let (pq, r) = and_parts ((w == v) && (l == k)) (s == u) h in
    let (p, q) = and_parts (w == v) (l == k) pq in
    let p' : w ≡ v = eqb-true w v p in
    let q' : l ≡ k = eqb-true l k q in
    let r' : s ≡ u = eqb-true s u r in
    cc
is_the_same (Neb w l) (Nen v k u) h = cc
is_the_same (Nen w l s) (Neb v k) h = cc

is_some : (o : Option Assertion) (a : Assertion) → is_some_same o a ≡ true → o ≡ Some a
is_some None a h = cc
is_some (Some b) a h = ap Some (is_the_same b a h)

-- ---- the candidates outside a set, in order
abbrev pub outside_from : ℕ → ℕ → ℕ → List ℕ
outside_from closed c n = filter (λ d. not (has closed d)) (range_with_len c (n - c))

outside-next : (closed c n : ℕ) → c < n → outside_from closed c n ≡ cond (not (has closed c)) (c ∷ outside_from closed (c + 1) n)
    (outside_from closed (c + 1) n)
outside-next closed c n l = ap (filter (λ d. not (has closed d))) (range-step c n l)

module _ (n : ℕ) (records : List (List ℕ)) (margin : ℕ) (entries : List (Assertion × ℕ)) (set closed c : ℕ) (l : c < n) where
  pub each-taken : has closed c ≡ false →
      with_each order n records margin (with_step order margin entries (step_score n records set c)) set (outside_from closed (c + 1) n)
      ≡ with_each order n records margin entries set (outside_from closed c n)
  each-taken out =
      ap (with_each order n records margin entries set) (sym (outside-next closed c n l
      ∙ ap (λ b. cond (not b) (c ∷ outside_from closed (c + 1) n) (outside_from closed (c + 1) n)) out))

  pub each-left : has closed c ≡ true →
      with_each order n records margin entries set (outside_from closed (c + 1) n) ≡ with_each order n records margin entries set (outside_from closed c n)
  each-left inside =
      ap (with_each order n records margin entries set) (sym (outside-next closed c n l
      ∙ ap (λ b. cond (not b) (c ∷ outside_from closed (c + 1) n) (outside_from closed (c + 1) n)) inside))

module _ (n : ℕ) (records : List (List ℕ)) (margin : ℕ) where
  abbrev given : ℕ → ℕ → Option Assertion
  given set c = given_by margin (step_score n records set c)

  -- what is given comes from a step of at least the margin
  given-parts : (set c : ℕ) (a : Assertion) → given set c ≡ Some a → (margin ≤ step n records set c) × (step_refuter n records set c ≡ Some a)
  given-parts set c a h = go (nat_le margin (step n records set c)) refl h where
    go : (b : Bool) → nat_le margin (step n records set c) ≡ b → (if b then step_refuter n records set c else None) ≡ Some a →
        (margin ≤ step n records set c) × (step_refuter n records set c ≡ Some a)
    go true e k = (leb-true margin (step n records set c) e, k)
    go false e k = cc

  given-from : (set c : ℕ) (a : Assertion) → margin ≤ step n records set c → step_refuter n records set c ≡ Some a → given set c ≡ Some a
  given-from set c a le e = ap (λ b. if b then step_refuter n records set c else None) (le-leb margin (step n records set c) le) ∙ e

  refuter-facts : (set c : ℕ) (a : Assertion) → step_refuter n records set c ≡ Some a → (true_margin records a ≡ step n records set c) × Member a (assertions n)
  refuter-facts set c a e =
      let (m, t) = from_find (λ a. true_margin records a == step n records set c) a (anew n records set c) e in
      (eqb-true (true_margin records a) (step n records set c) t, (from_filter _ (assertions n) m).0)

  -- ---- one step, one set, and more of them
  one-marked : (set c : ℕ) (ks : List Assertion) →
      with_step order margin (map (marked n records) ks) (step_score n records set c) ≡ map (marked n records) (keys_of (given set) ks (c ∷ []))
  one-marked set c ks = go (given set c) refl where
    go : (o : Option Assertion) → given set c ≡ o →
        with_margin order (map (marked n records) ks) o (step n records set c) ≡ map (marked n records) (keys_of (λ (x : ℕ). o) ks (c ∷ []))
    go None e = refl
    go (Some a) e =
        let (_, by) = given-parts set c a e in
        let (is, _) = refuter-facts set c a by in
        ap (insert_entry order (map (marked n records) ks) a) (sym is) ∙ all-marked n records ks (a ∷ [])

  each-marked : (set : ℕ) (ks : List Assertion) (cs : List ℕ) →
      with_each order n records margin (map (marked n records) ks) set cs ≡ map (marked n records) (keys_of (given set) ks cs)
  each-marked set ks [] = refl
  each-marked set ks (c ∷ cs) =
      ap (λ es. with_each order n records margin es set cs) (one-marked set c ks) ∙ each-marked set (keys_of (given set) ks (c ∷ [])) cs

  abbrev pub with_sets : List (Assertion × ℕ) → List ℕ → List (Assertion × ℕ)
  with_sets entries [] = entries
  with_sets entries (set ∷ sets) = with_sets (with_steps order n records margin entries set set) sets

  abbrev keys_over : List Assertion → List ℕ → List Assertion
  keys_over ks [] = ks
  keys_over ks (set ∷ sets) = keys_over (keys_of (given set) ks (outside n set)) sets

  sets-marked : (ks : List Assertion) (sets : List ℕ) → with_sets (map (marked n records) ks) sets ≡ map (marked n records) (keys_over ks sets)
  sets-marked ks [] = refl
  sets-marked ks (set ∷ sets) =
      ap (λ es. with_sets es sets) (each-marked set ks (outside n set)) ∙ sets-marked (keys_of (given set) ks (outside n set)) sets

  over-sorted : (ks : List Assertion) (sets : List ℕ) → Sorted Before ks → Sorted Before (keys_over ks sets)
  over-sorted ks [] r = r
  over-sorted ks (set ∷ sets) r = over-sorted (keys_of (given set) ks (outside n set)) sets (keys-sorted (given set) ks (outside n set) r)

  over-keep : (ks : List Assertion) (sets : List ℕ) (a : Assertion) → Member a ks → Member a (keys_over ks sets)
  over-keep ks [] a m = m
  over-keep ks (set ∷ sets) a m = over-keep (keys_of (given set) ks (outside n set)) sets a (keys-keep (given set) ks (outside n set) a m)

  over-member : (ks : List Assertion) (sets : List ℕ) (set c : ℕ) (a : Assertion) → Member set sets → Member c (outside n set) → given set c ≡ Some a →
      Member a (keys_over ks sets)
  over-member ks [] set c a m k e = absurd (member_nil m)
  over-member ks (x ∷ sets) set c a m k e =
      elim (member_cases m) [
        | inl same ↦ over-keep (keys_of (given x) ks (outside n x)) sets a
            (keys-member (given x) ks (outside n x) c a (subst (λ y. Member c (outside n y)) (sym same) k) (ap (λ y. given y c) same ∙ e))
        | inr r ↦ over-member (keys_of (given x) ks (outside n x)) sets set c a r k e
      ]

  from_over : (ks : List Assertion) (sets : List ℕ) (a : Assertion) → Member a (keys_over ks sets) →
      Member a ks ⊎ ((set : ℕ) × (c : ℕ) × Member set sets × Member c (outside n set) × (given set c ≡ Some a))
  from_over ks [] a m = inl m
  from_over ks (x ∷ sets) a m =
      elim (from_over (keys_of (given x) ks (outside n x)) sets a m) [
        | inl k ↦ elim (from_keys (given x) ks (outside n x) a k) [
          | inl old ↦ inl old
          | inr r ↦ let (c, q, e) = r in inr (x, c, here, q, e)
        ]
        | inr r ↦ let (set, c, q, k, e) = r in inr (set, c, there q, k, e)
      ]

  -- ---- all of them
  module _ (winner closed : ℕ) (sets : List ℕ) (low' : winner < n) (two : 1 < n) (is : margin ≡ best_of n records winner)
      (cover : AreCover n records winner margin sets) (only-winner : (c : ℕ) → has closed c ≡ (c == winner)) where
    abbrev firsts : List Assertion
    firsts = keys_of (given 0) [] (outside n closed)

    abbrev keys : List Assertion
    keys = keys_over firsts sets

    gives : (set c : ℕ) (a : Assertion) → given set c ≡ Some a → gives_from n records margin a set c ≡ true
    gives set c a e =
        let (le, by) = given-parts set c a e in
        and_from (nat_le margin (step n records set c)) (is_some_same (step_refuter n records set c) a) (le-leb margin (step n records set c) le)
        (ap (λ o. is_some_same o a) by ∙ same-self a)

    gave : (set c : ℕ) (a : Assertion) → gives_from n records margin a set c ≡ true → given set c ≡ Some a
    gave set c a g =
        let (le, by) = and_parts (nat_le margin (step n records set c)) (is_some_same (step_refuter n records set c) a) g in
        given-from set c a (leb-true margin (step n records set c) le) (is_some (step_refuter n records set c) a by)

    abbrev list : List Assertion
    list = filter (is_given n records winner margin) (assertions n)

    put : (set c : ℕ) (a : Assertion) → given set c ≡ Some a → is_given n records winner margin a ≡ true → Member a list
    put set c a e h =
        let (_, by) = given-parts set c a e in
        member-filter (is_given n records winner margin) (assertions n) (refuter-facts set c a by).1 h

    from_firsts : (a : Assertion) → Member a firsts → Member a list
    from_firsts a m =
        elim (from_keys (given 0) [] (outside n closed) a m) [
          | inl k ↦ absurd (member_nil k)
          | inr r ↦
              let (c, q, e) = r in
              let (k, out) = from_filter (λ c. not (has closed c)) (candidates n) q in
              put 0 c a e
              (or_left (list_any (gives_from n records margin a 0) (all_but n winner)) _
              (list_any-member (gives_from n records margin a 0)
              (member-filter (λ c. not (c == winner)) (candidates n) k (not_from_false (c == winner) (sym (only-winner c) ∙ not-true (has closed c) out)))
              (gives 0 c a e)))
        ]

    to : (a : Assertion) → Member a keys → Member a list
    to a m =
        elim (from_over firsts sets a m) [
          | inl k ↦ from_firsts a k
          | inr r ↦
              let (set, c, q, k, e) = r in
              let stands = member-from_contains set (standing n winner (within (Below margin) n records)) ((cover set).0 (contains-from_member q)) in
              put set c a e
              (or_right (list_any (gives_from n records margin a 0) (all_but n winner)) _
              (list_any-member (λ set. list_any (gives_from n records margin a set) (outside n set)) stands
              (list_any-member (gives_from n records margin a set) k (gives set c a e))))
        ]

    back : (a : Assertion) → Member a list → Member a keys
    back a m =
        let (_, h) = from_filter (is_given n records winner margin) (assertions n) m in
        elim (or_cases (list_any (gives_from n records margin a 0) (all_but n winner)) _ h) [
          | inl x ↦
              let (c, k, g) = from_list_any (gives_from n records margin a 0) (all_but n winner) x in
              let (k', ne) = from_filter (λ c. not (c == winner)) (candidates n) k in
              over-keep firsts sets a (keys-member (given 0) [] (outside n closed) c a
              (member-filter (λ c. not (has closed c)) (candidates n) k' (not_from_false (has closed c) (only-winner c ∙ not-true (c == winner) ne)))
              (gave 0 c a g))
          | inr y ↦
              let (set, k, any) = from_list_any (λ set. list_any (gives_from n records margin a set) (outside n set))
              (standing n winner (within (Below margin) n records)) y in
              let (c, q, g) = from_list_any (gives_from n records margin a set) (outside n set) any in
              over-member firsts sets set c a (member-from_contains set sets ((cover set).1 (contains-from_member k))) q (gave set c a g)
        ]

    list-is : list ≡ certificate_assertions n records winner
    list-is =
        sym (certificate_by_sets n winner records low' two
        ∙ ap (λ m. filter (is_given n records winner m) (assertions n)) (sym (is ∙ best_by_sets_is n records winner low' two)))

    keys-are : keys ≡ certificate_assertions n records winner
    keys-are =
        sorted-same Before before-not_both keys list (over-sorted firsts sets (keys-sorted (given 0) [] (outside n closed) none))
        (sorted-filter Before (is_given n records winner margin) (sorted-assertions n)) to back
        ∙ list-is

    pub claims_are : map claim_at (with_sets (with_steps order n records margin [] 0 closed) sets) ≡ certificate_claims n records winner
    claims_are =
        ap (λ es. map claim_at (with_sets es sets)) (each-marked 0 [] (outside n closed))
        ∙ ap (map claim_at) (sets-marked firsts sets)
        ∙ map-marked n records keys
        ∙ ap (map (claim_of records)) keys-are
