-- What one more candidate adds to the low of a suffix, and what the search's frontier says about the best margin.
use Rattle.std.proofs.Common.{Contains, List, [], ap, append_assoc, arith, eq-eqb, eqb-true, false, filter, inl, inr, le_antisymm, le_trans, leb-true, map, max, nat_le, not, refl, subst, sym, true, ℕ, ◌++◌, ◌<◌, ◌==◌, ◌∙◌, ◌∷◌, ◌≡◌, ◌≤◌, ◌⊎◌}
use Rattle.std.proofs.lemmas.Bool.{and_from, and_parts, cases_lt, not-true, not_from_false}
use Rattle.std.specs.List.{list_all}
use Rattle.irv_base.specs.Candidates.{candidates, has, is_in, set_of}
use Rattle.irv_base.specs.Orders.{EndsIn, is_order}
use Rattle.irv_base.proofs.Distinct.{Distinct, distinct-head, distinct-rest}
use Rattle.irv_base.proofs.Members.{Member, candidate-member, contains-from_member, from_candidates, from_filter, from_list_all, from_map, here, in-from_member, member-append_cases, member-append_left, member-append_right, member-filter, member-from_contains, member-from_in, member-map, member_cases, none-from_out, out-from_none, there}
use Rattle.irv_base.proofs.Orders.{Order, last_split, order_facts}
use Rattle.irv_base.proofs.Sets.{member-from_has}
use Rattle.assertions.specs.Assertions.{is_proper, margin, true_margin}
use Rattle.assertions.specs.Hardness.{best_margin, low}
use Rattle.assertions.specs.Refutation.{part_from, refutes}
use Rattle.assertions.specs.Scores.{added, added_refuters, nebs_against, nens_for}
use Rattle.assertions.specs.Suffixes.{alternative_orders, is_suffix}
use Rattle.assertions.specs.declared.assertion.Assertion.{Assertion}
use Rattle.assertions.specs.declared.assertion.Assertion.TheVariants.{Neb, Nen}
use Rattle.assertions.proofs.Alternatives.{best_is}
use Rattle.assertions.proofs.Endings.{Suffix, from_alternative, suffix_facts}
use Rattle.assertions.proofs.Greatest.{greatest-le, greatest-member}
use Rattle.assertions.proofs.Listed.{suffix-nen}
use Rattle.assertions.proofs.Lows.{low-refuter, low_grows, low_is, low_of_suffix}
use Rattle.assertions.proofs.Parts.{part_from-other, part_from-same}
use Rattle.assertions.proofs.Proper.{nen_facts, pair_facts, pair_test}

module _ (n : ℕ) (records : List (List ℕ)) (c : ℕ) (t : List ℕ) (s : Suffix n (c ∷ t)) where
  apart : {z : ℕ} → Member z t → c ≡ z → ⊥
  apart m e = distinct-head s.apart (subst (λ x. Member x t) (sym e) m)

  -- an assertion that refutes the longer suffix refutes the shorter one, or is one of those added
  pub split_refuter : (a : Assertion) → is_proper n a ≡ true → refutes a (c ∷ t) ≡ true → (refutes a t ≡ true) ⊎ Member a (added_refuters n c t)
  split_refuter (Neb w l) proper r =
      let p = pair_facts n w l proper in
      let (in', free) = and_parts (is_in (c ∷ t) l) (not (is_in (part_from (c ∷ t) l) w)) r in
      elim (member_cases (member-from_in l (c ∷ t) in')) [
        | inl e ↦
            let out : is_in (c ∷ t) w ≡ false = ap (λ s. is_in s w) (sym (part_from-same c l t e)) ∙ not-true (is_in (part_from (c ∷ t) l) w) free in
            let m : Member (Neb w c) (nebs_against n c (c ∷ t)) =
            member-map (λ w. Neb w c) (member-filter (λ w. not (is_in (c ∷ t) w)) (candidates n) (candidate-member w n p.winner)
            (not_from_false (is_in (c ∷ t) w) out)) in
            inr (subst (λ x. Member (Neb w x) (added_refuters n c t)) e (member-append_left (nens_for c (set_of (c ∷ t)) t) m))
        | inr m ↦ inl (and_from (is_in t l) (not (is_in (part_from t l) w)) (in-from_member m)
            (ap (λ s. not (is_in s w)) (sym (part_from-other c l t (apart m))) ∙ free))
      ]
  split_refuter (Nen w l rest) proper r =
      let p = nen_facts n w l rest proper in
      let (in', same) = and_parts (is_in (c ∷ t) w) (set_of (part_from (c ∷ t) w) == rest) r in
      elim (member_cases (member-from_in w (c ∷ t) in')) [
        | inl e ↦
            let q : set_of (c ∷ t) ≡ rest = ap set_of (sym (part_from-same c w t e)) ∙ eqb-true (set_of (part_from (c ∷ t) w)) rest same in
            let k : Member l t = elim (member_cases (member-from_has (c ∷ t) l s.apart (ap (λ x. has x l) q ∙ p.has_loser))) [
              | inl g ↦ absurd
                  (p.pair.differ (sym e ∙ g))
              | inr g ↦ g
            ] in
            let m : Member (Nen c l (set_of (c ∷ t))) (nens_for c (set_of (c ∷ t)) t) = member-map (λ l. Nen c l (set_of (c ∷ t))) k in
            inr (subst (λ x. Member (Nen x l rest) (added_refuters n c t)) e
            (subst (λ x. Member (Nen c l x) (added_refuters n c t)) q (member-append_right (nebs_against n c (c ∷ t)) m)))
        | inr m ↦ inl (and_from (is_in t w) (set_of (part_from t w) == rest) (in-from_member m)
            (ap (λ x. set_of x == rest) (sym (part_from-other c w t (apart m))) ∙ same))
      ]

  abbrev pub Refutes : Assertion → Type 0
  Refutes a = (is_proper n a ≡ true) × (refutes a (c ∷ t) ≡ true)

  -- those added refute it
  pub added-refutes : (a : Assertion) → Member a (added_refuters n c t) → Refutes a
  added-refutes a m =
      elim (member-append_cases (nebs_against n c (c ∷ t)) (nens_for c (set_of (c ∷ t)) t) m) [
        | inl x ↦
            let (w, k, e) = from_map (λ w. Neb w c) a (filter (λ w. not (is_in (c ∷ t) w)) (candidates n)) x in
            let (k', out) = from_filter (λ w. not (is_in (c ∷ t) w)) (candidates n) k in
            let out' : is_in (c ∷ t) w ≡ false = not-true (is_in (c ∷ t) w) out in
            subst Refutes e (
              pair_test n w c (record {
                winner = from_candidates k';
                loser = s.below c here;
                differ = λ e. none-from_out out'
                    (subst (λ z. Member z (c ∷ t)) (sym e) here);
              }),
              and_from (is_in (c ∷ t) c) (not (is_in (part_from (c ∷ t) c) w)) (in-from_member {c = c} {cs = c ∷ t} here)
                  (not_from_false (is_in (part_from (c ∷ t) c) w) (ap (λ s. is_in s w) (part_from-same c c t refl) ∙ out')),
            )
        | inr x ↦
            let (l, k, e) = from_map (λ l. Nen c l (set_of (c ∷ t))) a t x in
            subst Refutes e (
              suffix-nen n c l (c ∷ t) s here (there k) (apart k),
              and_from (is_in (c ∷ t) c) (set_of (part_from (c ∷ t) c) == set_of (c ∷ t)) (in-from_member {c = c} {cs = c ∷ t} here)
                  (eq-eqb (set_of (part_from (c ∷ t) c)) (set_of (c ∷ t)) (ap set_of (part_from-same c c t refl))),
            )
      ]

  low-le : low n records (c ∷ t) ≤ max (low n records t) (added n records c t)
  low-le =
      elim (cases_lt 0 (low n records (c ∷ t))) [
        | inl lt ↦
            let (a, g) = low_is n records (c ∷ t) lt in
            elim (split_refuter a g.proper g.refuting) [
              | inl q ↦ let le : true_margin records a ≤ low n records t = low-refuter n records t a g.proper q in at-most g.reached (omega arith)
              | inr q ↦ let le : true_margin records a ≤ added n records c t = greatest-member (member-map (true_margin records) q) in
                  at-most g.reached (omega arith)
            ]
        | inr z ↦ omega arith
      ]
    where
      at-most : {x y m : ℕ} → x ≡ y → x ≤ m → y ≤ m
      at-most {m = m} e h = subst (λ z. z ≤ m) e h

  added-le : added n records c t ≤ low n records (c ∷ t)
  added-le =
      greatest-le (low n records (c ∷ t)) (map (true_margin records) (added_refuters n c t)) (λ x m.
      let (a, k, e) = from_map (true_margin records) x (added_refuters n c t) m in
      let (proper, r) = added-refutes a k in
      subst (λ z. z ≤ low n records (c ∷ t)) e (low-refuter n records (c ∷ t) a proper r))

pub low_of_more : (n : ℕ) (records : List (List ℕ)) (c : ℕ) (t : List ℕ) → is_suffix n (c ∷ t) ≡ true →
    low n records (c ∷ t) ≡ max (low n records t) (added n records c t)
low_of_more n records c t h =
    let s : Suffix n (c ∷ t) = suffix_facts n (c ∷ t) h in
    let up : low n records (c ∷ t) ≤ max (low n records t) (added n records c t) = low-le n records c t s in
    let down : added n records c t ≤ low n records (c ∷ t) = added-le n records c t s in
    let grows : low n records t ≤ low n records (c ∷ t) = low_grows n records t c (out-from_none c t (distinct-head s.apart)) in
    le_antisymm up (omega arith)

-- ---- the search's frontier
pub suffix_grows : (n : ℕ) (order t : List ℕ) → is_order n order ≡ true → EndsIn order t →
    (order ≡ t) ⊎ ((c : ℕ) × (c < n) × (is_in t c ≡ false) × EndsIn order (c ∷ t))
suffix_grows n order t h ends = go ends.0 ends.1 where
  go : (before : List ℕ) → order ≡ before ++ t → (order ≡ t) ⊎ ((c : ℕ) × (c < n) × (is_in t c ≡ false) × EndsIn order (c ∷ t))
  go [] same = inl same
  go (b ∷ bs) same =
      let (before, c, e) = last_split b bs in
      let same' : order ≡ before ++ c ∷ t = same ∙ ap (λ s. s ++ t) e ∙ append_assoc before (c ∷ []) t in
      let o : Order n order = order_facts n order h in
      inr (
        c,
        o.below c (subst (Member c) (sym same') (member-append_right before here)),
        out-from_none c t (distinct-head (distinct-rest before (c ∷ t) (subst Distinct same' o.apart))),
        (before, same'),
      )

pub frontier_bounds : (n winner margin : ℕ) (records : List (List ℕ)) (frontier : List (List ℕ)) → winner < n → 1 < n →
    ((order : List ℕ) → Contains (alternative_orders n winner) order → (s : List ℕ) × Contains frontier s × EndsIn order s) →
    list_all (λ s. nat_le margin (low n records s)) frontier ≡ true → margin ≤ best_margin n winner (low n records)
frontier_bounds n winner margin records frontier below two ends lows =
    let (order, m, e) = best_is n winner (low n records) below two in
    let (s, k, (before, same)) = ends order (contains-from_member m) in
    let o : Order n order = order_facts n order (from_alternative n winner order m).0 in
    let reached : margin ≤ low n records s =
    leb-true margin (low n records s) (from_list_all (λ s. nat_le margin (low n records s)) (member-from_contains s frontier k) lows) in
    subst (λ x. margin ≤ x) (ap (low n records) (sym same) ∙ e) (le_trans reached (low_of_suffix n records before s (subst Distinct same o.apart)))
