-- What is enough, and what the search and the check have in common.
use Rattle.std.proofs.Common.{◌≡◌, ◌≢◌, ℕ, ◌^◌, ◌<◌, ◌≤◌, Bool, true, not, ◌==◌, inl, inr, ◌↔◌, List, [], ◌∷◌, length, if◌then◌else◌, Option, Some, None, Ok, Err, Contains, refl, sym, ap, subst, arith, le-ltb, le-leb, leb-true, lt-ltb, ltb-true, ne_eqb, le_trans, ◌∙◌}
use Rattle.std.proofs.lemmas.Bool.{cases_lt, and_parts, and_from, not_from_false}
use Rattle.assertions.specs.Certificate.{certificate_assertions}
use Rattle.assertions.specs.Hardness.{low, best_margin}
use Rattle.assertions.specs.Suffixes.{alternative_orders}
use Rattle.assertions.proofs.Alternatives.{best-le, best_is}
use Rattle.assertions.proofs.Certificates.{certificate_covers}
use Rattle.irv_base.proofs.Members.{Member, find-member, from_find, contains-from_member, member-filter, candidate-member}
use Rattle.irv_base.proofs.Suffixes.{suffix-head, suffix-rest, suffix-short, suffix-has}
use Rattle.assertions.specs.Steps.{outside, step}
use Rattle.set_walk.specs.Walks.{walks, passes, counted, standing, is_standing, first_by_sets}
use Rattle.set_walk.specs.Bests.{best_by_sets, order_by_sets}
use Rattle.set_walk.specs.Answers.{first_within}
use Rattle.set_walk.specs.declared.walk.WalkFault.TheVariants.{Spent}
use Rattle.set_walk.proofs.Bests.{best_by_sets_is}
use Rattle.set_walk.proofs.Counted.{counted_stand}
use Rattle.set_walk.proofs.Firsts.{first_is}
use Rattle.set_walk.proofs.Orders.{alternative-suffix, covers_by_sets}
use Rattle.set_walk.proofs.Standing.{Other, certificate_stands, from_standing, standing-member, from_test, test-stands}
use Rattle.set_walk.proofs.Claims.{alone-elected, rest-elects}
use Rattle.assertions.proofs.Agreeing.{same_tests, filter-same}
use Rattle.irv_base.specs.Candidates.{candidates, all_but, has, set_of}
use Rattle.irv_base.specs.Suffixes.{is_suffix}
use Rattle.irv_base.proofs.Distinct.{distinct-le, distinct-range}
use Rattle.irv_base.proofs.Sames.{distinct-filter}
use Rattle.std.specs.List.{range_with_len}
use Rattle.set_walk.proofs.Walking.{below, within, within-walks}

pub enough : (n winner sets : ℕ) (goes : ℕ → ℕ → Bool) → length (counted n winner goes) ≤ sets → first_within n winner sets goes ≡ Ok (first_by_sets n winner goes)
enough n winner sets goes le = ap (λ b. if b then Err Spent else Ok (first_by_sets n winner goes)) (le-ltb sets (length (counted n winner goes)) le)

pub certificate_covered : (n winner sets : ℕ) (records : List (List ℕ)) → 0 < best_margin n winner (low n records) →
    length (standing n winner (below n records (best_margin n winner (low n records)))) ≤ sets →
    first_within n winner sets (passes (certificate_assertions n records winner)) ≡ Ok None
certificate_covered n winner sets records positive le =
    let list = certificate_assertions n records winner in
    let none : first_by_sets n winner (passes (certificate_assertions n records winner)) ≡ None =
    (covers_by_sets n winner list).0 (certificate_covers n winner records positive) in
    let same = (counted_stand n winner (passes list)).1 none ∙ certificate_stands n winner records positive in
    enough n winner sets (passes list) (subst (λ xs. length xs ≤ sets) (sym same) le) ∙ ap Ok none

pub least_is_best : (n winner margin : ℕ) (records : List (List ℕ)) → winner < n → 1 < n →
    ((order_by_sets n winner (step n records) margin ≡ None) ↔ (margin < best_by_sets n winner (step n records)))
least_is_best n winner margin records low' two = (forth, back) where
  is : best_margin n winner (low n records) ≡ best_by_sets n winner (step n records)
  is = best_by_sets_is n records winner low' two

  forth : order_by_sets n winner (step n records) margin ≡ None → margin < best_by_sets n winner (step n records)
  forth h =
      let (order, m, e) = best_is n winner (low n records) low' two in
      elim (cases_lt margin (best_by_sets n winner (step n records))) [
        | inl lt ↦ lt
        | inr ge ↦
            let t : walks (within n records margin) order ≡ true =
            sym (within-walks n records margin order (alternative-suffix n winner order m)) ∙ le-leb (low n records order) margin (omega (arith, ge, e, is)) in
            let (found, f) = find-member (walks (within n records margin)) order (alternative_orders n winner) m t in
            let never : None ≡ Some found = sym h ∙ sym (first_is n (within n records margin) winner) ∙ f in
            cc
      ]

  back : margin < best_by_sets n winner (step n records) → order_by_sets n winner (step n records) margin ≡ None
  back lt = go (order_by_sets n winner (step n records) margin) refl where
    go : (o : Option (List ℕ)) → order_by_sets n winner (step n records) margin ≡ o → order_by_sets n winner (step n records) margin ≡ None
    go None e = e
    go (Some order) e =
        let (m, t) = from_find (walks (within n records margin)) order (alternative_orders n winner) (first_is n (within n records margin) winner ∙ e) in
        let le = leb-true (low n records order) margin (within-walks n records margin order (alternative-suffix n winner order m) ∙ t) in
        let ge = best-le n winner (low n records) order m in
        absurd (omega (arith, le, ge, lt, is))

-- ---- a search that rises to the best margin
-- what walks by fewer steps
walks-more : (p q : ℕ → ℕ → Bool) (t : List ℕ) → ((set c : ℕ) → p set c ≡ true → q set c ≡ true) → walks p t ≡ true → walks q t ≡ true
walks-more p q [] f h = refl
walks-more p q (c ∷ t) f h =
    let (g, w) = and_parts (p (set_of t) c) (walks p t) h in
    and_from (q (set_of t) c) (walks q t) (f (set_of t) c g) (walks-more p q t f w)

module _ (n winner margin : ℕ) (records : List (List ℕ)) where
  abbrev best : ℕ
  best = best_margin n winner (low n records)

  pub search_counts : margin < best_margin n winner (low n records) →
      length (counted n winner (within n records margin)) ≤ length (standing n winner (below n records (best_margin n winner (low n records))))
  search_counts lt =
      le_trans (counted_stand n winner (within n records margin)).0
      (distinct-le (standing n winner (within n records margin)) (standing n winner (below n records best))
      (distinct-filter (is_standing n winner (within n records margin)) (range_with_len 0 (2 ^ n)) (distinct-range 0 (2 ^ n))) (λ set m.
      let (t, s) = from_standing n winner (within n records margin) set m in
      standing-member n winner (below n records best) set t (record {
        is = s.is;
        short = s.short;
        going = walks-more (within n records margin) (below n records best) t
            (λ u c h. let le = leb-true (step n records u c) margin h in lt-ltb (step n records u c) best (omega (arith, le, lt))) s.going;
        same = s.same;
      })))

  -- what is below the best is within the margin, if no step from there lies between
  rise : ((c : ℕ) → Contains (all_but n winner) c → margin < step n records 0 c → best ≤ step n records 0 c) →
      ((set c : ℕ) → Contains (standing n winner (within n records margin)) set → Contains (outside n set) c → margin < step n records set c →
      best ≤ step n records set c) →
      (t : List ℕ) → Other n winner t → walks (below n records best) t ≡ true → walks (within n records margin) t ≡ true
  rise first next [] o w = refl
  rise first next (c ∷ []) o w =
      let (g, _) = and_parts (below n records best 0 c) true w in
      let l = ltb-true (step n records 0 c) best g in
      let ne : c ≢ winner = subst (λ x. x ≢ winner) (sym (alone-elected c o.elected o.elects)) o.other in
      let m : Member c (all_but n winner) = member-filter (λ c. not (c == winner)) (candidates n)
      (candidate-member c n (suffix-head n c [] o.proper).0) (not_from_false (c == winner) (ne_eqb c winner ne)) in
      and_from (within n records margin 0 c) true
      (elim (cases_lt margin (step n records 0 c)) [
        | inl above ↦ let ge = first c (contains-from_member m) above in absurd (omega (arith, l, ge))
        | inr le ↦ le-leb (step n records 0 c) margin le
      ]) refl
  rise first next (c ∷ d ∷ t) o w =
      let (g, w') = and_parts (below n records best (set_of (d ∷ t)) c) (walks (below n records best) (d ∷ t)) w in
      let l = ltb-true (step n records (set_of (d ∷ t)) c) best g in
      let rest : is_suffix n (d ∷ t) ≡ true = suffix-rest n c (d ∷ t) o.proper in
      let o' : Other n winner (d ∷ t) = record {
        proper = rest;
        elected = o.elected;
        other = o.other;
        elects = rest-elects c d o.elected t o.elects;
      } in
      let ih = rise first next (d ∷ t) o' w' in
      let long = suffix-short n (c ∷ d ∷ t) o.proper in
      let (lc, out) = suffix-head n c (d ∷ t) o.proper in
      let m : Member (set_of (d ∷ t)) (standing n winner (within n records margin)) =
      standing-member n winner (within n records margin) (set_of (d ∷ t)) (d ∷ t)
      (record { is = o'; short = omega (arith, long); going = ih; same = refl }) in
      let k : Member c (outside n (set_of (d ∷ t))) = member-filter (λ c. not (has (set_of (d ∷ t)) c)) (candidates n) (candidate-member c n lc)
      (not_from_false (has (set_of (d ∷ t)) c) (suffix-has n (d ∷ t) c rest ∙ out)) in
      and_from (within n records margin (set_of (d ∷ t)) c) (walks (within n records margin) (d ∷ t))
      (elim (cases_lt margin (step n records (set_of (d ∷ t)) c)) [
        | inl above ↦
            let ge = next (set_of (d ∷ t)) c (contains-from_member m) (contains-from_member k) above in
            absurd (omega (arith, l, ge))
        | inr le ↦ le-leb (step n records (set_of (d ∷ t)) c) margin le
      ]) ih

  pub search_counts_all : winner < n → 1 < n → margin < best_margin n winner (low n records) →
      ((c : ℕ) → Contains (all_but n winner) c → margin < step n records 0 c → best_margin n winner (low n records) ≤ step n records 0 c) →
      ((set c : ℕ) → Contains (standing n winner (within n records margin)) set → Contains (outside n set) c → margin < step n records set c →
      best_margin n winner (low n records) ≤ step n records set c) →
      counted n winner (within n records margin) ≡ standing n winner (below n records (best_margin n winner (low n records)))
  search_counts_all low' two lt first next =
      let none = (least_is_best n winner margin records low' two).1 (subst (λ k. margin < k) (best_by_sets_is n records winner low' two) lt) in
      (counted_stand n winner (within n records margin)).1 none
      ∙ filter-same (is_standing n winner (within n records margin)) (is_standing n winner (below n records best)) (range_with_len 0 (2 ^ n)) (λ set m.
      same_tests (is_standing n winner (within n records margin) set) (is_standing n winner (below n records best) set)
      (λ h. let (t, s) = from_test n winner (within n records margin) set h in
      test-stands n winner (below n records best) set t (record {
        is = s.is;
        short = s.short;
        going = walks-more (within n records margin) (below n records best) t
            (λ u c k. let le = leb-true (step n records u c) margin k in lt-ltb (step n records u c) best (omega (arith, le, lt))) s.going;
        same = s.same;
      }))
      (λ h. let (t, s) = from_test n winner (below n records best) set h in
      test-stands n winner (within n records margin) set t
      (record { is = s.is; short = s.short; going = rise first next t s.is s.going; same = s.same })))
