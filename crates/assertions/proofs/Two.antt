-- The certificate for two candidates.
use Rattle.std.proofs.Common.{Bool, List, None, Some, [], ap, arith, cond, eq-eqb, eqb-true, false, filter, find, inl, inr, le-leb, lt-ltb, ltb-true, map, max, nat_le, nat_lt, not, refl, subst, subst₂, suc, sym, true, zero, ℕ, ◌&&◌, ◌++◌, ◌-◌, ◌<◌, ◌==◌, ◌∙◌, ◌∷◌, ◌≡◌, ◌≢◌, ◌≤◌}
use Rattle.std.proofs.lemmas.Bool.{and_parts, cases_Bool}
use Rattle.std.specs.List.{list_all, list_any}
use Rattle.irv_base.specs.Candidates.{candidates, has, is_in, set_of}
use Rattle.irv_base.specs.Records.{tally}
use Rattle.irv_base.specs.Tabulation.{least}
use Rattle.irv_base.proofs.Members.{Member, here, member-from_in, member_at, member_cases, member_nil}
use Rattle.irv_base.proofs.Sets.{member-from_has}
use Rattle.assertions.specs.Assertions.{is_proper, is_true, true_margin, votes_against, votes_for}
use Rattle.assertions.specs.Certificate.{certificate_assertions, certificate_claims, certificate_ends, certificate_order, claim_of, is_end, is_some_same}
use Rattle.assertions.specs.Hardness.{best_margin, greatest, low, refuter}
use Rattle.assertions.specs.Refutation.{part_from, refutes}
use Rattle.assertions.specs.Scores.{added}
use Rattle.assertions.specs.Suffixes.{alternative_orders, alternative_suffixes, is_suffix}
use Rattle.assertions.specs.declared.assertion.Assertion.{Assertion}
use Rattle.assertions.specs.declared.assertion.Assertion.TheVariants.{Neb, Nen}
use Rattle.assertions.specs.declared.assertion.Claim.{Claim}
use Rattle.assertions.proofs.Certificates.{certificate-member, from_certificate}
use Rattle.assertions.proofs.Endings.{suffix_facts}
use Rattle.assertions.proofs.FixedOrders.{Before, before-not_both, sorted-assertions}
use Rattle.assertions.proofs.Lows.{from_refuter, low_of_none}
use Rattle.assertions.proofs.Nebs.{neb_against, neb_for}
use Rattle.assertions.proofs.Parts.{part_from-same}
use Rattle.assertions.proofs.Proper.{nen_facts, pair_facts, pair_test}
use Rattle.assertions.proofs.Refuters.{refuter-only}
use Rattle.assertions.proofs.Sorted.{Sorted, sorted-filter, sorted-same}
use Rattle.assertions.proofs.Steps.{low_of_more}

two_cases : (P : ℕ → ℕ → Type 0) → P 0 1 → P 1 0 → (w l : ℕ) → w < 2 → l < 2 → (w ≡ l → ⊥) → P w l
two_cases P p q zero zero a b ne = absurd (ne refl)
two_cases P p q zero (suc zero) a b ne = p
two_cases P p q zero (suc (suc l)) a b ne = absurd (omega arith)
two_cases P p q (suc zero) zero a b ne = q
two_cases P p q (suc zero) (suc zero) a b ne = absurd (ne refl)
two_cases P p q (suc zero) (suc (suc l)) a b ne = absurd (omega arith)
two_cases P p q (suc (suc w)) l a b ne = absurd (omega arith)

module _ (records : List (List ℕ)) (w l : ℕ) (below : list_all (λ ranking. list_all (λ c. nat_lt c 2) ranking) records ≡ true) (lw : w < 2) (ll : l < 2) where
  abbrev votes : ℕ → ℕ
  votes = tally records (set_of (candidates 2))

  module _ (more_votes : votes l < votes w) where
    differ : w ≡ l → ⊥
    differ e = let same : votes w ≡ votes l = ap votes e in omega arith

    -- ---- the lists of two candidates
    orders : alternative_orders 2 w ≡ (w ∷ l ∷ []) ∷ []
    orders = two_cases (λ w l. alternative_orders 2 w ≡ (w ∷ l ∷ []) ∷ []) refl refl w l lw ll differ

    suffixes : alternative_suffixes 2 w ≡ (l ∷ []) ∷ (w ∷ l ∷ []) ∷ []
    suffixes = two_cases (λ w l. alternative_suffixes 2 w ≡ (l ∷ []) ∷ (w ∷ l ∷ []) ∷ []) refl refl w l lw ll differ

    outside_one : filter (λ v. not (is_in (l ∷ []) v)) (candidates 2) ≡ w ∷ []
    outside_one = two_cases (λ w l. filter (λ v. not (is_in (l ∷ []) v)) (candidates 2) ≡ w ∷ []) refl refl w l lw ll differ

    outside_both : filter (λ v. not (is_in (w ∷ l ∷ []) v)) (candidates 2) ≡ []
    outside_both = two_cases (λ w l. filter (λ v. not (is_in (w ∷ l ∷ []) v)) (candidates 2) ≡ []) refl refl w l lw ll differ

    both : set_of (w ∷ l ∷ []) ≡ set_of (candidates 2)
    both = two_cases (λ w l. set_of (w ∷ l ∷ []) ≡ set_of (candidates 2)) refl refl w l lw ll differ

    proper_one : is_suffix 2 (l ∷ []) ≡ true
    proper_one = two_cases (λ w l. is_suffix 2 (l ∷ []) ≡ true) refl refl w l lw ll differ

    proper_both : is_suffix 2 (w ∷ l ∷ []) ≡ true
    proper_both = two_cases (λ w l. is_suffix 2 (w ∷ l ∷ []) ≡ true) refl refl w l lw ll differ

    -- ---- the margins
    abbrev lead : ℕ
    lead = votes w - votes l

    neb : true_margin records (Neb w l) ≡ lead
    neb =
        let for : votes_for records (Neb w l) ≡ votes w = neb_for 2 records w l below in
        let against : votes_against records (Neb w l) ≡ votes l = neb_against records w l differ ∙ ap (λ s. tally records s l) both in
        subst₂ (λ a b. votes_for records (Neb w l) - votes_against records (Neb w l) ≡ a - b) for against refl

    nen : true_margin records (Nen w l (set_of (w ∷ l ∷ []))) ≡ lead
    nen = ap (λ s. tally records s w - tally records s l) both

    low_one : low 2 records (l ∷ []) ≡ lead
    low_one =
        low_of_more 2 records l [] proper_one
        ∙ ap (λ x. max x (added 2 records l [])) (low_of_none 2 records)
        ∙ ap (λ vs. max 0 (greatest (map (true_margin records) (map (λ v. Neb v l) vs ++ [])))) outside_one
        ∙ ap (λ x. max 0 (max 0 x)) neb
        ∙ omega arith

    low_both : low 2 records (w ∷ l ∷ []) ≡ lead
    low_both =
        low_of_more 2 records w (l ∷ []) proper_both
        ∙ ap (λ x. max x (added 2 records w (l ∷ []))) low_one
        ∙ ap (λ vs. max lead (greatest (map (true_margin records) (map (λ v. Neb v w) vs ++ Nen w l (set_of (w ∷ l ∷ [])) ∷ [])))) outside_both
        ∙ ap (λ x. max lead (max 0 x)) nen
        ∙ omega arith

    best : best_margin 2 w (low 2 records) ≡ lead
    best = ap (λ os. least (map (low 2 records) os)) orders ∙ low_both

    order : certificate_order 2 w (low 2 records) lead ≡ Some (w ∷ l ∷ [])
    order = ap (find (λ order. low 2 records order == lead)) orders
        ∙ found (low 2 records (w ∷ l ∷ []) == lead) (eq-eqb (low 2 records (w ∷ l ∷ [])) lead low_both) where
          found : (b : Bool) → b ≡ true → cond b (Some (w ∷ l ∷ [])) None ≡ Some (w ∷ l ∷ [])
          found true e = refl
          found false e = cc

    -- ---- the only end, and what refutes it
    end : certificate_ends 2 w (low 2 records) lead ≡ (l ∷ []) ∷ []
    end =
        ap (filter (is_end (low 2 records) lead)) suffixes
        ∙ kept (l ∷ []) (w ∷ l ∷ []) (nat_le lead (low 2 records (l ∷ []))) (nat_le lead (low 2 records (w ∷ l ∷ [])) && nat_lt (low 2 records (l ∷ [])) lead)
        (le-leb lead (low 2 records (l ∷ [])) (subst (λ x. lead ≤ x) (sym low_one) (omega arith)))
        (and-second (nat_le lead (low 2 records (w ∷ l ∷ []))) (nat_lt (low 2 records (l ∷ [])) lead) (not_below (low 2 records (l ∷ [])) lead low_one))
      where
        kept : (x y : List ℕ) (b c : Bool) → b ≡ true → c ≡ false → cond b (x ∷ cond c (y ∷ []) []) (cond c (y ∷ []) []) ≡ x ∷ []
        kept x y true false e f = refl
        kept x y true true e f = cc
        kept x y false c e f = cc

        and-second : (a b : Bool) → b ≡ false → (a && b) ≡ false
        and-second true b h = h
        and-second false b h = refl

        not_below : (a b : ℕ) → a ≡ b → nat_lt a b ≡ false
        not_below a b e = elim (cases_Bool (nat_lt a b)) [ inl t ↦ let lt : a < b = ltb-true a b t in absurd (omega arith) | inr f ↦ f ]

    alone-member : (k : ℕ) → Member k (l ∷ []) → l ≡ k
    alone-member k m = elim (member_cases m) [ inl e ↦ e | inr n ↦ absurd (member_nil n) ]

    alone : (k : ℕ) → is_in (l ∷ []) k ≡ true → l ≡ k
    alone k h = alone-member k (member-from_in k (l ∷ []) h)

    remaining : (v : ℕ) → v < 2 → (v ≡ l → ⊥) → v ≡ w
    remaining v lt ne = let d : w ≢ l = differ in omega arith

    only_refuter : (b : Assertion) → is_proper 2 b ≡ true → refutes b (l ∷ []) ≡ true → b ≡ Neb w l
    only_refuter (Neb v k) proper r =
        let p = pair_facts 2 v k proper in
        let (in', out) = and_parts (is_in (l ∷ []) k) (not (is_in (part_from (l ∷ []) k) v)) r in
        let same : l ≡ k = alone k in' in
        let other : v ≡ w = remaining v p.winner (λ e. p.differ (e ∙ same)) in
        cc
    only_refuter (Nen v k rest) proper r =
        let p = nen_facts 2 v k rest proper in
        let (in', set) = and_parts (is_in (l ∷ []) v) (set_of (part_from (l ∷ []) v) == rest) r in
        let same : l ≡ v = alone v in' in
        let is : set_of (l ∷ []) ≡ rest = ap set_of (sym (part_from-same l v [] same)) ∙ eqb-true (set_of (part_from (l ∷ []) v)) rest set in
        let m : Member k (l ∷ []) = member-from_has (l ∷ []) k (suffix_facts 2 (l ∷ []) proper_one).apart (ap (λ s. has s k) is ∙ p.has_loser) in
        absurd (p.pair.differ (sym same ∙ alone-member k m))

    refuter_one : refuter 2 records (l ∷ []) ≡ Some (Neb w l)
    refuter_one =
        refuter-only 2 records (l ∷ []) (Neb w l) (record {
          proper = pair_test 2 w l (record { winner = lw; loser = ll; differ = differ });
          holds = holds;
          refuting = two_cases (λ w l. refutes (Neb w l) (l ∷ []) ≡ true) refl refl w l lw ll differ;
          reached = neb ∙ sym low_one;
          first = λ b proper r e. inl (only_refuter b proper r);
        })
      where
        holds : is_true records (Neb w l) ≡ true
        holds =
            let margin : votes_for records (Neb w l) - votes_against records (Neb w l) ≡ votes w - votes l = neb in
            lt-ltb (votes_against records (Neb w l)) (votes_for records (Neb w l)) (omega arith)

    one_end : (s : List ℕ) → Member s (certificate_ends 2 w (low 2 records) (best_margin 2 w (low 2 records))) → l ∷ [] ≡ s
    one_end s m =
        let m' : Member s ((l ∷ []) ∷ []) = subst (Member s) end (subst (λ b. Member s (certificate_ends 2 w (low 2 records) b)) best m) in
        elim (member_cases m') [ inl e ↦ e | inr n ↦ absurd (member_nil n) ]

    claims : certificate_assertions 2 records w ≡ Neb w l ∷ []
    claims =
        sorted-same Before before-not_both (certificate_assertions 2 records w) (Neb w l ∷ [])
        (sorted-filter Before (λ a. list_any (λ suffix. is_some_same (refuter 2 records suffix) a)
        (certificate_ends 2 w (low 2 records) (best_margin 2 w (low 2 records)))) (sorted-assertions 2))
        (Rattle.assertions.proofs.Sorted.more (λ y m. absurd (member_nil m)) Rattle.assertions.proofs.Sorted.none)
        forth back
      where
        forth : (a : Assertion) → Member a (certificate_assertions 2 records w) → Member a (Neb w l ∷ [])
        forth a m =
            let (s, k, e) = from_certificate 2 w records a m in
            let e' : refuter 2 records (l ∷ []) ≡ Some a = ap (refuter 2 records) (one_end s k) ∙ e in
            let g = from_refuter 2 records (l ∷ []) a e' in
            member_at (sym (only_refuter a g.proper g.refuting))

        back : (a : Assertion) → Member a (Neb w l ∷ []) → Member a (certificate_assertions 2 records w)
        back a m =
            let e : Neb w l ≡ a = elim (member_cases m) [ inl e ↦ e | inr n ↦ absurd (member_nil n) ] in
            let k : Member (l ∷ []) (certificate_ends 2 w (low 2 records) (best_margin 2 w (low 2 records))) =
            subst (λ b. Member (l ∷ []) (certificate_ends 2 w (low 2 records) b)) (sym best) (subst (Member (l ∷ [])) (sym end) here) in
            certificate-member 2 w records a (l ∷ []) k (refuter_one ∙ ap Some e)

    pub two_certificate :
        (best_margin 2 w (low 2 records) ≡ lead)
        × (certificate_order 2 w (low 2 records) lead ≡ Some (w ∷ l ∷ []))
        × (certificate_claims 2 records w ≡ (let c : Claim = record { assertion = Neb w l; margin = lead } in c) ∷ [])
    two_certificate = (
      best,
      order,
      ap (map (claim_of records)) claims ∙ ap (λ m. (let c : Claim = record { assertion = Neb w l; margin = m } in c) ∷ []) neb,
    )
