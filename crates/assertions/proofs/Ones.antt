-- The certificate is unique.
use Rattle.std.proofs.Common.{Contains, List, Some, [], arith, inl, inr, le_antisymm, length, length-append, not, reverse, subst, sym, true, ℕ, ◌++◌, ◌-◌, ◌<◌, ◌==◌, ◌∷◌, ◌≡◌, ◌≢◌, ◌≤◌, ◌⊎◌}
use Rattle.std.proofs.lemmas.Bool.{eqb-false, not-true}
use Rattle.std.specs.List.{list_any}
use Rattle.irv_base.specs.Candidates.{all_but, candidates}
use Rattle.irv_base.specs.Orders.{Elects}
use Rattle.irv_base.proofs.Members.{Member, contains-from_member, from_candidates, from_filter, from_flat_map, here, member-append_right, member-from_contains}
use Rattle.assertions.specs.Certificate.{IsCertificate, IsEnd, certificate_assertions, certificate_ends, certificate_order, is_end, is_some_same}
use Rattle.assertions.specs.Hardness.{IsRefuter, best_margin, low, refuter}
use Rattle.assertions.specs.Suffixes.{IsAlternative, alternative_orders, alternative_suffixes, comes_before, suffixes_ending}
use Rattle.assertions.specs.declared.assertion.Assertion.{Assertion}
use Rattle.assertions.proofs.Alternatives.{best-le, order_is}
use Rattle.assertions.proofs.Backwards.{stands_before-not_both}
use Rattle.assertions.proofs.Certificates.{certificate-member, from_certificate}
use Rattle.assertions.proofs.Endings.{Suffix, alternative-member, from_alternative, one_alone, suffix_facts}
use Rattle.assertions.proofs.Ends.{end-member}
use Rattle.assertions.proofs.Enumerated.{from_suffixes_ending, suffix-few, suffix_test, suffixes_ending-member}
use Rattle.assertions.proofs.Firsts.{order_is_first}
use Rattle.assertions.proofs.FixedOrders.{Before, before-not_both, sorted-assertions}
use Rattle.assertions.proofs.Refuters.{refuter-first, refuter-only}
use Rattle.assertions.proofs.Sorted.{sorted-filter, sorted-from_pairs, sorted-get, sorted-same}

module _ (n winner : ℕ) (records : List (List ℕ)) where
  abbrev best : ℕ
  best = best_margin n winner (low n records)

  -- ---- an end, according to the rules
  pub end-from_member : (s : List ℕ) → Member s (certificate_ends n winner (low n records) best) → IsEnd n records winner best s
  end-from_member s m =
      let (k, is) = from_filter (is_end (low n records) best) (alternative_suffixes n winner) m in
      let (c, q, r) = from_flat_map (λ c. suffixes_ending n (n - 1) (c ∷ [])) s (all_but n winner) k in
      let (q', ne) = from_filter (λ c. not (c == winner)) (candidates n) q in
      let l = from_suffixes_ending n (n - 1) (c ∷ []) s (one_alone n c (from_candidates q')) r in
      record { proper = suffix_test l.suffix; alternative = (c, eqb-false c winner (not-true (c == winner) ne), (l.before, l.split)); shortest = is }

  pub member-from_end : (s : List ℕ) → IsEnd n records winner best s → Member s (certificate_ends n winner (low n records) best)
  member-from_end s e = go e.alternative where
    go : (c : ℕ) × (c ≢ winner) × Elects s c → Member s (certificate_ends n winner (low n records) best)
    go (c, ne, (before, same)) =
        let p : Suffix n (before ++ c ∷ []) = subst (Suffix n) same (suffix_facts n s e.proper) in
        let short : length before ≤ n - 1 = omega (arith, suffix-few p, length-append before (c ∷ [])) in
        let m : Member s (suffixes_ending n (n - 1) (c ∷ [])) =
        subst (λ x. Member x (suffixes_ending n (n - 1) (c ∷ []))) (sym same) (suffixes_ending-member n (n - 1) before (c ∷ []) p short) in
        end-member n winner c (low n records) best s ne (p.below c (member-append_right before here)) m e.shortest

  -- ---- the certificate, as it is defined, meets the rules
  pub certificate_is : winner < n → 1 < n →
      (order : List ℕ) × (certificate_order n winner (low n records) best ≡ Some order) × IsCertificate n records winner best order
      (certificate_assertions n records winner)
  certificate_is below two =
      let (order, found, h, e) = order_is n winner (low n records) below two in (
        order,
        found,
        record {
          least = λ other alternative. best-le n winner (low n records) other (listed_order other alternative);
          alternative = from_alternative n winner order (member-from_contains order (alternative_orders n winner) h);
          reached = e;
          first = λ other alternative same. turned (order_is_first n winner best (low n records) order other found
              (contains-from_member (listed_order other alternative)) same);
          listed = λ a. (forth a, back a);
          rising = sorted-get Before (certificate_assertions n records winner)
              (sorted-filter Before (λ a. list_any (λ suffix. is_some_same (refuter n records suffix) a) (certificate_ends n winner (low n records) best))
              (sorted-assertions n));
        },
      )
    where
      listed_order : (other : List ℕ) → IsAlternative n winner other → Member other (alternative_orders n winner)
      listed_order other (h, (c, ne, elects)) = alternative-member n winner c other h ne elects

      turned : {order other : List ℕ} → (order ≡ other) ⊎ (comes_before order other ≡ true) → (other ≡ order) ⊎ (comes_before order other ≡ true)
      turned (inl e) = inl (sym e)
      turned (inr h) = inr h

      forth : (a : Assertion) → Contains (certificate_assertions n records winner) a → (s : List ℕ) × IsEnd n records winner best s × IsRefuter n records s a
      forth a h =
          let (s, m, e) = from_certificate n winner records a (member-from_contains a (certificate_assertions n records winner) h) in
          (s, end-from_member s m, refuter-first n records s a e)

      back : (a : Assertion) → (s : List ℕ) × IsEnd n records winner best s × IsRefuter n records s a → Contains (certificate_assertions n records winner) a
      back a (s, e, r) = contains-from_member (certificate-member n winner records a s (member-from_end s e) (refuter-only n records s a r))

-- ---- nothing else meets the rules
module _ (n winner : ℕ) (records : List (List ℕ)) where
  best-one : (b b' : ℕ) (o o' : List ℕ) (cs cs' : List Assertion) → IsCertificate n records winner b o cs → IsCertificate n records winner b' o' cs' → b ≤ b'
  best-one b b' o o' cs cs' x y = subst (λ z. b ≤ z) y.reached (x.least o' y.alternative)

  orders-one : (b : ℕ) (o o' : List ℕ) (cs cs' : List Assertion) → IsCertificate n records winner b o cs → IsCertificate n records winner b o' cs' → o ≡ o'
  orders-one b o o' cs cs' x y = go (x.first o' y.alternative y.reached) (y.first o x.alternative x.reached) where
    go : (o' ≡ o) ⊎ (comes_before o o' ≡ true) → (o ≡ o') ⊎ (comes_before o' o ≡ true) → o ≡ o'
    go (inl e) h = sym e
    go (inr p) (inl e) = e
    go (inr p) (inr q) = absurd (stands_before-not_both (reverse o) (reverse o') p q)

  claims-one : (b : ℕ) (o o' : List ℕ) (cs cs' : List Assertion) → IsCertificate n records winner b o cs → IsCertificate n records winner b o' cs' → cs ≡ cs'
  claims-one b o o' cs cs' x y =
      sorted-same Before before-not_both cs cs' (sorted-from_pairs Before cs x.rising) (sorted-from_pairs Before cs' y.rising)
      (λ a m. member-from_contains a cs' ((y.listed a).1 ((x.listed a).0 (contains-from_member m))))
      (λ a m. member-from_contains a cs ((x.listed a).1 ((y.listed a).0 (contains-from_member m))))

  pub certificate_is_one : (b b' : ℕ) (o o' : List ℕ) (cs cs' : List Assertion) → IsCertificate n records winner b o cs →
      IsCertificate n records winner b' o' cs' →
      (b ≡ b') × (o ≡ o') × (cs ≡ cs')
  certificate_is_one b b' o o' cs cs' x y =
      let same : b ≡ b' = le_antisymm (best-one b b' o o' cs cs' x y) (best-one b' b o' o cs' cs y x) in
      let y' : IsCertificate n records winner b o' cs' = subst (λ z. IsCertificate n records winner z o' cs') (sym same) y in
      (same, orders-one b o o' cs cs' x y', claims-one b o o' cs cs' x y')
