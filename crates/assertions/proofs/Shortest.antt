-- The ends of the certificate, and the suffixes that it refutes.
use Rattle.std.proofs.Common.{List, [], arith, inl, inr, le-leb, le_trans, length, ltb-true, nat_le, nat_lt, refl, subst, sym, true, ℕ, ◌++◌, ◌<◌, ◌↔◌, ◌∙◌, ◌∷◌, ◌≡◌, ◌≢◌, ◌≤◌, ◌⊎◌}
use Rattle.std.proofs.lemmas.Bool.{and_parts}
use Rattle.std.specs.List.{list_any}
use Rattle.irv_base.specs.Orders.{Elects, EndsIn}
use Rattle.irv_base.proofs.Distinct.{Distinct, distinct-tail}
use Rattle.irv_base.proofs.Members.{from_list_all, from_list_any, list_any-member}
use Rattle.irv_base.proofs.Orders.{Order, order_facts}
use Rattle.assertions.specs.Assertions.{is_proper}
use Rattle.assertions.specs.Certificate.{IsEnd, certificate_assertions, is_end}
use Rattle.assertions.specs.Hardness.{best_margin, low}
use Rattle.assertions.specs.Refutation.{refutes}
use Rattle.assertions.specs.Suffixes.{IsAlternative, is_suffix}
use Rattle.assertions.proofs.Alternatives.{best-le}
use Rattle.assertions.proofs.Certificates.{certificate-le, certificate-member, certificate_is_proper, refutes_order}
use Rattle.assertions.proofs.Endings.{Suffix, alternative-member, suffix_facts}
use Rattle.assertions.proofs.Ends.{end_of, is_end-low}
use Rattle.assertions.proofs.Enumerated.{ends_longer, suffix-rest, suffix_test}
use Rattle.assertions.proofs.Lows.{from_refuter, low-refuter, low_of_suffix, positive, refuter_is}
use Rattle.assertions.proofs.Ones.{member-from_end}

-- of two suffixes of the same list, one ends in the other
either-ends : (b b' s s' : List ℕ) → b ++ s ≡ b' ++ s' → EndsIn s s' ⊎ EndsIn s' s
either-ends [] b' s s' e = inl (b', e)
either-ends (x ∷ b) [] s s' e = inr (x ∷ b, sym e)
either-ends (x ∷ b) (y ∷ b') s s' e = either-ends b b' s s' (tails e) where
  tails : {u v : ℕ} {p q : List ℕ} → u ∷ p ≡ v ∷ q → p ≡ q
  tails e = cc

module _ (n winner margin : ℕ) (records : List (List ℕ)) where
  below-end : (s : List ℕ) → is_suffix n s ≡ true → is_end (low n records) margin s ≡ true → (x : ℕ) (bs shorter : List ℕ) → s ≡ (x ∷ bs) ++ shorter →
      (shorter ≡ [] → ⊥) → low n records shorter < margin
  below-end [] p h x bs shorter same some = cc
  below-end (c ∷ []) p h x [] shorter same some = absurd (some (cc))
  below-end (c ∷ []) p h x (y ∷ bs) shorter same some = cc
  below-end (c ∷ d ∷ parent) p h x bs shorter same some =
      let lt : low n records (d ∷ parent) < margin = ltb-true (low n records (d ∷ parent)) margin
      (and_parts (nat_le margin (low n records (c ∷ d ∷ parent))) (nat_lt (low n records (d ∷ parent)) margin) h).1 in
      let same' : d ∷ parent ≡ bs ++ shorter = cc in
      let apart : Distinct (bs ++ shorter) = subst Distinct same' (distinct-tail (suffix_facts n (c ∷ d ∷ parent) p).apart) in
      let le : low n records shorter ≤ low n records (bs ++ shorter) = low_of_suffix n records bs shorter apart in
      let le' : low n records shorter ≤ low n records (d ∷ parent) = subst (λ z. low n records shorter ≤ low n records z) (sym same') le in
      omega arith

  pub ends_are_shortest : (s shorter : List ℕ) → IsEnd n records winner margin s → EndsIn s shorter → shorter ≢ [] → shorter ≢ s →
      low n records shorter < margin
  ends_are_shortest s shorter e (before, same) some other = go before same where
    go : (before : List ℕ) → s ≡ before ++ shorter → low n records shorter < margin
    go [] same = absurd (other (sym same))
    go (x ∷ bs) same = below-end s e.proper e.shortest x bs shorter same some

  ends-same : (s s' : List ℕ) → IsEnd n records winner margin s → IsEnd n records winner margin s' → EndsIn s s' → s ≡ s'
  ends-same s s' e e' (before, same) = go before same where
    some : s' ≡ [] → ⊥
    some h = let never : is_end (low n records) margin [] ≡ true = subst (λ z. is_end (low n records) margin z ≡ true) h e'.shortest in cc

    go : (before : List ℕ) → s ≡ before ++ s' → s ≡ s'
    go [] same = same
    go (x ∷ bs) same =
        let lt = below-end s e.proper e.shortest x bs s' same some in
        let le = is_end-low (low n records) margin s' e'.shortest in
        absurd (omega arith)

  pub one_end : (order s s' : List ℕ) → IsEnd n records winner margin s → IsEnd n records winner margin s' → EndsIn order s → EndsIn order s' → s' ≡ s
  one_end order s s' e e' (b, h) (b', h') = elim (either-ends b b' s s' (sym h ∙ h')) [ inl x ↦ sym (ends-same s s' e e' x) | inr x ↦ ends-same s' s e' e x ]

  -- a suffix that reaches the margin has an end
  pub reaching-end : (c : ℕ) (s : List ℕ) → is_suffix n s ≡ true → c ≢ winner → Elects s c → margin ≤ low n records s →
      (t : List ℕ) × IsEnd n records winner margin t × EndsIn s t
  reaching-end c s p ne (before, same) le =
      let q : Suffix n s = suffix_facts n s p in
      let r = end_of n (low n records) margin (length before) c [] before s same refl q.apart q.below le (λ g. le-leb margin (low n records (c ∷ [])) g) in
      let (b, h) = ends_longer n (length before) (c ∷ []) r.suffix r.listed in
      let rest : Suffix n r.suffix = suffix-rest r.before r.suffix (subst (Suffix n) r.split q) in
      (r.suffix, record { proper = suffix_test rest; alternative = (c, ne, (b, h)); shortest = r.is }, (r.before, r.split))

pub ends_are_one : (n winner : ℕ) (records : List (List ℕ)) (order : List ℕ) → IsAlternative n winner order →
    let best = best_margin n winner (low n records) in
    (s : List ℕ) × IsEnd n records winner best s × EndsIn order s × ((t : List ℕ) → IsEnd n records winner best t → EndsIn order t → t ≡ s)
ends_are_one n winner records order (h, (c, ne, elects)) =
    let best = best_margin n winner (low n records) in
    let o : Order n order = order_facts n order h in
    let q : Suffix n order = record { apart = o.apart; below = o.below } in
    let (s, e, ends) = reaching-end n winner best records c order (suffix_test q) ne elects
    (best-le n winner (low n records) order (alternative-member n winner c order h ne elects)) in
    (s, e, ends, λ t e' ends'. one_end n winner best records order s t e e' ends ends')

pub certificate_refutes : (n winner c : ℕ) (records : List (List ℕ)) (s : List ℕ) → 0 < best_margin n winner (low n records) →
    is_suffix n s ≡ true → Elects s c → c ≢ winner →
    ((list_any (λ a. refutes a s) (certificate_assertions n records winner) ≡ true) ↔ (best_margin n winner (low n records) ≤ low n records s))
certificate_refutes n winner c records s positive p elects ne = (forth, back) where
  forth : list_any (λ a. refutes a s) (certificate_assertions n records winner) ≡ true → best_margin n winner (low n records) ≤ low n records s
  forth h =
      let (a, m, r) = from_list_any (λ a. refutes a s) (certificate_assertions n records winner) h in
      let proper : is_proper n a ≡ true = from_list_all (is_proper n) m (certificate_is_proper n winner records) in
      le_trans (certificate-le n winner records a m) (low-refuter n records s a proper r)

  back : best_margin n winner (low n records) ≤ low n records s → list_any (λ a. refutes a s) (certificate_assertions n records winner) ≡ true
  back le =
      let (t, e, (before, same)) = reaching-end n winner (best_margin n winner (low n records)) records c s p ne elects le in
      let reached : best_margin n winner (low n records) ≤ low n records t = is_end-low (low n records) (best_margin n winner (low n records)) t e.shortest in
      let (a, found) = refuter_is n records t (omega (arith, positive)) in
      list_any-member (λ a. refutes a s) {x = a} (certificate-member n winner records a t (member-from_end n winner records t e) found)
      (refutes_order a s before t same (suffix_facts n s p).apart (from_refuter n records t a found).refuting)
