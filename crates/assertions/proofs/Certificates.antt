-- The certificate is true, covers and reaches the best margin, and no covering set does better.
use Rattle.std.proofs.Common.{Contains, List, None, Option, Some, ap, arith, eq-eqb, eqb-true, le-leb, le_antisymm, nat_le, refl, subst, sym, true, ℕ, ◌&&◌, ◌++◌, ◌<◌, ◌==◌, ◌∙◌, ◌≡◌, ◌≤◌}
use Rattle.std.proofs.lemmas.Bool.{and_from, and_parts}
use Rattle.std.specs.List.{list_all, list_any}
use Rattle.irv_base.proofs.Distinct.{Distinct}
use Rattle.irv_base.proofs.Members.{Member, contains-from_member, from_filter, from_list_all, from_list_any, list_all-each, list_any-member, member-filter, member-from_contains}
use Rattle.irv_base.proofs.Orders.{Order, order_facts}
use Rattle.assertions.specs.Assertions.{assertions, is_proper, is_true, true_margin}
use Rattle.assertions.specs.Certificate.{certificate_assertions, certificate_ends, is_same, is_some_same}
use Rattle.assertions.specs.Hardness.{best_margin, low, refuter}
use Rattle.assertions.specs.Refutation.{covers, refutes}
use Rattle.assertions.specs.Suffixes.{alternative_orders}
use Rattle.assertions.specs.declared.assertion.Assertion.{Assertion}
use Rattle.assertions.specs.declared.assertion.Assertion.TheVariants.{Neb, Nen}
use Rattle.assertions.proofs.Alternatives.{best-le, best_is}
use Rattle.assertions.proofs.Elections.{from_covers}
use Rattle.assertions.proofs.Endings.{from_alternative}
use Rattle.assertions.proofs.Ends.{alternative-end, from_end, is_end-low}
use Rattle.assertions.proofs.Listed.{assertion-member}
use Rattle.assertions.proofs.Lows.{Gives, from_refuter, low-refuter, positive, refuter_is}
use Rattle.assertions.proofs.Parts.{refutes_all}

-- ---- assertions as values
is_same-self : (a : Assertion) → is_same a a ≡ true
is_same-self (Neb w l) = and_from (w == w) (l == l) (eq-eqb w w refl) (eq-eqb l l refl)
is_same-self (Nen w l s) = and_from ((w == w) && (l == l)) (s == s) (and_from (w == w) (l == l) (eq-eqb w w refl) (eq-eqb l l refl)) (eq-eqb s s refl)

same-from_test : (a b : Assertion) → is_same a b ≡ true → a ≡ b
same-from_test (Neb w l) (Neb v k) h =
    let (p, q) = and_parts (w == v) (l == k) h in
    let p' : w ≡ v = eqb-true w v p in
    let q' : l ≡ k = eqb-true l k q in
    cc
same-from_test (Nen w l s) (Nen v k u) h =
    let (pq, r) = and_parts ((w == v) && (l == k)) (s == u) h in
    let (p, q) = and_parts (w == v) (l == k) pq in
    let p' : w ≡ v = eqb-true w v p in
    let q' : l ≡ k = eqb-true l k q in
    let r' : s ≡ u = eqb-true s u r in
    cc
same-from_test (Neb w l) (Nen v k u) h = cc
same-from_test (Nen w l s) (Neb v k) h = cc

from_some_same : (o : Option Assertion) (a : Assertion) → is_some_same o a ≡ true → o ≡ Some a
from_some_same None a h = cc
from_some_same (Some b) a h = ap Some (same-from_test b a h)

pub refutes_order : (a : Assertion) (order before s : List ℕ) → order ≡ before ++ s → Distinct order → refutes a s ≡ true → refutes a order ≡ true
refutes_order a order before s same d r = subst (λ x. refutes a x ≡ true) (sym same) (refutes_all a before s (subst Distinct same d) r)

-- ---- the certificate
module _ (n winner : ℕ) (records : List (List ℕ)) where
  abbrev best : ℕ
  best = best_margin n winner (low n records)

  abbrev ends : List (List ℕ)
  ends = certificate_ends n winner (low n records) best

  pub from_certificate : (a : Assertion) → Member a (certificate_assertions n records winner) → (s : List ℕ) × Member s ends × (refuter n records s ≡ Some a)
  from_certificate a m =
      let (k, any) = from_filter (λ a. list_any (λ suffix. is_some_same (refuter n records suffix) a) ends) (assertions n) m in
      let (s, q, it) = from_list_any (λ suffix. is_some_same (refuter n records suffix) a) ends any in
      (s, q, from_some_same (refuter n records s) a it)

  pub certificate-member : (a : Assertion) (s : List ℕ) → Member s ends → refuter n records s ≡ Some a → Member a (certificate_assertions n records winner)
  certificate-member a s m e =
      member-filter (λ a. list_any (λ suffix. is_some_same (refuter n records suffix) a) ends) (assertions n)
      (assertion-member n a (from_refuter n records s a e).proper)
      (list_any-member (λ suffix. is_some_same (refuter n records suffix) a) m (ap (λ o. is_some_same o a) e ∙ is_same-self a))

  gives : (a : Assertion) → Member a (certificate_assertions n records winner) → (s : List ℕ) × Member s ends × Gives n records s a
  gives a m = let (s, q, e) = from_certificate a m in (s, q, from_refuter n records s a e)

  pub certificate_is_proper : list_all (is_proper n) (certificate_assertions n records winner) ≡ true
  certificate_is_proper = list_all-each (is_proper n) (certificate_assertions n records winner) (λ a m. let (s, q, g) = gives a m in g.proper)

  pub certificate_is_true : list_all (is_true records) (certificate_assertions n records winner) ≡ true
  certificate_is_true = list_all-each (is_true records) (certificate_assertions n records winner) (λ a m. let (s, q, g) = gives a m in g.true_of)

  pub certificate-le : (a : Assertion) → Member a (certificate_assertions n records winner) → best ≤ true_margin records a
  certificate-le a m =
      let (s, q, g) = gives a m in
      subst (λ x. best ≤ x) (sym g.reached) (is_end-low (low n records) best s (from_end n winner (low n records) best s q))

  pub certificate_reaches_best : list_all (λ a. nat_le best (true_margin records a)) (certificate_assertions n records winner) ≡ true
  certificate_reaches_best = list_all-each (λ a. nat_le best (true_margin records a)) (certificate_assertions n records winner)
      (λ a m. le-leb best (true_margin records a) (certificate-le a m))

  refuted : 0 < best → (order : List ℕ) → Member order (alternative_orders n winner) →
      list_any (λ a. refutes a order) (certificate_assertions n records winner) ≡ true
  refuted positive order m =
      let (h, (c, ne, elects)) = from_alternative n winner order m in
      let o : Order n order = order_facts n order h in
      let (s, k, (before, same)) = alternative-end n winner c (low n records) best order o ne elects (best-le n winner (low n records) order m) in
      let reached : best ≤ low n records s = is_end-low (low n records) best s (from_end n winner (low n records) best s k) in
      let (a, e) = refuter_is n records s (omega arith) in
      list_any-member (λ a. refutes a order) {x = a} (certificate-member a s k e)
      (refutes_order a order before s same o.apart (from_refuter n records s a e).refuting)

  pub certificate_covers : 0 < best → covers n winner (certificate_assertions n records winner) ≡ true
  certificate_covers positive =
      list_all-each (λ order. list_any (λ a. refutes a order) (certificate_assertions n records winner)) (alternative_orders n winner) (refuted positive)

  pub none_beats_best : (claims : List Assertion) → winner < n → 1 < n → list_all (is_proper n) claims ≡ true → covers n winner claims ≡ true →
      (a : Assertion) × Contains claims a × (true_margin records a ≤ best)
  none_beats_best claims below two proper covering =
      let (order, m, e) = best_is n winner (low n records) below two in
      let (a, k, r) = from_covers n winner claims order covering m in
      let le : true_margin records a ≤ low n records order = low-refuter n records order a (from_list_all (is_proper n) k proper) r in
      (a, contains-from_member k, subst (λ x. true_margin records a ≤ x) e le)

  pub certificate_has_best : winner < n → 1 < n → 0 < best → (a : Assertion) × Contains (certificate_assertions n records winner) a ×
      (true_margin records a ≡ best)
  certificate_has_best below two positive =
      let (a, k, le) = none_beats_best (certificate_assertions n records winner) below two certificate_is_proper (certificate_covers positive) in
      let ge = certificate-le a (member-from_contains a (certificate_assertions n records winner) k) in
      (a, k, le_antisymm le ge)
