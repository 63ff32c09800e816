-- Covering sets, and the orders that no true assertion refutes.
use Rattle.std.proofs.Common.{List, [], ap, append_assoc, arith, eq-eqb, inl, inr, le-leb, length, ltb-true, nat_le, refl, subst, sym, true, ℕ, ◌++◌, ◌-◌, ◌<◌, ◌==◌, ◌↔◌, ◌∙◌, ◌∷◌, ◌≡◌, ◌≤◌}
use Rattle.std.proofs.lemmas.Bool.{and_from, cases_eq, cases_lt}
use Rattle.std.specs.List.{list_all, list_any}
use Rattle.irv_base.specs.Candidates.{is_in, set_of}
use Rattle.irv_base.specs.Orders.{Elects, is_order}
use Rattle.irv_base.specs.Records.{tally}
use Rattle.irv_base.specs.Tabulation.{is_possible, may_lose}
use Rattle.irv_base.proofs.Distinct.{Distinct, distinct-head, distinct-rest}
use Rattle.irv_base.proofs.Members.{Member, from_list_all, from_list_any, here, in-from_member, list_all-each, member-append_right, there}
use Rattle.irv_base.proofs.Orders.{Order, order_facts}
use Rattle.assertions.specs.Assertions.{is_proper, is_true, votes_against, votes_for}
use Rattle.assertions.specs.Hardness.{low}
use Rattle.assertions.specs.Refutation.{covers, part_from, refutes}
use Rattle.assertions.specs.Suffixes.{alternative_orders}
use Rattle.assertions.specs.declared.assertion.Assertion.{Assertion}
use Rattle.assertions.specs.declared.assertion.Assertion.TheVariants.{Nen}
use Rattle.assertions.proofs.Endings.{Suffix, alternative-member}
use Rattle.assertions.proofs.Listed.{suffix-nen}
use Rattle.assertions.proofs.Lows.{low-refuter, low_is}
use Rattle.assertions.proofs.Parts.{part_from-append}
use Rattle.assertions.proofs.Tallies.{possible-not_refuted}

-- ---- covering sets
pub from_covers : (n winner : ℕ) (claims : List Assertion) (order : List ℕ) → covers n winner claims ≡ true → Member order (alternative_orders n winner) →
    (a : Assertion) × Member a claims × (refutes a order ≡ true)
from_covers n winner claims order h m = from_list_any (λ a. refutes a order) claims (from_list_all (λ order. list_any (λ a. refutes a order) claims) m h)

-- an order that isn't empty has a last candidate
last_of : (order : List ℕ) → 0 < length order → (c : ℕ) × Elects order c
last_of [] h = absurd (omega arith)
last_of (x ∷ xs) h = go x xs where
  go : (x : ℕ) (xs : List ℕ) → (c : ℕ) × Elects (x ∷ xs) c
  go x [] = (x, ([], refl))
  go x (y ∷ xs) = let (c, (before, e)) = go y xs in (c, (x ∷ before, ap (λ s. x ∷ s) e))

pub cover_is_sound : (n winner : ℕ) (claims : List Assertion) → winner < n → list_all (is_proper n) claims ≡ true → covers n winner claims ≡ true →
    (records : List (List ℕ)) → list_all (is_true records) claims ≡ true →
    (order : List ℕ) → is_order n order ≡ true → is_possible records order ≡ true → Elects order winner
cover_is_sound n winner claims below proper covering records true' order h possible =
    let o : Order n order = order_facts n order h in
    let (c, ends) = last_of order (omega (arith, o.long)) in
    elim (cases_eq c winner) [
      | inl e ↦ subst (Elects order) e ends
      | inr ne ↦
          let (a, m, r) = from_covers n winner claims order covering (alternative-member n winner c order h ne ends) in
          let le : votes_for records a ≤ votes_against records a =
          possible-not_refuted n records order a (from_list_all (is_proper n) m proper) o.apart o.whole possible r in
          let lt : votes_against records a < votes_for records a =
          ltb-true (votes_against records a) (votes_for records a) (from_list_all (is_true records) m true') in
          absurd (omega arith)
    ]

-- ---- possible orders are those that no true assertion refutes
unrefuted-possible : (n : ℕ) (records : List (List ℕ)) (order : List ℕ) → Order n order → low n records order ≡ 0 →
    (before t : List ℕ) → order ≡ before ++ t → is_possible records t ≡ true
unrefuted-possible n records order o easy before [] same = refl
unrefuted-possible n records order o easy before (c ∷ rest) same =
    and_from (may_lose records c rest) (is_possible records rest)
    (list_all-each (λ d. nat_le (votes c) (votes d)) rest (λ d m. le-leb (votes c) (votes d) (below d m)))
    (unrefuted-possible n records order o easy (before ++ c ∷ []) rest (same ∙ sym (append_assoc before (c ∷ []) rest)))
  where
    left : ℕ
    left = set_of (c ∷ rest)

    votes : ℕ → ℕ
    votes = tally records (set_of (c ∷ rest))

    inside : (z : ℕ) → Member z (c ∷ rest) → Member z order
    inside z m = subst (Member z) (sym same) (member-append_right before m)

    apart : Distinct (before ++ c ∷ rest)
    apart = subst Distinct same o.apart

    apart' : Distinct (c ∷ rest)
    apart' = distinct-rest before (c ∷ rest) apart

    whole' : Suffix n (c ∷ rest)
    whole' = record { apart = apart'; below = λ z m. o.below z (inside z m) }

    refuted : (d : ℕ) → refutes (Nen c d (set_of (c ∷ rest))) order ≡ true
    refuted d =
        and_from (is_in order c) (set_of (part_from order c) == set_of (c ∷ rest)) (in-from_member (inside c here))
        (eq-eqb (set_of (part_from order c)) (set_of (c ∷ rest)) (ap (λ s. set_of (part_from s c)) same ∙ ap set_of (part_from-append before c rest apart)))

    below : (d : ℕ) → Member d rest → tally records (set_of (c ∷ rest)) c ≤ tally records (set_of (c ∷ rest)) d
    below d m =
        let a : is_proper n (Nen c d (set_of (c ∷ rest))) ≡ true =
        suffix-nen n c d (c ∷ rest) whole' here (there m) (λ e. distinct-head apart' (subst (λ x. Member x rest) (sym e) m)) in
        let le : tally records (set_of (c ∷ rest)) c - tally records (set_of (c ∷ rest)) d ≤ low n records order =
        low-refuter n records order (Nen c d (set_of (c ∷ rest))) a (refuted d) in
        omega (arith, easy)

pub possible_iff_unrefuted : (n : ℕ) (records : List (List ℕ)) (order : List ℕ) → is_order n order ≡ true →
    ((is_possible records order ≡ true) ↔ (low n records order ≡ 0))
possible_iff_unrefuted n records order h = (forth, unrefuted) where
  forth : is_possible records order ≡ true → low n records order ≡ 0
  forth p =
      elim (cases_lt 0 (low n records order)) [
        | inl lt ↦
            let (a, g) = low_is n records order lt in
            let le : votes_for records a ≤ votes_against records a =
            possible-not_refuted n records order a g.proper (order_facts n order h).apart (order_facts n order h).whole p g.refuting in
            let e : votes_for records a - votes_against records a ≡ low n records order = g.reached in
            absurd (omega arith)
        | inr z ↦ omega arith
      ]

  unrefuted : low n records order ≡ 0 → is_possible records order ≡ true
  unrefuted e = unrefuted-possible n records order (order_facts n order h) e [] order refl
