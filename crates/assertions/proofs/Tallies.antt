-- A true assertion refutes no possible order.
use Rattle.std.proofs.Common.{Bool, List, Some, [], ap, arith, cond, count_by, eqb-true, false, inl, inr, le_trans, leb-true, nat_le, ne_eqb, not, refl, subst, sym, true, ℕ, ◌<◌, ◌==◌, ◌∙◌, ◌∷◌, ◌≡◌, ◌≤◌}
use Rattle.std.proofs.lemmas.Bool.{and_parts, both_ways, cases_Bool, cases_eq, not-true}
use Rattle.std.proofs.lemmas.List.Sums.{sum_by-le-sum_by}
use Rattle.irv_base.specs.Candidates.{has, is_in, set_of}
use Rattle.irv_base.specs.Records.{is_ahead, is_first, is_some_of, tally, top}
use Rattle.irv_base.specs.Tabulation.{is_possible, may_lose}
use Rattle.irv_base.proofs.Distinct.{Distinct}
use Rattle.irv_base.proofs.Members.{Member, from_list_all, member-from_in, member_cases, none-from_out}
use Rattle.irv_base.proofs.Sets.{has-member, member-from_has}
use Rattle.assertions.specs.Assertions.{is_proper, votes_against, votes_for}
use Rattle.assertions.specs.Refutation.{part_from, refutes}
use Rattle.assertions.specs.declared.assertion.Assertion.{Assertion}
use Rattle.assertions.specs.declared.assertion.Assertion.TheVariants.{Neb, Nen}
use Rattle.assertions.proofs.Parts.{part_from-distinct, part_from-either, part_from-head, part_from-member, part_from-other, part_from-same}
use Rattle.assertions.proofs.Proper.{nen_facts, pair_facts}

pub count_by-le : {X : Type 0} (p q : X → Bool) (xs : List X) → ((x : X) → p x ≡ true → q x ≡ true) → count_by p xs ≤ count_by q xs
count_by-le {X} p q xs h = sum_by-le-sum_by (λ x. cond (p x) 1 0) (λ x. cond (q x) 1 0) xs (λ x. go (p x) (q x) (h x)) where
  go : (a b : Bool) → (a ≡ true → b ≡ true) → cond a 1 0 ≤ cond b 1 0
  go true true h = omega arith
  go true false h = cc (h refl)
  go false b h = omega arith

-- ---- a first place counts in each set that has the candidate
first-top : (set w : ℕ) (ranking : List ℕ) → has set w ≡ true → is_first ranking w ≡ true → is_some_of (top ranking set) w ≡ true
first-top set w [] h f = cc
first-top set w (c ∷ rest) h f = rw (ap (has set) (eqb-true c w f) ∙ h) f

-- what counts in a set that has w doesn't have w ahead
top-ahead : (set l w : ℕ) (ranking : List ℕ) → has set w ≡ true → is_some_of (top ranking set) l ≡ true → is_ahead ranking l w ≡ true
top-ahead set l w [] h f = cc
top-ahead set l w (c ∷ rest) h f = go (has set c) refl f (top-ahead set l w rest h) where
  go : (b : Bool) → has set c ≡ b → is_some_of (cond b (Some c) (top rest set)) l ≡ true → (is_some_of (top rest set) l ≡ true → is_ahead rest l w ≡ true) →
      is_ahead (c ∷ rest) l w ≡ true
  go true e k ih = rw k refl
  go false e k ih =
      elim (cases_Bool (c == l)) [
        | inl t ↦ rw t refl
        | inr f ↦ rw (f, ne_eqb c w (λ s. both_ways (has set c) e (ap (has set) s ∙ h))) (ih k)
      ]

pub first-tally : (records : List (List ℕ)) (set w l : ℕ) → has set w ≡ true → votes_for records (Neb w l) ≤ tally records set w
first-tally records set w l h = count_by-le (λ r. is_first r w) (λ r. is_some_of (top r set) w) records (λ r f. first-top set w r h f)

pub tally-ahead : (records : List (List ℕ)) (set w l : ℕ) → has set w ≡ true → tally records set l ≤ votes_against records (Neb w l)
tally-ahead records set w l h = count_by-le (λ r. is_some_of (top r set) l) (λ r. is_ahead r l w) records (λ r f. top-ahead set l w r h f)

-- ---- possible orders
pub possible-part_from : (records : List (List ℕ)) (t : List ℕ) (w : ℕ) → is_possible records t ≡ true → is_possible records (part_from t w) ≡ true
possible-part_from records [] w h = h
possible-part_from records (c ∷ t) w h =
    elim (cases_eq c w) [
      | inl e ↦ ap (is_possible records) (part_from-same c w t e) ∙ h
      | inr ne ↦ ap (is_possible records) (part_from-other c w t ne)
          ∙ possible-part_from records t w (and_parts (may_lose records c t) (is_possible records t) h).1
    ]

possible-head : (records : List (List ℕ)) (w l : ℕ) (rest : List ℕ) → is_possible records (w ∷ rest) ≡ true → Member l rest →
    tally records (set_of (w ∷ rest)) w ≤ tally records (set_of (w ∷ rest)) l
possible-head records w l rest h m =
    let lose : may_lose records w rest ≡ true = (and_parts (may_lose records w rest) (is_possible records rest) h).0 in
    leb-true (tally records (set_of (w ∷ rest)) w) (tally records (set_of (w ∷ rest)) l)
    (from_list_all (λ d. nat_le (tally records (set_of (w ∷ rest)) w) (tally records (set_of (w ∷ rest)) d)) m lose)

-- in a possible order, w has at most as many votes as any other candidate left with it
pub possible-le : (records : List (List ℕ)) (t : List ℕ) (w l : ℕ) → is_possible records t ≡ true → Member w t → Member l (part_from t w) → (w ≡ l → ⊥) →
    tally records (set_of (part_from t w)) w ≤ tally records (set_of (part_from t w)) l
possible-le records t w l h m k ne =
    let (rest, e) = part_from-member m in
    let p : is_possible records (w ∷ rest) ≡ true = ap (is_possible records) (sym e) ∙ possible-part_from records t w h in
    let k' : Member l (w ∷ rest) = subst (Member l) e k in
    subst (λ s. tally records (set_of s) w ≤ tally records (set_of s) l) (sym e)
    (elim (member_cases k') [ inl s ↦ absurd (ne s) | inr r ↦ possible-head records w l rest p r ])

-- a proper assertion that refutes a possible order isn't true
pub possible-not_refuted : (n : ℕ) (records : List (List ℕ)) (t : List ℕ) (a : Assertion) →
    is_proper n a ≡ true → Distinct t → ((c : ℕ) → c < n → Member c t) → is_possible records t ≡ true → refutes a t ≡ true →
    votes_for records a ≤ votes_against records a
possible-not_refuted n records t (Neb w l) proper d whole h r =
    let p = pair_facts n w l proper in
    let (in', free) = and_parts (is_in t l) (not (is_in (part_from t l) w)) r in
    let out : Member w (part_from t l) → ⊥ = none-from_out (not-true (is_in (part_from t l) w) free) in
    let m : Member w t = whole w p.winner in
    let later : Member l (part_from t w) = elim (part_from-either w l t m (member-from_in l t in')) [ inl a ↦ absurd (out a) | inr b ↦ b ] in
    let present : has (set_of (part_from t w)) w ≡ true = has-member (part_from-distinct t w d) (part_from-head m) in
    le_trans (first-tally records (set_of (part_from t w)) w l present)
    (le_trans (possible-le records t w l h m later p.differ) (tally-ahead records (set_of (part_from t w)) w l present))
possible-not_refuted n records t (Nen w l rest) proper d whole h r =
    let p = nen_facts n w l rest proper in
    let (in', same) = and_parts (is_in t w) (set_of (part_from t w) == rest) r in
    let e : set_of (part_from t w) ≡ rest = eqb-true (set_of (part_from t w)) rest same in
    let later : Member l (part_from t w) = member-from_has (part_from t w) l (part_from-distinct t w d) (ap (λ s. has s l) e ∙ p.has_loser) in
    subst (λ s. tally records s w ≤ tally records s l) e (possible-le records t w l h (member-from_in w t in') later p.pair.differ)
