-- The list of all proper assertions has exactly these.
use Rattle.std.proofs.Common.{List, arith, inl, inr, map, ne_eqb, not, subst, sym, true, ℕ, ◌&&◌, ◌<◌, ◌==◌, ◌^◌, ◌≡◌}
use Rattle.std.proofs.lemmas.Bool.{and_from, and_parts, eqb-false, not-true, not_from_false}
use Rattle.std.specs.List.{range_with_len}
use Rattle.irv_base.specs.Candidates.{all_but, candidates, has, set_of}
use Rattle.irv_base.proofs.Members.{Member, candidate-member, from_candidates, from_filter, from_flat_map, from_map, from_range, member-append_cases, member-append_left, member-append_right, member-filter, member-flat_map, member-map, range-member}
use Rattle.irv_base.proofs.Sets.{has-member, set_of-lt}
use Rattle.assertions.specs.Assertions.{assertions, is_proper, pairs, sets_with}
use Rattle.assertions.specs.Hardness.{low}
use Rattle.assertions.specs.declared.assertion.Assertion.{Assertion}
use Rattle.assertions.specs.declared.assertion.Assertion.TheVariants.{Neb, Nen}
use Rattle.assertions.proofs.Endings.{Suffix}
use Rattle.assertions.proofs.Proper.{IsPair, nen_facts, nen_test, pair_facts, pair_test}

pub pair-member : (n w l : ℕ) → IsPair n w l → Member (w, l) (pairs n)
pair-member n w l p =
    member-flat_map (λ w. map (λ l. (w, l)) (all_but n w)) (candidate-member w n p.winner)
    (member-map (λ l. (w, l)) (member-filter (λ c. not (c == w)) (candidates n) (candidate-member l n p.loser)
    (not_from_false (l == w) (ne_eqb l w (λ e. p.differ (sym e))))))

pub from_pairs : (n : ℕ) (p : ℕ × ℕ) → Member p (pairs n) → IsPair n p.0 p.1
from_pairs n p m =
    let (w, a, m') = from_flat_map (λ w. map (λ l. (w, l)) (all_but n w)) p (candidates n) m in
    let (l, b, e) = from_map (λ l. (w, l)) p (all_but n w) m' in
    let (b', ne) = from_filter (λ c. not (c == w)) (candidates n) b in
    let pair : IsPair n w l = record { winner = from_candidates a; loser = from_candidates b'; differ = λ s. eqb-false l w (not-true (l == w) ne) (sym s) } in
    subst (λ (q : ℕ × ℕ). IsPair n q.0 q.1) e pair

pub assertion-member : (n : ℕ) (a : Assertion) → is_proper n a ≡ true → Member a (assertions n)
assertion-member n (Neb w l) h = member-append_left _ (member-map (λ (p : ℕ × ℕ). Neb p.0 p.1) (pair-member n w l (pair_facts n w l h)))
assertion-member n (Nen w l rest) h =
    let p = nen_facts n w l rest h in
    let small : rest < 2 ^ n = p.small in
    let m : Member rest (sets_with n (w, l)) =
    member-filter (λ rest. has rest w && has rest l) (range_with_len 0 (2 ^ n)) (range-member rest 0 (2 ^ n) (omega arith) (omega arith))
    (and_from (has rest w) (has rest l) p.has_winner p.has_loser) in
    member-append_right (map (λ (p : ℕ × ℕ). Neb p.0 p.1) (pairs n))
    (member-flat_map (λ (p : ℕ × ℕ). map (λ rest. Nen p.0 p.1 rest) (sets_with n p)) (pair-member n w l p.pair) (member-map (λ rest. Nen w l rest) m))

pub assertion-proper : (n : ℕ) (a : Assertion) → Member a (assertions n) → is_proper n a ≡ true
assertion-proper n a m =
    elim (member-append_cases (map (λ (p : ℕ × ℕ). Neb p.0 p.1) (pairs n)) _ m) [
      | inl k ↦
          let (p, q, e) = from_map (λ (p : ℕ × ℕ). Neb p.0 p.1) a (pairs n) k in
          subst (λ a. is_proper n a ≡ true) e (pair_test n p.0 p.1 (from_pairs n p q))
      | inr k ↦
          let (p, q, k') = from_flat_map (λ (p : ℕ × ℕ). map (λ rest. Nen p.0 p.1 rest) (sets_with n p)) a (pairs n) k in
          let (rest, q', e) = from_map (λ rest. Nen p.0 p.1 rest) a (sets_with n p) k' in
          let (r, both) = from_filter (λ rest. has rest p.0 && has rest p.1) (range_with_len 0 (2 ^ n)) q' in
          let (hw, hl) = and_parts (has rest p.0) (has rest p.1) both in
          let (low, high) = from_range rest 0 (2 ^ n) r in
          let small : rest < 2 ^ n = omega arith in
          subst (λ a. is_proper n a ≡ true) e (nen_test n p.0 p.1 rest (record { pair = from_pairs n p q; small = small; has_winner = hw; has_loser = hl }))
    ]

-- ---- the NENs that a suffix can have against it
pub suffix-nen : (n w l : ℕ) (t : List ℕ) → Suffix n t → Member w t → Member l t → (w ≡ l → ⊥) → is_proper n (Nen w l (set_of t)) ≡ true
suffix-nen n w l t s mw ml ne =
    nen_test n w l (set_of t) (record {
      pair = record { winner = s.below w mw; loser = s.below l ml; differ = ne };
      small = set_of-lt n t s.apart s.below;
      has_winner = has-member s.apart mw;
      has_loser = has-member s.apart ml;
    })
