-- The step of a set is the best of the comparisons of one more candidate with each other candidate.
use Rattle.std.proofs.Common.{◌≡◌, ℕ, ◌-◌, ◌^◌, ◌<◌, ◌⊎◌, inl, inr, Bool, true, false, not, ◌&&◌, ◌==◌, if◌then◌else◌, List, map, Option, Some, None, refl, sym, ap, subst, arith, eq-eqb, eqb-true, ne_eqb, lt-ltb, ltb-true, ◌∙◌}
use Rattle.std.proofs.lemmas.Bool.{and_from, and_parts, cases_Bool, cases_lt, eqb-false, not-true, not_from_false, or_cases, or_parts, or_from, or_left, or_right}
use Rattle.irv_base.specs.Candidates.{all_but, candidates, has}
use Rattle.irv_base.proofs.Members.{Member, candidate-member, find-member, from_candidates, from_filter, from_find, from_map, member-filter, member-map}
use Rattle.assertions.specs.declared.assertion.Assertion.{Assertion}
use Rattle.assertions.specs.declared.assertion.Assertion.TheVariants.{Neb, Nen}
use Rattle.assertions.specs.Assertions.{assertions, is_proper, is_true, true_margin, votes_for, votes_against}
use Rattle.assertions.specs.Scores.{all_offered, no_score}
use Rattle.assertions.proofs.FixedOrders.{Before, sorted-assertions}
use Rattle.assertions.proofs.Greatest.{greatest_is}
use Rattle.assertions.proofs.Listed.{assertion-member, assertion-proper}
use Rattle.assertions.proofs.Proper.{nen_facts, nen_test, pair_facts, pair_test}
use Rattle.assertions.proofs.Scored.{Held, IsScore, all_offered-score, only_score}
use Rattle.assertions.proofs.Sorted.{find-first, sorted-filter}
use Rattle.assertions.specs.Steps.{anew, is_anew, more, step, step_refuter}
use Rattle.assertions.proofs.Anew.{step-anew}
use Rattle.set_search.specs.Offers.{offer_of, offers, step_score}
use Rattle.set_search.proofs.Mores.{has-more, more-below}

true-from : (records : List (List ℕ)) (a : Assertion) → 0 < true_margin records a → is_true records a ≡ true
true-from records a lt =
    let above : 0 < votes_for records a - votes_against records a = lt in
    lt-ltb (votes_against records a) (votes_for records a) (omega arith)

module _ (n : ℕ) (records : List (List ℕ)) (set c : ℕ) where
  abbrev Anew : Assertion → Type 0
  Anew a = (is_proper n a ≡ true) × (is_anew a set c ≡ true)

  abbrev new : Assertion → Bool
  new a = is_anew a set c && is_true records a

  abbrev by_step : Assertion → Bool
  by_step a = true_margin records a == step n records set c

  step-held : Held records Anew (step n records set c) (step_refuter n records set c)
  step-held = go (step_refuter n records set c) refl where
    go : (o : Option Assertion) → step_refuter n records set c ≡ o → Held records Anew (step n records set c) o
    go None e =
        elim (cases_lt 0 (step n records set c)) [
          | inl lt ↦
              let (a, m, r) = from_map (true_margin records) (step n records set c) (anew n records set c)
              (greatest_is (map (true_margin records) (anew n records set c)) lt) in
              let (b, f) = find-member by_step a (anew n records set c) m (eq-eqb (true_margin records a) (step n records set c) r) in
              let never : None ≡ Some b = sym e ∙ f in
              cc
          | inr z ↦ omega arith
        ]
    go (Some b) e =
        let (m, t) = from_find by_step b (anew n records set c) e in
        let (k, both) = from_filter new (assertions n) m in
        let (r, holds) = and_parts (is_anew b set c) (is_true records b) both in
        let reached : true_margin records b ≡ step n records set c = eqb-true (true_margin records b) (step n records set c) t in
        let above : votes_against records b < votes_for records b = ltb-true (votes_against records b) (votes_for records b) holds in
        let margin : votes_for records b - votes_against records b ≡ step n records set c = reached in
        let positive : 0 < step n records set c = omega (arith, above, margin) in (
          (assertion-proper n b k, r),
          reached,
          positive,
          λ a s q. find-first Before by_step b a (sorted-filter Before new (sorted-assertions n)) e
              (member-filter new (assertions n) (assertion-member n a s.0)
              (and_from (is_anew a set c) (is_true records a) s.1 (true-from records a (subst (λ x. 0 < x) (sym q) positive))))
              (eq-eqb (true_margin records a) (step n records set c) q),
        )

  step-scores : IsScore records Anew (step_score n records set c)
  step-scores = record { above = λ a s. step-anew n records set c a s.0 s.1; held = step-held }

  none-scores : IsScore records (λ a. ⊥) no_score
  none-scores = record { above = λ a s. absurd s; held = refl }

  at-in : (d : ℕ) → has set d ≡ true → offer_of set c d ≡ Nen c d (more set c)
  at-in d h = ap (λ b. if b then Nen c d (more set c) else Neb d c) h

  at-out : (d : ℕ) → has set d ≡ false → offer_of set c d ≡ Neb d c
  at-out d h = ap (λ b. if b then Nen c d (more set c) else Neb d c) h

  module _ (small : set < 2 ^ n) (below : c < n) (out : has set c ≡ false) where
    among : (d : ℕ) → d < n → (d ≡ c → ⊥) → Member (offer_of set c d) (offers n set c)
    among d l ne = member-map (offer_of set c) (member-filter (λ d. not (d == c)) (candidates n) (candidate-member d n l)
        (not_from_false (d == c) (ne_eqb d c ne)))

    forth : (a : Assertion) → Anew a → ⊥ ⊎ Member a (offers n set c)
    forth (Neb w l) s =
        let p = pair_facts n w l s.0 in
        let (t, free) = and_parts (l == c) (not (has (more set c) w)) s.1 in
        let same : l ≡ c = eqb-true l c t in
        let (gone, _) = or_parts (has set w) (w == c) (sym (has-more set c w out) ∙ not-true (has (more set c) w) free) in
        let is : offer_of set c w ≡ Neb w l = at-out w gone ∙ ap (λ x. Neb w x) (sym same) in
        inr (subst (λ x. Member x (offers n set c)) is (among w p.winner (λ e. p.differ (e ∙ sym same))))
    forth (Nen w l rest) s =
        let p = nen_facts n w l rest s.0 in
        let (t, u) = and_parts (w == c) (more set c == rest) s.1 in
        let same : w ≡ c = eqb-true w c t in
        let sum : more set c ≡ rest = eqb-true (more set c) rest u in
        let ne : l ≡ c → ⊥ = λ e. p.pair.differ (same ∙ sym e) in
        elim (or_cases (has set l) (l == c) (sym (has-more set c l out) ∙ ap (λ x. has x l) sum ∙ p.has_loser)) [
          | inl h ↦
              let is : offer_of set c l ≡ Nen w l rest = at-in l h ∙ ap (λ x. Nen x l (more set c)) (sym same) ∙ ap (λ x. Nen w l x) sum in
              inr (subst (λ x. Member x (offers n set c)) is (among l p.pair.loser ne))
          | inr e ↦ absurd (ne (eqb-true l c e))
        ]

    own : has (more set c) c ≡ true
    own = has-more set c c out ∙ or_right (has set c) (c == c) (eq-eqb c c refl)

    from : (d : ℕ) → d < n → (d ≡ c → ⊥) → Anew (offer_of set c d)
    from d l ne =
        elim (cases_Bool (has set d)) [
          | inl h ↦
              let p = nen_test n c d (more set c) (record {
                pair = record { winner = below; loser = l; differ = λ e. ne (sym e) };
                small = more-below n set c small below out;
                has_winner = own;
                has_loser = has-more set c d out ∙ or_left (has set d) (d == c) h;
              }) in
              subst Anew (sym (at-in d h)) (p, and_from (c == c) (more set c == more set c) (eq-eqb c c refl) (eq-eqb (more set c) (more set c) refl))
          | inr h ↦
              let p = pair_test n d c (record { winner = l; loser = below; differ = ne }) in
              let free : has (more set c) d ≡ false = has-more set c d out ∙ or_from (has set d) (d == c) h (ne_eqb d c ne) in
              subst Anew (sym (at-out d h)) (p, and_from (c == c) (not (has (more set c) d)) (eq-eqb c c refl) (not_from_false (has (more set c) d) free))
        ]

    back : (a : Assertion) → ⊥ ⊎ Member a (offers n set c) → Anew a
    back a (inl x) = absurd x
    back a (inr m) =
        let (d, k, e) = from_map (offer_of set c) a (all_but n c) m in
        let (k', ne) = from_filter (λ d. not (d == c)) (candidates n) k in
        subst Anew e (from d (from_candidates k') (eqb-false d c (not-true (d == c) ne)))

    pub step_offered : step_score n records set c ≡ all_offered records no_score (offers n set c)
    step_offered =
        only_score records Anew (λ a. ⊥ ⊎ Member a (offers n set c)) forth back (step_score n records set c) (all_offered records no_score (offers n set c))
        step-scores (all_offered-score records (λ a. ⊥) no_score (offers n set c) none-scores)
