-- When the budget is enough.
use Rattle.std.proofs.Common.{◌≡◌, ◌≢◌, ℕ, ◌-◌, ◌*◌, ◌^◌, ◌<◌, ◌≤◌, Bool, true, false, not, ◌&&◌, ◌==◌, nat_lt, if◌then◌else◌, List, length, count_by, Option, Some, None, option_map, Ok, Err, inl, inr, refl, sym, ap, arith, le_trans, lt-ltb, le-ltb, ltb-true, ltb-false, ne_eqb, ◌∙◌}
use Rattle.std.proofs.lemmas.Bool.{cases_lt, not-true, not_from_false, eqb-false}
use Rattle.std.proofs.lemmas.List.Filters.{length-filter_both}
use Rattle.std.proofs.lemmas.List.Sums.{length-filter}
use Rattle.budget.specs.declared.budget.Budget.{Budget}
use Rattle.budget.specs.declared.budget.Budget.TheVariants.{Nodes, Sets}
use Rattle.irv_base.specs.Candidates.{candidates, all_but}
use Rattle.irv_base.proofs.Members.{Member, member-filter, candidate-member, from_find, find-member, from_filter, from_candidates}
use Rattle.assertions.specs.declared.assertion.Assertion.{Assertion}
use Rattle.assertions.specs.Refutation.{covers}
use Rattle.assertions.specs.Suffixes.{factorial, parts_ending}
use Rattle.assertions.proofs.Few.{parts_are_few}
use Rattle.suffix_walk.specs.Search.{is_passed}
use Rattle.set_walk.specs.Walks.{passes}
use Rattle.set_walk.proofs.Counted.{counted_stand}
use Rattle.set_walk.proofs.Few.{standing_are_fewer}
use Rattle.cover_checker.specs.Covers.{stands, covered_is, first_over, spent_by, or_spent, verdict_on, standing_order, standing_count, standing_sets, IsEnough, IsEnoughFor}
use Rattle.cover_checker.specs.declared.cover.Verdict.TheVariants.{Covered}
use Rattle.cover_checker.specs.declared.cover.CoverFault.{CoverFault}
use Rattle.cover_checker.specs.declared.cover.CoverFault.TheVariants.{Spent, SpentSets}
use Rattle.cover_checker.proofs.Verdicts.{stands_not_covers}

module _ (n winner : ℕ) (list : List Assertion) where
  -- ---- by nodes
  module _ (nodes : ℕ) where
    abbrev is_over : ℕ → Bool
    is_over c = nat_lt nodes (standing_count n winner list c)

    none-nodes : first_over n winner list nodes ≡ None → IsEnough (Nodes nodes) n winner list
    none-nodes h c below ne =
        elim (cases_lt nodes (standing_count n winner list c)) [
          | inl lt ↦
              let m : Member c (all_but n winner) = member-filter (λ d. not (d == winner)) (candidates n) (candidate-member c n below)
              (not_from_false (c == winner) (ne_eqb c winner ne)) in
              let (d, e) = find-member is_over c (all_but n winner) m (lt-ltb nodes (standing_count n winner list c) lt) in
              cc
          | inr le ↦ le
        ]

    nodes-none : IsEnough (Nodes nodes) n winner list → first_over n winner list nodes ≡ None
    nodes-none enough = go (first_over n winner list nodes) refl where
      go : (o : Option ℕ) → first_over n winner list nodes ≡ o → o ≡ None
      go None e = refl
      go (Some c) e =
          let (m, over) = from_find is_over c (all_but n winner) e in
          let (k, other) = from_filter (λ c. not (c == winner)) (candidates n) m in
          let ne : c ≢ winner = eqb-false c winner (not-true (c == winner) other) in
          let le : standing_count n winner list c ≤ nodes = enough c (from_candidates k) ne in
          absurd (omega (arith, ltb-true nodes (standing_count n winner list c) over))

    pub nodes-enough : 2 * factorial (n - 1) ≤ nodes → IsEnough (Nodes nodes) n winner list
    nodes-enough le c below ne = le_trans (few (parts_ending n c)) (le_trans (parts_are_few n c below) le) where
      few : (xs : List (List ℕ)) → count_by (λ suffix. stands list suffix && is_passed (standing_order n winner list) suffix) xs ≤ length xs
      few xs =
          let p : List ℕ → Bool = λ suffix. stands list suffix && is_passed (standing_order n winner list) suffix in
          omega (arith, length-filter p xs, length-filter_both p (λ x. not (p x)) (λ x. refl) xs)

  -- ---- by sets
  pub sets-enough : (sets : ℕ) → winner < n → 1 < n → 2 ^ n - 3 ≤ sets → standing_sets n winner list ≤ sets
  sets-enough sets below two le =
      le_trans ((counted_stand n winner (passes list)).0) (le_trans (standing_are_fewer n winner (passes list) below two) le)

  -- ---- by either
  unmapped : (o : Option ℕ) → option_map Spent o ≡ None → o ≡ None
  unmapped None e = refl
  unmapped (Some last) e = cc

  within : (sets : ℕ) (b : Bool) → nat_lt sets (standing_sets n winner list) ≡ b → (if b then Some (SpentSets sets) else None) ≡ None →
      standing_sets n winner list ≤ sets
  within sets true e h = cc
  within sets false e h = ltb-false sets (standing_sets n winner list) e

  none-enough : (budget : Budget) → spent_by budget n winner list ≡ None → IsEnough budget n winner list
  none-enough (Nodes nodes) h = none-nodes nodes (unmapped (first_over n winner list nodes) h)
  none-enough (Sets sets) h = within sets (nat_lt sets (standing_sets n winner list)) refl h

  enough-none : (budget : Budget) → IsEnough budget n winner list → spent_by budget n winner list ≡ None
  enough-none (Nodes nodes) enough = ap (option_map Spent) (nodes-none nodes enough)
  enough-none (Sets sets) enough = ap (λ b. if b then Some (SpentSets sets) else None) (le-ltb sets (standing_sets n winner list) enough)

  pub never_over : (budget : Budget) → winner < n → 1 < n → IsEnoughFor n budget → IsEnough budget n winner list
  never_over (Nodes nodes) below two le = nodes-enough nodes le
  never_over (Sets sets) below two le = sets-enough sets below two le

  pub enough-verdict : (budget : Budget) → IsEnough budget n winner list → covered_is n winner list budget ≡ Ok (verdict_on (standing_order n winner list))
  enough-verdict budget enough = ap (λ o. or_spent o (verdict_on (standing_order n winner list))) (enough-none budget enough)

  -- if the list is called covered, the budget is enough; and a list that covers within the budget is called covered
  pub covered-enough : (budget : Budget) → covered_is n winner list budget ≡ Ok Covered → IsEnough budget n winner list
  covered-enough budget h = go (spent_by budget n winner list) refl h where
    go : (o : Option CoverFault) → spent_by budget n winner list ≡ o → or_spent o (verdict_on (standing_order n winner list)) ≡ Ok Covered →
        IsEnough budget n winner list
    go None e k = none-enough budget e
    go (Some fault) e k = cc

  pub covers-covered : (budget : Budget) → covers n winner list ≡ true → IsEnough budget n winner list → covered_is n winner list budget ≡ Ok Covered
  covers-covered budget t enough = enough-verdict budget enough ∙ ap (λ o. Ok (verdict_on o)) (none (standing_order n winner list) refl) where
    none : (o : Option (List ℕ)) → standing_order n winner list ≡ o → o ≡ None
    none None e = refl
    none (Some order) e = absurd (stands_not_covers n winner budget list order e t)

  pub never_fails : (budget : Budget) (fault : CoverFault) → IsEnough budget n winner list → covered_is n winner list budget ≡ Err fault → ⊥
  never_fails budget fault enough h =
      let same : Ok (verdict_on (standing_order n winner list)) ≡ Err fault = sym (enough-verdict budget enough) ∙ h in cc

pub never_spent : (n winner nodes : ℕ) (list : List Assertion) (last : ℕ) → 2 * factorial (n - 1) ≤ nodes →
    covered_is n winner list (Nodes nodes) ≡ Err (Spent last) → ⊥
never_spent n winner nodes list last le h = never_fails n winner list (Nodes nodes) (Spent last) (nodes-enough n winner list nodes le) h

pub sets_never_spent : (n winner sets told : ℕ) (list : List Assertion) → winner < n → 1 < n → 2 ^ n - 3 ≤ sets →
    covered_is n winner list (Sets sets) ≡ Err (SpentSets told) → ⊥
sets_never_spent n winner sets told list below two le h = never_fails n winner list (Sets sets) (SpentSets told) (sets-enough n winner list sets below two le) h
