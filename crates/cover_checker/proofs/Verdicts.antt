-- What an answer of `covered` says.
use Rattle.std.proofs.Common.{◌≡◌, ◌≢◌, ◌↔◌, ◌⊎◌, inl, inr, ℕ, ◌<◌, Bool, true, false, nat_lt, if◌then◌else◌, List, Option, Some, None, option_map, Result, Ok, Err, refl, sym, ap, ◌∙◌}
use Rattle.std.specs.List.{list_any, list_all}
use Rattle.std.proofs.lemmas.Bool.{not-true, not_from_false, cases_Bool, both_ways}
use Rattle.budget.specs.declared.budget.Budget.{Budget}
use Rattle.budget.specs.declared.budget.Budget.TheVariants.{Sets}
use Rattle.irv_base.specs.Orders.{is_order, Elects}
use Rattle.irv_base.specs.Tabulation.{is_possible}
use Rattle.irv_base.proofs.Members.{from_find, find-member, from_list_all, list_all-each, contains-from_member, member-from_contains}
use Rattle.assertions.specs.declared.assertion.Assertion.{Assertion}
use Rattle.assertions.specs.Assertions.{is_proper, is_true}
use Rattle.assertions.specs.Suffixes.{IsAlternative, alternative_orders, comes_before}
use Rattle.assertions.specs.Refutation.{refutes, covers}
use Rattle.assertions.proofs.Elections.{cover_is_sound}
use Rattle.assertions.proofs.Endings.{alternative_orders_are}
use Rattle.assertions.proofs.Firsts.{first_alternative}
use Rattle.suffix_walk.specs.Search as walk
use Rattle.set_walk.specs.Answers.{first_within as first_by_walk}
use Rattle.set_walk.specs.Walks.{passes}
use Rattle.set_walk.proofs.Orders.{standing_by_sets}
use Rattle.set_walk.specs.declared.walk.WalkFault.{WalkFault}
use Rattle.set_walk.specs.declared.walk.WalkFault.TheVariants.{Spent as WalkSpent, Memory as WalkMemory}
use Rattle.cover_checker.specs.Covers.{stands, covered_is, spent_by, or_spent, verdict_on, standing_order, standing_sets}
use Rattle.cover_checker.specs.Ends.{verdict_at}
use Rattle.cover_checker.specs.Reaching.{IsReach}
use Rattle.cover_checker.specs.declared.walk.SetWalk.{SetWalk}
use Rattle.cover_checker.specs.declared.walk.SetWalk.TheVariants.{Found, Ended}
use Rattle.cover_checker.specs.declared.cover.Verdict.{Verdict}
use Rattle.cover_checker.specs.declared.cover.Verdict.TheVariants.{Covered, Stands}
use Rattle.cover_checker.specs.declared.cover.CoverFault.{CoverFault}
use Rattle.cover_checker.specs.declared.cover.CoverFault.TheVariants.{Spent, SpentSets, Memory}

module _ (n winner : ℕ) (budget : Budget) (list : List Assertion) where
  -- an answer is the verdict on that order
  verdict_is : (verdict : Verdict) → covered_is n winner list budget ≡ Ok verdict → verdict_on (standing_order n winner list) ≡ verdict
  verdict_is verdict h = go (spent_by budget n winner list) h where
    go : (o : Option CoverFault) → or_spent o (verdict_on (standing_order n winner list)) ≡ Ok verdict → verdict_on (standing_order n winner list) ≡ verdict
    go (Some fault) e = cc
    go None e = cc

  none_stands : standing_order n winner list ≡ None → covers n winner list ≡ true
  none_stands h =
      list_all-each (λ order. list_any (λ a. refutes a order) list) (alternative_orders n winner) (λ order m.
      elim (cases_Bool (list_any (λ a. refutes a order) list)) [
        | inl t ↦ t
        | inr f ↦ let (found, e) = find-member (stands list) order (alternative_orders n winner) m
            (not_from_false (list_any (λ a. refutes a order) list) f) in cc
      ])

  pub stands_not_covers : (order : List ℕ) → standing_order n winner list ≡ Some order → covers n winner list ≡ true → ⊥
  stands_not_covers order h t =
      let (m, s) = from_find (stands list) order (alternative_orders n winner) h in
      both_ways (list_any (λ a. refutes a order) list) (not-true (list_any (λ a. refutes a order) list) s)
      (from_list_all (λ order. list_any (λ a. refutes a order) list) m t)

  pub covered_iff_covers : (verdict : Verdict) → covered_is n winner list budget ≡ Ok verdict → ((verdict ≡ Covered) ↔ (covers n winner list ≡ true))
  covered_iff_covers verdict h = go (standing_order n winner list) refl (verdict_is verdict h) where
    go : (o : Option (List ℕ)) → standing_order n winner list ≡ o → verdict_on o ≡ verdict → ((verdict ≡ Covered) ↔ (covers n winner list ≡ true))
    go None e k = (λ v. none_stands e, λ t. sym k)
    go (Some order) e k = (λ v. cc, λ t. absurd (stands_not_covers order e t))

  standing_is : (found : List ℕ) → standing_order n winner list ≡ Some found →
      IsAlternative n winner found × (stands list found ≡ true)
      × ((order : List ℕ) → IsAlternative n winner order → stands list order ≡ true → (found ≡ order) ⊎ (comes_before found order ≡ true))
  standing_is found e =
      let (m, s) = from_find (stands list) found (alternative_orders n winner) e in (
        (alternative_orders_are n winner found).0 (contains-from_member m),
        s,
        λ order q r. first_alternative n winner (stands list) found order e
            (member-from_contains order (alternative_orders n winner) ((alternative_orders_are n winner order).1 q)) r,
      )

  pub stands_is_least : (found : List ℕ) → covered_is n winner list budget ≡ Ok (Stands found) →
      IsAlternative n winner found × (stands list found ≡ true)
      × ((order : List ℕ) → IsAlternative n winner order → stands list order ≡ true → (found ≡ order) ⊎ (comes_before found order ≡ true))
  stands_is_least found h = go (standing_order n winner list) refl (verdict_is (Stands found) h) where
    go : (o : Option (List ℕ)) → standing_order n winner list ≡ o → verdict_on o ≡ Stands found →
        IsAlternative n winner found × (stands list found ≡ true)
        × ((order : List ℕ) → IsAlternative n winner order → stands list order ≡ true → (found ≡ order) ⊎ (comes_before found order ≡ true))
    go None e k = cc
    go (Some order) e k = let same : order ≡ found = cc in standing_is found (e ∙ ap Some same)

pub covered_is_sound : (n winner : ℕ) (budget : Budget) (list : List Assertion) → winner < n → list_all (is_proper n) list ≡ true →
    covered_is n winner list budget ≡ Ok Covered →
    (records : List (List ℕ)) → list_all (is_true records) list ≡ true →
    (order : List ℕ) → is_order n order ≡ true → is_possible records order ≡ true → Elects order winner
covered_is_sound n winner budget list below proper h records true' order o possible =
    cover_is_sound n winner list below proper ((covered_iff_covers n winner budget list Covered h).0 refl) records true' order o possible

-- ---- what the walk through suffixes answers, as the verdict

pub none-covered : (over : Option ℕ) (standing : Option (List ℕ)) → Ok None ≡ walk.or_spent over standing →
    Ok Covered ≡ or_spent (option_map Spent over) (verdict_on standing)
none-covered (Some last) standing e = cc
none-covered None None e = refl
none-covered None (Some order) e = cc

pub some-stands : (found : List ℕ) (over : Option ℕ) (standing : Option (List ℕ)) → Ok (Some found) ≡ walk.or_spent over standing →
    Ok (Stands found) ≡ or_spent (option_map Spent over) (verdict_on standing)
some-stands found (Some last) standing e = cc
some-stands found None None e = cc
some-stands found None (Some order) e = let same : found ≡ order = cc in ap (λ o. Ok (Stands o)) same

pub error-spent : (last : ℕ) (over : Option ℕ) (standing : Option (List ℕ)) → Err last ≡ walk.or_spent over standing →
    Err (Spent last) ≡ or_spent (option_map Spent over) (verdict_on standing)
error-spent last (Some other) standing e = let same : last ≡ other = cc in ap (λ c. Err (Spent c)) same
error-spent last None standing e = cc

-- ---- what the walk from set to set answers, as the verdict

abbrev pub told : ℕ → Result (Option (List ℕ)) WalkFault → Result Verdict CoverFault
told sets (Ok standing) = Ok (verdict_on standing)
told sets (Err WalkSpent) = Err (SpentSets sets)
told sets (Err WalkMemory) = Err Memory

pub told-is : (n winner sets : ℕ) (list : List Assertion) → told sets (first_by_walk n winner sets (passes list)) ≡ covered_is n winner list (Sets sets)
told-is n winner sets list =
    ap (λ o. told sets (if nat_lt sets (standing_sets n winner list) then Err WalkSpent else Ok o)) (sym (standing_by_sets n winner list))
    ∙ go (nat_lt sets (standing_sets n winner list)) (standing_order n winner list)
  where
    go : (b : Bool) (o : Option (List ℕ)) → told sets (if b then Err WalkSpent else Ok o) ≡ or_spent (if b then Some (SpentSets sets) else None) (verdict_on o)
    go true o = refl
    go false o = refl

-- if the walk comes to its end
pub ended-is : (n winner sets : ℕ) (list : List Assertion) (end : SetWalk) → IsReach n winner sets (passes list) (Ok end) →
    Ok (verdict_at end) ≡ covered_is n winner list (Sets sets)
ended-is n winner sets list (Found order) walk = sym (ap (told sets) walk) ∙ told-is n winner sets list
ended-is n winner sets list (Ended reached) walk = sym (ap (told sets) walk.0) ∙ told-is n winner sets list

-- if it doesn't
pub fault-is : (n winner sets : ℕ) (list : List Assertion) (fault : CoverFault) → IsReach n winner sets (passes list) (Err fault) → fault ≢ Memory →
    Err fault ≡ covered_is n winner list (Sets sets)
fault-is n winner sets list (Spent last) walk other = absurd walk
fault-is n winner sets list (SpentSets more) (same, spent) other =
    ap (λ k. Err (SpentSets k)) same ∙ sym (ap (told sets) spent) ∙ told-is n winner sets list
fault-is n winner sets list Memory walk other = absurd (other refl)
