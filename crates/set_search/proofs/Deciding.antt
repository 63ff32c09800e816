-- What walks by the best margin, and below it, say about the certificate and the sets that it needs.
use Rattle.std.proofs.Common.{◌≡◌, ℕ, ◌^◌, ◌-◌, ◌<◌, ◌≤◌, inl, inr, Bool, true, false, nat_lt, if◌then◌else◌, List, [], ◌∷◌, length, Option, Some, None, Ok, Err, refl, sym, ap, subst, arith, ltb-true, ◌∙◌}
use Rattle.std.proofs.lemmas.Bool.{cases_Bool, cases_lt, both_ways, ltb-false}
use Rattle.irv_base.specs.Candidates.{set_of}
use Rattle.irv_base.specs.Orders.{Elects}
use Rattle.irv_base.proofs.Distinct.{distinct-le, distinct-range}
use Rattle.irv_base.proofs.Members.{from_find}
use Rattle.irv_base.proofs.Sames.{distinct-filter}
use Rattle.assertions.specs.Certificate.{certificate_order}
use Rattle.assertions.specs.Hardness.{low}
use Rattle.assertions.specs.Suffixes.{alternative_orders}
use Rattle.assertions.proofs.Alternatives.{best-le}
use Rattle.assertions.proofs.Endings.{from_alternative}
use Rattle.set_walk.specs.Answers.{first_within}
use Rattle.set_walk.specs.Bests.{best_by_sets, order_by_sets}
use Rattle.assertions.specs.Steps.{step}
use Rattle.set_walk.specs.Walks.{counted, first_by_sets, is_standing, standing, walks}
use Rattle.set_walk.specs.declared.walk.WalkFault.TheVariants.{Spent}
use Rattle.set_walk.proofs.Bests.{best_by_sets_is}
use Rattle.set_walk.proofs.Counted.{counted_stand}
use Rattle.set_walk.proofs.Enough.{least_is_best, search_counts}
use Rattle.set_walk.proofs.Few.{standing_are_fewer}
use Rattle.set_walk.proofs.Firsts.{first_is}
use Rattle.set_walk.proofs.Orders.{alternative-suffix, order_by_sets_is}
use Rattle.set_walk.proofs.Standing.{from_standing}
use Rattle.set_walk.proofs.Walking.{below-walks}
use Rattle.std.specs.List.{range_with_len}
use Rattle.assertions.proofs.Endings.{alternative-member}
use Rattle.assertions.specs.Hardness.{first_bound, start_order}
use Rattle.bound_search.specs.Reached.{IsReached}
use Rattle.bound_search.specs.declared.ends.Best.{Best}
use Rattle.irv_tabulator.specs.declared.tabulated.Tabulated.{Tabulated}
use Rattle.set_tallies.specs.Bags.{IsOf, Kept}
use Rattle.set_search.specs.Answers.{IsUndecided}
use Rattle.set_search.specs.Parts.{IsOrder}
use Rattle.set_search.specs.Levels.{IsLevel}
use Rattle.set_search.specs.Limits.{within}
use Rattle.set_search.specs.Sets.{best_of, cover_sets, order_sets, sets_for}
use Rattle.set_search.specs.declared.by_margin.Limit.TheVariants.{Below, AtMost}

-- ---- what a walk answers
module _ (n winner sets : ℕ) (goes : ℕ → ℕ → Bool) where
  by : (b : Bool) → nat_lt sets (length (counted n winner goes)) ≡ b →
      first_within n winner sets goes ≡ (if b then Err Spent else Ok (first_by_sets n winner goes))
  by b e = ap (λ x. if x then Err Spent else Ok (first_by_sets n winner goes)) e

  pub from_ok : (o : Option (List ℕ)) → first_within n winner sets goes ≡ Ok o → (length (counted n winner goes) ≤ sets) × (first_by_sets n winner goes ≡ o)
  from_ok o h = go (nat_lt sets (length (counted n winner goes))) refl where
    go : (b : Bool) → nat_lt sets (length (counted n winner goes)) ≡ b → (length (counted n winner goes) ≤ sets) × (first_by_sets n winner goes ≡ o)
    go true e = let never = sym (by true e) ∙ h in cc
    go false e = let is = sym (by false e) ∙ h in (ltb-false sets (length (counted n winner goes)) e, cc)

  pub from_spent : first_within n winner sets goes ≡ Err Spent → sets < length (counted n winner goes)
  from_spent h = go (nat_lt sets (length (counted n winner goes))) refl where
    go : (b : Bool) → nat_lt sets (length (counted n winner goes)) ≡ b → sets < length (counted n winner goes)
    go true e = ltb-true sets (length (counted n winner goes)) e
    go false e = let never = sym (by false e) ∙ h in cc

module _ (n winner sets : ℕ) (records : List (List ℕ)) (low' : winner < n) (two : 1 < n) where
  abbrev best : ℕ
  best = best_of n records winner

  abbrev at_most : ℕ → ℕ → ℕ → Bool
  at_most level = within (AtMost level) n records

  abbrev under : ℕ → ℕ → ℕ → Bool
  under level = within (Below level) n records

  best-is : best_of n records winner ≡ best_by_sets n winner (step n records)
  best-is = best_by_sets_is n records winner low' two

  -- an order walks by the best margin, and by no smaller one
  found-best : (level : ℕ) (order : List ℕ) → level ≤ best_of n records winner → first_by_sets n winner (at_most level) ≡ Some order →
      level ≡ best_of n records winner
  found-best level order le h =
      elim (cases_lt level best) [
        | inl lt ↦
            let gone = (least_is_best n winner level records low' two).1 (subst (λ x. level < x) best-is lt) in
            let never : None ≡ Some order = sym gone ∙ h in
            cc
        | inr ge ↦ omega (arith, le, ge)
      ]

  pub found-order : (level : ℕ) (order : List ℕ) → level ≤ best_of n records winner → first_within n winner sets (at_most level) ≡ Ok (Some order) →
      (level ≡ best_of n records winner) × (certificate_order n winner (low n records) (best_of n records winner) ≡ Some order)
      × (order_sets n records winner ≤ sets)
  found-order level order le h =
      let (few, is) = from_ok n winner sets (at_most level) (Some order) h in
      let same = found-best level order le is in (
        same,
        order_by_sets_is n winner records low' two ∙ ap (order_by_sets n winner (step n records)) (sym (same ∙ best-is)) ∙ is,
        subst (λ x. length (counted n winner (at_most x)) ≤ sets) same few,
      )

  pub spent-order : (level : ℕ) → level ≤ best_of n records winner → first_within n winner sets (at_most level) ≡ Err Spent →
      sets < sets_for n records winner
  spent-order level le h =
      let many = from_spent n winner sets (at_most level) h in
      elim (cases_lt level best) [
        | inl lt ↦ let few = search_counts n winner level records lt in omega (arith, many, few)
        | inr ge ↦
            let same : level ≡ best_of n records winner = omega (arith, le, ge) in
            let many' = subst (λ x. sets < length (counted n winner (at_most x))) same many in
            omega (arith, many')
      ]

  -- the walk by that margin doesn't end
  pub never-ended : (level : ℕ) → IsLevel n records winner sets level → first_within n winner sets (at_most level) ≡ Ok None → ⊥
  never-ended level is h =
      let (few, gone) = from_ok n winner sets (at_most level) None h in
      let lt = (least_is_best n winner level records low' two).0 gone in
      let same = (counted_stand n winner (at_most level)).1 gone in
      elim is.ends [
        | inl e ↦ omega (arith, lt, e, best-is)
        | inr many ↦ let long = ap length same in omega (arith, few, many, long)
      ]

  -- ---- below the best margin
  never-under : (order : List ℕ) → first_by_sets n winner (under best) ≡ Some order → ⊥
  never-under order h =
      let (m, t) = from_find (walks (under best)) order (alternative_orders n winner) (first_is n (under best) winner ∙ h) in
      let ge = best-le n winner (low n records) order m in
      let proper = alternative-suffix n winner order m in
      let (_, (c, _, elects)) = from_alternative n winner order m in
      go order c elects proper t ge
    where
      go : (order : List ℕ) (c : ℕ) → Elects order c → Rattle.irv_base.specs.Suffixes.is_suffix n order ≡ true → walks (under best) order ≡ true →
          best_of n records winner ≤ low n records order → ⊥
      go [] c ([], e) proper t ge = cc
      go [] c (x ∷ b, e) proper t ge = cc
      go (d ∷ rest) c e proper t ge =
          let lt = ltb-true (low n records (d ∷ rest)) best (below-walks n records best d rest proper ∙ t) in
          omega (arith, lt, ge)

  pub found-under : (order : List ℕ) → first_within n winner sets (under best) ≡ Ok (Some order) → ⊥
  found-under order h = never-under order (from_ok n winner sets (under best) (Some order) h).1

  pub ended-under : first_within n winner sets (under best) ≡ Ok None → cover_sets n records winner ≤ sets
  ended-under h =
      let (few, gone) = from_ok n winner sets (under best) None h in
      let long = ap length ((counted_stand n winner (under best)).1 gone) in
      omega (arith, few, long)

  pub spent-under : first_within n winner sets (under best) ≡ Err Spent → sets < cover_sets n records winner
  spent-under h =
      let many = from_spent n winner sets (under best) h in
      let few = (counted_stand n winner (under best)).0 in
      omega (arith, many, few)

-- nothing stands below 0
pub none-under : (n winner : ℕ) (records : List (List ℕ)) → best_of n records winner ≡ 0 → cover_sets n records winner ≡ 0
none-under n winner records zero =
    let fits = distinct-le (standing n winner goes) [] (distinct-filter (is_standing n winner goes) (range_with_len 0 (2 ^ n)) (distinct-range 0 (2 ^ n)))
    (λ set m. let (t, s) = from_standing n winner goes set m in absurd (nothing t s.is.elected s.is.elects s.going)) in
    omega (arith, fits)
  where
    goes : ℕ → ℕ → Bool
    goes set c = nat_lt (step n records set c) (best_of n records winner)

    nothing : (t : List ℕ) (c : ℕ) → Elects t c → walks goes t ≡ true → ⊥
    nothing [] c ([], e) w = cc
    nothing [] c (x ∷ b, e) w = cc
    nothing (d ∷ t) c e w =
        let (g, _) = Rattle.std.proofs.lemmas.Bool.and_parts (goes (set_of t) d) (walks goes t) w in
        let lt = ltb-true (step n records (set_of t) d) (best_of n records winner) g in
        omega (arith, lt, zero)

-- ---- the results of the parts
pub start-hardness : (bag : Kept) (records : List (List ℕ)) (tab : Tabulated) (start : Best) → IsOf bag records → IsReached bag tab.winner start →
    start.order ≡ start_order tab.order → start.margin ≡ first_bound bag.n records tab.order
start-hardness bag records tab start of reached is = sym (ap (low bag.n records) (sym is) ∙ reached.hardness records of)

-- a start order of hardness 0 shows that the contest isn't decided
pub start-undecided : (bag : Kept) (records : List (List ℕ)) (tab : Tabulated) (sets : ℕ) (start : Best) → IsOf bag records →
    IsReached bag tab.winner start → start.order ≡ start_order tab.order → start.margin ≡ 0 → IsUndecided bag.n records tab sets
start-undecided bag records tab sets start of reached is zero =
    let (h, (c, ne, elects)) = reached.alternative in
    let le = best-le bag.n tab.winner (low bag.n records) start.order (alternative-member bag.n tab.winner c start.order h ne elects) in
    let hardness = reached.hardness records of in
    let first : first_bound bag.n records tab.order ≡ 0 = ap (low bag.n records) (sym is) ∙ hardness ∙ zero in
    record { none = omega (arith, le, hardness, zero); within = λ some. absurd (omega (arith, some, first)) }

pub best-undecided : (n : ℕ) (records : List (List ℕ)) (tab : Tabulated) (sets : ℕ) (best : Best) → IsOrder n records tab.winner sets best → best.margin ≡ 0 →
    IsUndecided n records tab sets
best-undecided n records tab sets best o zero =
    let none = sym o.margin ∙ zero in
    let cover = none-under n tab.winner records none in
    let few = o.within in
    record { none = none; within = λ _. omega (arith, cover, few) }

-- ---- the maximum number of sets needed
pub sets_are_few : (n winner : ℕ) (records : List (List ℕ)) → winner < n → 1 < n → sets_for n records winner ≤ 2 ^ n - 3
sets_are_few n winner records low' two =
    let cover = standing_are_fewer n winner (within (Below (best_of n records winner)) n records) low' two in
    let order = standing_are_fewer n winner (within (AtMost (best_of n records winner)) n records) low' two in
    let le = (counted_stand n winner (within (AtMost (best_of n records winner)) n records)).0 in
    omega (arith, cover, order, le)

pub same_order : (a b : List ℕ) → Some a ≡ Some b → a ≡ b
same_order a b e = cc
