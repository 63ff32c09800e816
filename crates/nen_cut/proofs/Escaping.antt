-- An order that walks by steps that no assertion of the floor refutes.
use Rattle.std.proofs.Common.{◌≡◌, ℕ, Bool, true, not, nat_lt, if◌then◌else◌, inl, inr, List, [], ◌∷◌, length, Some, Ok, Err, refl, ap, ◌∙◌}
use Rattle.std.specs.List.{list_any}
use Rattle.std.proofs.lemmas.Bool.{and_parts, and_from, both_ways, cases_Bool, not-true, not_from_false, false_from_ne_true}
use Rattle.irv_base.specs.Candidates.{set_of}
use Rattle.irv_base.proofs.Members.{Member, from_find, from_list_all, from_list_any}
use Rattle.assertions.specs.declared.assertion.Assertion.{Assertion}
use Rattle.assertions.specs.declared.assertion.Assertion.TheVariants.{Neb, Nen}
use Rattle.assertions.specs.Refutation.{refutes}
use Rattle.assertions.specs.Steps.{is_anew}
use Rattle.assertions.specs.Suffixes.{alternative_orders}
use Rattle.set_walk.specs.Answers.{first_within}
use Rattle.set_walk.specs.Walks.{walks, passes, first_by_sets, counted}
use Rattle.set_walk.specs.declared.walk.WalkFault.TheVariants.{Spent}
use Rattle.set_walk.proofs.Firsts.{first_is}
use Rattle.set_walk.proofs.Orders.{alternative-suffix}
use Rattle.set_walk.proofs.Walking.{stands-walks}
use Rattle.fewest.specs.Apart.{IsComplete}
use Rattle.fewest.specs.Cuts.{is_step}
use Rattle.fewest.specs.Flows.{is_barred, is_cuttable}
use Rattle.fewest.specs.Nens.{is_enough}
use Rattle.fewest.proofs.Bounding.{neb-bars, nen-cuts}
use Rattle.nen_cut.specs.Floors.{escapes, stands}

module _ (n winner floor : ℕ) (records : List (List ℕ)) where
  abbrev may : ℕ → ℕ → Bool
  may = escapes n winner records floor

  none-anew : (set c : ℕ) → may set c ≡ true → (a : Assertion) → is_enough n records floor a ≡ true → is_anew a set c ≡ true → ⊥
  none-anew set c t (Neb w l) e r =
      let (standing, _) = and_parts (stands n winner records floor set c) (not (is_cuttable n records floor set c)) t in
      let (_, free) = and_parts (is_step n winner set c) (not (is_barred n records floor set c)) standing in
      both_ways (is_barred n records floor set c) (not-true (is_barred n records floor set c) free) (neb-bars n records floor w l set c e r)
  none-anew set c t (Nen w l rest) e r =
      let (_, free) = and_parts (stands n winner records floor set c) (not (is_cuttable n records floor set c)) t in
      both_ways (is_cuttable n records floor set c) (not-true (is_cuttable n records floor set c) free) (nen-cuts n records floor w l rest set c e r)

  module _ (list : List Assertion) (complete : IsComplete n winner records floor list) where
    passing : (set c : ℕ) → may set c ≡ true → passes list set c ≡ true
    passing set c t =
        not_from_false (list_any (λ a. is_anew a set c) list)
        (false_from_ne_true (list_any (λ a. is_anew a set c) list) (λ u.
        let (a, m, r) = from_list_any (λ a. is_anew a set c) list u in
        none-anew set c t a (from_list_all (is_enough n records floor) m complete.enough) r))

    walking : (t : List ℕ) → walks may t ≡ true → walks (passes list) t ≡ true
    walking [] w = refl
    walking (c ∷ t) w =
        let (a, b) = and_parts (may (set_of t) c) (walks may t) w in
        and_from (passes list (set_of t) c) (walks (passes list) t) (passing (set_of t) c a) (walking t b)

    escaped : (order : List ℕ) → Member order (alternative_orders n winner) → walks may order ≡ true → ⊥
    escaped order m w =
        both_ways (list_any (λ a. refutes a order) list)
        (not-true (list_any (λ a. refutes a order) list) (stands-walks n list order (alternative-suffix n winner order m) ∙ walking order w))
        (from_list_all (λ order. list_any (λ a. refutes a order) list) m complete.covering)

  pub found-uncovered : (sets : ℕ) (order : List ℕ) → first_within n winner sets may ≡ Ok (Some order) → (list : List Assertion) →
      IsComplete n winner records floor list → ⊥
  found-uncovered sets order e list complete =
      elim (cases_Bool (nat_lt sets (length (counted n winner may)))) [
        | inl t ↦ let f = ap (λ b. if b then Err Spent else Ok (first_by_sets n winner may)) t in absurd (cc)
        | inr f ↦
            let g = ap (λ b. if b then Err Spent else Ok (first_by_sets n winner may)) f in
            let h : first_by_sets n winner may ≡ Some order = cc in
            let (m, w) = from_find (walks may) order (alternative_orders n winner) (first_is n may winner ∙ h) in
            escaped list complete order m w
      ]
