-- The sets that the NEBs leave standing, walked up to those that lack a candidate.
use Rattle.std.proofs.Common.{◌≡◌, ◌≢◌, ℕ, ◌^◌, ◌<◌, ◌≤◌, Bool, true, false, not, ◌&&◌, ◌==◌, nat_lt, if◌then◌else◌, inl, inr, List, [], ◌∷◌, length, Option, Some, None, Ok, Err, refl, sym, ap, arith, eq-eqb, ne_eqb, ltb-true, ltb-false, ◌∙◌}
use Rattle.std.specs.List.{range_with_len}
use Rattle.std.proofs.lemmas.Bool.{and_parts, both_ways, cases_Bool, not-true}
use Rattle.assertions.specs.Steps.{more}
use Rattle.assertions.specs.Suffixes.{alternative_orders, alternative_suffixes}
use Rattle.assertions.proofs.Agreeing.{any-same, filter-same}
use Rattle.assertions.proofs.Anew.{same-long}
use Rattle.assertions.proofs.Enumerated.{suffix_test}
use Rattle.irv_base.specs.Candidates.{candidates, set_of}
use Rattle.irv_base.specs.Suffixes.{is_suffix}
use Rattle.irv_base.proofs.Distinct.{distinct-range, length-range}
use Rattle.irv_base.proofs.Members.{Member, from_candidates, from_find}
use Rattle.irv_base.proofs.Sets.{set_of-cons}
use Rattle.irv_base.proofs.Suffixes.{suffix-rest}
use Rattle.set_walk.specs.Answers.{first_within}
use Rattle.set_walk.specs.Walks.{walks, first_by_sets, counted, standing, is_standing}
use Rattle.set_walk.specs.declared.walk.WalkFault.TheVariants.{Spent}
use Rattle.set_walk.proofs.Counted.{counted_stand}
use Rattle.set_walk.proofs.Firsts.{first_is}
use Rattle.set_walk.proofs.Standing.{from_others}
use Rattle.fewest.specs.Flows.{is_barred}
use Rattle.fewest.proofs.Cutting.{set-of_order}
use Rattle.fewest.proofs.Reached.{all-some}
use Rattle.nen_cut.specs.Floors.{sets_beside}
use Rattle.nen_cut.specs.Budgets.{passes_short}

module _ (n winner : ℕ) (records : List (List ℕ)) (floor all : ℕ) (is-all : all ≡ set_of (candidates n)) where
  abbrev free : ℕ → ℕ → Bool
  free set c = not (is_barred n records floor set c)

  abbrev short : ℕ → ℕ → Bool
  short = passes_short n records floor all

  -- no order walks, since its last step leads to the set of all
  not-whole : (order : List ℕ) → Member order (alternative_orders n winner) → 0 < n → walks short order ≡ true → ⊥
  not-whole [] m some w = absurd (all-not_none some (sym (set-of_order n winner [] m)))
    where
      all-not_none : 0 < n → set_of (candidates n) ≡ 0 → ⊥
      all-not_none some z = both_ways (set_of (candidates n) == 0) (all-some n some) (eq-eqb (set_of (candidates n)) 0 z)
  not-whole (c ∷ t) m some w =
      let (goes, _) = and_parts (short (set_of t) c) (walks short t) w in
      let (_, other) = and_parts (free (set_of t) c) (not (more (set_of t) c == all)) goes in
      both_ways (more (set_of t) c == all) (not-true (more (set_of t) c == all) other)
      (eq-eqb (more (set_of t) c) all (sym (set_of-cons c t) ∙ set-of_order n winner (c ∷ t) m ∙ sym is-all))

  none-first : 0 < n → first_by_sets n winner short ≡ None
  none-first some = by (first_by_sets n winner short) refl
    where
      by : (o : Option (List ℕ)) → first_by_sets n winner short ≡ o → first_by_sets n winner short ≡ None
      by None e = e
      by (Some order) e =
          let (m, w) = from_find (walks short) order (alternative_orders n winner) (first_is n short winner ∙ e) in
          absurd (not-whole order m some w)

  -- a suffix that isn't whole walks by both
  same-walks : (t : List ℕ) → is_suffix n t ≡ true → length t < n → walks short t ≡ walks free t
  same-walks [] proper few = refl
  same-walks (c ∷ t) proper few =
      let rest = suffix-rest n c t proper in
      let ih = same-walks t rest (omega (arith, few)) in
      let other : more (set_of t) c ≢ all = λ e.
      let l = same-long n (c ∷ t) (candidates n) proper (suffix_test (record { apart = distinct-range 0 n; below = λ c m. from_candidates m }))
      (set_of-cons c t ∙ e ∙ is-all) in
      let k = length-range 0 n in
      omega (arith, l, k, few) in
      ap (λ b. (free (set_of t) c && not b) && walks short t) (ne_eqb (more (set_of t) c) all other)
      ∙ ap (λ b. b && walks short t) (and-yes (free (set_of t) c))
      ∙ ap (λ b. free (set_of t) c && b) ih
    where
      and-yes : (b : Bool) → (b && true) ≡ b
      and-yes true = refl
      and-yes false = refl

  same-standing : standing n winner short ≡ standing n winner free
  same-standing =
      filter-same (is_standing n winner short) (is_standing n winner free) (range_with_len 0 (2 ^ n)) (λ set m.
      any-same (λ t. nat_lt (length t) n && ((set_of t == set) && walks short t)) (λ t. nat_lt (length t) n && ((set_of t == set) && walks free t))
      (alternative_suffixes n winner) (λ t k.
      elim (cases_Bool (nat_lt (length t) n)) [
        | inl l ↦
            ap (λ b. nat_lt (length t) n && ((set_of t == set) && b)) (same-walks t (from_others n winner t k).proper (ltb-true (length t) n l))
        | inr f ↦ ap (λ b. b && ((set_of t == set) && walks short t)) f ∙ sym (ap (λ b. b && ((set_of t == set) && walks free t)) f)
      ]))

  same-count : 0 < n → length (counted n winner short) ≡ sets_beside n records winner floor
  same-count some = ap length ((counted_stand n winner short).1 (none-first some) ∙ same-standing)

  module _ (sets : ℕ) (some : 0 < n) where
    pub short-ended : first_within n winner sets short ≡ Ok None → sets_beside n records winner floor ≤ sets
    short-ended e =
        let l = same-count some in
        elim (cases_Bool (nat_lt sets (length (counted n winner short)))) [
          | inl t ↦ let f = ap (λ b. if b then Err Spent else Ok (first_by_sets n winner short)) t in absurd (cc)
          | inr f ↦ let k = ltb-false sets (length (counted n winner short)) f in omega (arith, l, k)
        ]

    pub short-found : (order : List ℕ) → first_within n winner sets short ≡ Ok (Some order) → ⊥
    short-found order e =
        let z = none-first some in
        elim (cases_Bool (nat_lt sets (length (counted n winner short)))) [
          | inl t ↦ let f = ap (λ b. if b then Err Spent else Ok (first_by_sets n winner short)) t in absurd (cc)
          | inr f ↦ let g = ap (λ b. if b then Err Spent else Ok (first_by_sets n winner short)) f in absurd (cc)
        ]

    pub short-spent : first_within n winner sets short ≡ Err Spent → sets < sets_beside n records winner floor
    short-spent e =
        let l = same-count some in
        elim (cases_Bool (nat_lt sets (length (counted n winner short)))) [
          | inl t ↦ let k = ltb-true sets (length (counted n winner short)) t in omega (arith, l, k)
          | inr f ↦ let g = ap (λ b. if b then Err Spent else Ok (first_by_sets n winner short)) f in absurd (cc)
        ]
