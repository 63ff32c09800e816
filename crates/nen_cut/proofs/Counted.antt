-- There are at most as many NENs as steps that leave some sets and that no NEB bars.
use Rattle.std.proofs.Common.{◌≡◌, ◌≢◌, ℕ, ◌<◌, ◌≤◌, Bool, false, not, ◌&&◌, inl, inr, List, [], ◌∷◌, ◌++◌, filter, get_or, length, refl, sym, ap, subst, arith, ◌∙◌}
use Rattle.std.proofs.lemmas.Bool.{and_parts, and_from, and_left, cases_Bool}
use Rattle.std.specs.List.{list_any}
use Rattle.std.proofs.lemmas.Grind.{get_or_default_zero}
use Rattle.assertions.specs.Certificate.{is_same}
use Rattle.std.proofs.lemmas.List.Sums.{length-filter}
use Rattle.irv_base.specs.Candidates.{candidates}
use Rattle.irv_base.proofs.Distinct.{Distinct, none as nothing_twice, more as one_more, distinct-le}
use Rattle.irv_base.proofs.Members.{Member, here, there, from_filter, from_flat_map, from_map, member-filter}
use Rattle.assertions.specs.declared.assertion.Assertion.{Assertion}
use Rattle.assertions.proofs.Sorted.{Sorted, none, more, sorted-filter, sorted-flat_map, sorted-from_pairs, sorted-map, sorted-range}
use Rattle.set_walk.specs.Dives.{is_seen}
use Rattle.fewest.specs.Cuts.{is_step, is_leaving}
use Rattle.fewest.specs.Flows.{is_barred, leaving_count, steps}
use Rattle.fewest.specs.Nens.{is_nen, is_new_nen, nen_count}
use Rattle.fewest.proofs.Counting.{nen_count-new, nen_count-old}
use Rattle.fewest.proofs.Flowing.{step-member}
use Rattle.nen_cut.specs.Cut.{is_cut, cut_steps, cut_steps_from}
use Rattle.nen_cut.proofs.Across.{cut-facts, standing-step}

abbrev Differ : {X : Type 0} → X → X → Type 0
Differ a b = a ≡ b → ⊥

distinct-from_sorted : {X : Type 0} {xs : List X} → Sorted Differ xs → Distinct xs
distinct-from_sorted none = nothing_twice
distinct-from_sorted (more {x = x} first s) = one_more (λ m. first x m refl) (distinct-from_sorted s)

module _ (n winner : ℕ) (records : List (List ℕ)) (floor : ℕ) (sets : List ℕ)
    (apart : (i k : ℕ) → i < k → k < length sets → get_or sets i 0 ≢ get_or sets k 0) where
  abbrev within : ℕ → Bool
  within = is_seen sets

  abbrev from-set : ℕ → List (ℕ × ℕ)
  from-set = cut_steps_from n winner records floor within

  sets-sorted : Sorted Differ sets
  sets-sorted =
      sorted-from_pairs Differ sets (λ i k d l m e.
      apart i k l m
      (sym (get_or_default_zero sets i d (omega (arith, l, m))) ∙ e ∙ get_or_default_zero sets k d m))

  steps-sorted : Sorted Differ (cut_steps n winner records floor sets)
  steps-sorted =
      sorted-flat_map Differ Differ from-set
      (λ set. sorted-map ◌<◌ Differ (λ c. (set, c)) (λ c d l e. let f = ap (λ (s : ℕ × ℕ). s.1) e in omega (arith, l, f))
      (sorted-filter ◌<◌ (is_cut n winner records floor within set) (sorted-range 0 n)))
      (λ set other x y differ m k e.
      let (c, _, p) = from_map (λ c. (set, c)) x (filter (is_cut n winner records floor within set) (candidates n)) m in
      let (d, _, q) = from_map (λ c. (other, c)) y (filter (is_cut n winner records floor within other) (candidates n)) k in
      differ (ap (λ (s : ℕ × ℕ). s.0) (p ∙ e ∙ sym q)))
      sets-sorted

  abbrev test : ℕ × ℕ → Bool
  test s = is_leaving within s.0 s.1 && not (is_barred n records floor s.0 s.1)

  step-leaves : (s : ℕ × ℕ) → Member s (cut_steps n winner records floor sets) → Member s (filter test (steps n winner))
  step-leaves s m =
      let (set, _, k) = from_flat_map from-set s sets m in
      let (c, l, e) = from_map (λ c. (set, c)) s (filter (is_cut n winner records floor within set) (candidates n)) k in
      let (_, t) = from_filter (is_cut n winner records floor within set) (candidates n) l in
      let h = cut-facts n winner records floor within set c t in
      let (_, free) = and_parts (is_step n winner set c) (not (is_barred n records floor set c)) h.standing in
      subst (λ s. Member s (filter test (steps n winner))) e
      (member-filter test (steps n winner) (step-member n winner set c (standing-step n winner records floor within set c h.standing))
      (and_from (is_leaving within set c) (not (is_barred n records floor set c)) h.leaving free))

  pub steps-few : length (cut_steps n winner records floor sets) ≤ leaving_count n winner records floor within
  steps-few =
      let a = distinct-le (cut_steps n winner records floor sets) (filter test (steps n winner)) (distinct-from_sorted steps-sorted) step-leaves in
      let b = length-filter test (steps n winner) in
      omega (arith, a, b)

-- ---- NENs of a list
pub nens-few : (list : List Assertion) → nen_count list ≤ length list
nens-few [] = omega arith
nens-few (a ∷ list) =
    let ih = nens-few list in
    elim (cases_Bool (is_new_nen list a)) [
      | inl t ↦ let e = nen_count-new a list t in omega (arith, e, ih)
      | inr f ↦ let e = nen_count-old a list f in omega (arith, e, ih)
    ]

pub nebs-none : (nebs nens : List Assertion) → ((a : Assertion) → Member a nebs → is_nen a ≡ false) → nen_count (nebs ++ nens) ≡ nen_count nens
nebs-none [] nens h = refl
nebs-none (a ∷ nebs) nens h =
    nen_count-old a (nebs ++ nens) (and_left (is_nen a) (not (list_any (λ b. is_same b a) (nebs ++ nens))) (h a here))
    ∙ nebs-none nebs nens (λ b m. h b (there m))
