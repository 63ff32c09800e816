-- The NEBs of a floor, with a NEN for each step that can be cut and that leaves the sets that a unit can reach, have the fewest NENs.
use Rattle.std.proofs.Common.{◌≡◌, ◌≢◌, ℕ, ◌<◌, Bool, true, false, not, ◌&&◌, ◌==◌, inl, inr, List, ◌++◌, map, get_or, length, refl, sym, ap, subst, arith, eq-eqb, eqb-true, ◌∙◌}
use Rattle.std.specs.List.{list_any, list_all}
use Rattle.std.proofs.lemmas.Bool.{and_parts, and_from, both_ways, cases_Bool, not-true, not_from_true, not_from_false, false_from_ne_true}
use Rattle.std.proofs.lemmas.List.{length-map}
use Rattle.std.proofs.lemmas.List.Folds.{list_all-append}
use Rattle.irv_base.specs.Candidates.{candidates, has}
use Rattle.irv_base.proofs.Members.{Member, candidate-member, from_filter, from_flat_map, from_list_any, from_map, list_all-each, list_any-member, member-filter, member-flat_map, member-map}
use Rattle.assertions.specs.declared.assertion.Assertion.{Assertion}
use Rattle.assertions.specs.declared.assertion.Assertion.TheVariants.{Neb}
use Rattle.assertions.specs.declared.assertion.Claim.{Claim}
use Rattle.assertions.specs.Steps.{more, is_anew}
use Rattle.set_walk.specs.Dives.{is_seen}
use Rattle.set_walk.specs.Walks.{passes}
use Rattle.fewest.specs.Apart.{HasFewest}
use Rattle.fewest.specs.Cuts.{is_step, is_leaving, IsCut}
use Rattle.fewest.specs.Flows.{is_barred, is_cuttable, IsFlow, IsFull}
use Rattle.fewest.specs.Growth.{IsStuck}
use Rattle.fewest.specs.Nens.{is_nen, is_enough}
use Rattle.fewest.proofs.Bounding.{full-fewest}
use Rattle.fewest.proofs.Flowing.{step_facts}
use Rattle.fewest.proofs.Growing.{stuck_is_full}
use Rattle.nen_cut.specs.Floors.{nebs, nebs_by, assertions_in}
use Rattle.nen_cut.specs.Cut.{is_cut, cut_steps, cut_steps_from, AreCutters, IsStepCutter}
use Rattle.nen_cut.proofs.Across.{cut-test}
use Rattle.nen_cut.proofs.Counted.{nebs-none, nens-few, steps-few}
use Rattle.nen_cut.proofs.Zips.{zip-length, zip-left, zip-right}

-- ---- the NEBs
module _ (n : ℕ) (records : List (List ℕ)) (floor : ℕ) where
  record IsOneNeb (a : Assertion) : Type 0 where
    pub winner : ℕ
    pub loser : ℕ
    pub is : Neb winner loser ≡ a
    pub enough : is_enough n records floor a ≡ true

  from-nebs : (a : Assertion) → Member a (nebs n records floor) → IsOneNeb a
  from-nebs a m =
      let (w, _, k) = from_flat_map (nebs_by n records floor) a (candidates n) m in
      let (k', e) = from_filter (is_enough n records floor) (map (Neb w) (candidates n)) k in
      let (l, _, same) = from_map (Neb w) a (candidates n) k' in
      record { winner = w; loser = l; is = same; enough = e }

  neb-not_nen : (a : Assertion) → Member a (nebs n records floor) → is_nen a ≡ false
  neb-not_nen a m = ap is_nen (sym (from-nebs a m).is)

  -- they bar each step that a NEB of the floor does
  barred-anew : (set c : ℕ) → c < n → is_barred n records floor set c ≡ true → passes (nebs n records floor) set c ≡ false
  barred-anew set c below b =
      let (w, m, t) = from_list_any (λ w. is_enough n records floor (Neb w c) && not (has (more set c) w)) (candidates n) b in
      let (enough, out) = and_parts (is_enough n records floor (Neb w c)) (not (has (more set c) w)) t in
      let k : Member (Neb w c) (nebs n records floor) =
      member-flat_map (nebs_by n records floor) m
      (member-filter (is_enough n records floor) (map (Neb w) (candidates n)) (member-map (Neb w) (candidate-member c n below)) enough) in
      not_from_true (list_any (λ a. is_anew a set c) (nebs n records floor))
      (list_any-member (λ a. is_anew a set c) {x = Neb w c} k (and_from (c == c) (not (has (more set c) w)) (eq-eqb c c refl) out))

module _ (n winner floor : ℕ) (records : List (List ℕ)) (flow : ℕ → ℕ → ℕ) (sets : List ℕ) (claims : List Claim) (some : 0 < n)
    (apart : (i k : ℕ) → i < k → k < length sets → get_or sets i 0 ≢ get_or sets k 0) (is : IsFlow n winner records floor flow)
    (cut : IsCut n (is_seen sets)) (stuck : IsStuck n winner records floor flow (is_seen sets))
    (are : AreCutters n records floor (cut_steps n winner records floor sets) claims) where
  abbrev within : ℕ → Bool
  within = is_seen sets

  abbrev from-set : ℕ → List (ℕ × ℕ)
  from-set = cut_steps_from n winner records floor within

  abbrev assertion-of : Claim → Assertion
  assertion-of claim = claim.assertion

  full : IsFull n winner records floor flow within
  full = stuck_is_full n winner floor records flow within is stuck

  nens-enough : (a : Assertion) → Member a (assertions_in claims) → is_enough n records floor a ≡ true
  nens-enough a m =
      let (claim, k, e) = from_map assertion-of a claims m in
      let (step, cutter) = zip-left (IsStepCutter n records floor) (cut_steps n winner records floor sets) claims claim are k in
      ap (is_enough n records floor) (sym e ∙ cutter.nen) ∙ cutter.strongest.enough

  -- a step that leaves the sets and that no NEB bars can be cut, since a unit can't move forward over it
  cuttable : (set c : ℕ) → is_step n winner set c ≡ true → is_leaving within set c ≡ true → is_barred n records floor set c ≡ false →
      is_cuttable n records floor set c ≡ true
  cuttable set c step leaves free =
      elim (cases_Bool (is_cuttable n records floor set c)) [
        | inl t ↦ t
        | inr f ↦
            let (w, out) = and_parts (within set) (not (within (more set c))) leaves in
            absurd (both_ways (within (more set c)) (not-true (within (more set c)) out)
            (stuck.on set c w
            (record { step = step; free = free; empty = λ t. absurd (both_ways (is_cuttable n records floor set c) f t) })))
      ]

  seen-member : (set : ℕ) → within set ≡ true → Member set sets
  seen-member set w =
      let (other, m, e) = from_list_any (λ other. set == other) sets w in
      subst (λ s. Member s sets) (sym (eqb-true set other e)) m

  cuts : (set c : ℕ) → is_step n winner set c ≡ true → is_leaving within set c ≡ true → passes (nebs n records floor) set c ≡ true →
      passes (assertions_in claims) set c ≡ false
  cuts set c step leaves pass =
      let s = step_facts n winner set c step in
      let free : is_barred n records floor set c ≡ false =
      false_from_ne_true (is_barred n records floor set c) (λ b.
      both_ways (passes (nebs n records floor) set c) (barred-anew n records floor set c s.below b) pass) in
      let (w, _) = and_parts (within set) (not (within (more set c))) leaves in
      let t : is_cut n winner records floor within set c ≡ true =
      cut-test n winner records floor within set c
      (record {
        leaving = leaves;
        standing = and_from (is_step n winner set c) (not (is_barred n records floor set c)) step (not_from_false (is_barred n records floor set c) free);
        cuttable = cuttable set c step leaves free;
      }) in
      let m : Member (set, c) (cut_steps n winner records floor sets) =
      member-flat_map from-set (seen-member set w)
      (member-map (λ c. (set, c)) (member-filter (is_cut n winner records floor within set) (candidates n) (candidate-member c n s.below) t)) in
      let (claim, k, cutter) = zip-right (IsStepCutter n records floor) (cut_steps n winner records floor sets) claims (set, c) are m in
      not_from_true (list_any (λ a. is_anew a set c) (assertions_in claims))
      (list_any-member (λ a. is_anew a set c) {x = claim.assertion} (member-map assertion-of k)
      (ap (λ a. is_anew a set c) cutter.nen ∙ and_from (c == c) (more set c == more set c) (eq-eqb c c refl) (eq-eqb (more set c) (more set c) refl)))

  pub has-fewest : HasFewest n winner records floor (nebs n records floor ++ assertions_in claims)
  has-fewest =
      let a = nebs-none (nebs n records floor) (assertions_in claims) (neb-not_nen n records floor) in
      let b = nens-few (assertions_in claims) in
      let c = length-map claims assertion-of in
      let d = zip-length (IsStepCutter n records floor) (cut_steps n winner records floor sets) claims are in
      let e = steps-few n winner records floor sets apart in
      full-fewest n winner floor records flow is within cut full (nebs n records floor) (assertions_in claims) some cuts
      (list_all-append (is_enough n records floor) (nebs n records floor) (assertions_in claims)
      ∙ and_from (list_all (is_enough n records floor) (nebs n records floor)) (list_all (is_enough n records floor) (assertions_in claims))
      (list_all-each (is_enough n records floor) (nebs n records floor) (λ x m. (from-nebs n records floor x m).enough))
      (list_all-each (is_enough n records floor) (assertions_in claims) nens-enough))
      (omega (arith, a, b, c, d, e))
