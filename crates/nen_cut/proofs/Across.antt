-- The steps that leave some sets, candidate by candidate and set by set.
use Rattle.std.proofs.Common.{◌≡◌, ℕ, ◌+◌, ◌<◌, Bool, true, false, cond, not, ◌&&◌, List, [], ◌∷◌, ◌++◌, map, filter, flat_map, get_or, length, take, sym, ap, subst, ◌∙◌}
use Rattle.std.proofs.lemmas.Bool.{and_parts, and_from, both_ways, not-true, not_from_false, false_from_ne_true}
use Rattle.std.proofs.lemmas.List.{append-nil, append_assoc, map-append, take_more}
use Rattle.std.proofs.lemmas.List.Elements.{filter-append}
use Rattle.std.proofs.lemmas.Grind.{flat_map-append}
use Rattle.irv_base.specs.Candidates.{candidates, has}
use Rattle.irv_base.proofs.Ranges.{candidates-more}
use Rattle.assertions.specs.declared.assertion.Claim.{Claim}
use Rattle.assertions.specs.Steps.{more}
use Rattle.fewest.specs.Cuts.{is_step, is_leaving}
use Rattle.fewest.specs.Flows.{is_barred, is_cuttable}
use Rattle.fewest.proofs.Flowing.{step_facts}
use Rattle.nen_cut.specs.Floors.{stands}
use Rattle.nen_cut.specs.Cut.{is_cut, cut_steps_from, AreCutters, IsStepCutter}
use Rattle.nen_cut.proofs.Zips.{zip-push}

filter-more : (p : ℕ → Bool) (k : ℕ) → filter p (candidates (k + 1)) ≡ filter p (candidates k) ++ cond (p k) (k ∷ []) []
filter-more p k = ap (filter p) (candidates-more k) ∙ filter-append p (candidates k) (k ∷ [])

pub filter-yes : (p : ℕ → Bool) (k : ℕ) → p k ≡ true → filter p (candidates (k + 1)) ≡ filter p (candidates k) ++ k ∷ []
filter-yes p k t = filter-more p k ∙ ap (λ b. filter p (candidates k) ++ cond b (k ∷ []) []) t

pub filter-no : (p : ℕ → Bool) (k : ℕ) → p k ≡ false → filter p (candidates (k + 1)) ≡ filter p (candidates k)
filter-no p k f = filter-more p k ∙ ap (λ b. filter p (candidates k) ++ cond b (k ∷ []) []) f ∙ append-nil (filter p (candidates k))

module _ (n winner : ℕ) (records : List (List ℕ)) (floor : ℕ) (within : ℕ → Bool) where
  module _ (set : ℕ) (before : List (ℕ × ℕ)) (claims : List Claim) (c : ℕ) where
    abbrev p : ℕ → Bool
    p = is_cut n winner records floor within set

    abbrev so_far : ℕ → List (ℕ × ℕ)
    so_far c = before ++ map (λ c. (set, c)) (filter p (candidates c))

    pub across-no : AreCutters n records floor (so_far c) claims → p c ≡ false → AreCutters n records floor (so_far (c + 1)) claims
    across-no are f =
        subst (λ l. AreCutters n records floor (before ++ map (λ c. (set, c)) l) claims) (sym (filter-no p c f)) are

    pub across-yes : (claim : Claim) → AreCutters n records floor (so_far c) claims → p c ≡ true → IsStepCutter n records floor (set, c) claim →
        AreCutters n records floor (so_far (c + 1)) (claims ++ claim ∷ [])
    across-yes claim are t is =
        let e : so_far (c + 1) ≡ so_far c ++ (set, c) ∷ [] =
        ap (λ l. before ++ map (λ c. (set, c)) l) (filter-yes p c t)
        ∙ ap (λ l. before ++ l) (map-append (λ c. (set, c)) (filter p (candidates c)) (c ∷ []))
        ∙ sym (append_assoc before (map (λ c. (set, c)) (filter p (candidates c))) ((set, c) ∷ [])) in
        subst (λ l. AreCutters n records floor l (claims ++ claim ∷ [])) (sym e)
        (zip-push (IsStepCutter n records floor) (so_far c) claims (set, c) claim are is)

  -- one more set
  pub sets-more : (sets : List ℕ) (k : ℕ) → k < length sets →
      flat_map (cut_steps_from n winner records floor within) (take (k + 1) sets)
      ≡ flat_map (cut_steps_from n winner records floor within) (take k sets) ++ cut_steps_from n winner records floor within (get_or sets k 0)
  sets-more sets k l =
      ap (flat_map (cut_steps_from n winner records floor within)) (take_more sets k 0 l)
      ∙ flat_map-append (cut_steps_from n winner records floor within) (take k sets) (get_or sets k 0 ∷ [])
      ∙ ap (λ x. flat_map (cut_steps_from n winner records floor within) (take k sets) ++ x)
      (append-nil (cut_steps_from n winner records floor within (get_or sets k 0)))

-- an element more that passes, of a map
pub map-yes : {X : Type 0} (p : X → Bool) (f : ℕ → X) (k : ℕ) → p (f k) ≡ true →
    filter p (map f (candidates (k + 1))) ≡ filter p (map f (candidates k)) ++ f k ∷ []
map-yes p f k t =
    ap (λ l. filter p (map f l)) (candidates-more k) ∙ ap (filter p) (map-append f (candidates k) (k ∷ []))
    ∙ filter-append p (map f (candidates k)) (f k ∷ []) ∙ ap (λ b. filter p (map f (candidates k)) ++ cond b (f k ∷ []) []) t

pub map-no : {X : Type 0} (p : X → Bool) (f : ℕ → X) (k : ℕ) → p (f k) ≡ false → filter p (map f (candidates (k + 1))) ≡ filter p (map f (candidates k))
map-no p f k fails =
    ap (λ l. filter p (map f l)) (candidates-more k) ∙ ap (filter p) (map-append f (candidates k) (k ∷ []))
    ∙ filter-append p (map f (candidates k)) (f k ∷ []) ∙ ap (λ b. filter p (map f (candidates k)) ++ cond b (f k ∷ []) []) fails
    ∙ append-nil (filter p (map f (candidates k)))

pub flat-more : {X : Type 0} (f : ℕ → List X) (k : ℕ) → flat_map f (candidates (k + 1)) ≡ flat_map f (candidates k) ++ f k
flat-more f k =
    ap (flat_map f) (candidates-more k) ∙ flat_map-append f (candidates k) (k ∷ []) ∙ ap (λ l. flat_map f (candidates k) ++ l) (append-nil (f k))

-- which steps aren't cut
module _ (n winner : ℕ) (records : List (List ℕ)) (floor : ℕ) (within : ℕ → Bool) (set c : ℕ) where
  abbrev cut : Bool
  cut = is_cut n winner records floor within set c

  pub record IsCutStep : Type 0 where
    pub leaving : is_leaving within set c ≡ true
    pub standing : stands n winner records floor set c ≡ true
    pub cuttable : is_cuttable n records floor set c ≡ true

  pub cut-facts : cut ≡ true → IsCutStep
  cut-facts t =
      let (l, r) = and_parts (is_leaving within set c) (stands n winner records floor set c && is_cuttable n records floor set c) t in
      let (s, u) = and_parts (stands n winner records floor set c) (is_cuttable n records floor set c) r in
      record { leaving = l; standing = s; cuttable = u }

  pub cut-test : IsCutStep → cut ≡ true
  cut-test h =
      and_from (is_leaving within set c) (stands n winner records floor set c && is_cuttable n records floor set c) h.leaving
      (and_from (stands n winner records floor set c) (is_cuttable n records floor set c) h.standing h.cuttable)

  pub standing-step : stands n winner records floor set c ≡ true → is_step n winner set c ≡ true
  standing-step t = (and_parts (is_step n winner set c) (not (is_barred n records floor set c)) t).0

  pub cut-not_in : has set c ≡ true → cut ≡ false
  cut-not_in t =
      false_from_ne_true cut (λ u.
      both_ways (has set c) (step_facts n winner set c (standing-step (cut-facts u).standing)).out t)

  pub cut-not_within : within (more set c) ≡ true → cut ≡ false
  cut-not_within t =
      false_from_ne_true cut (λ u.
      let (_, out) = and_parts (within set) (not (within (more set c))) (cut-facts u).leaving in
      both_ways (within (more set c)) (not-true (within (more set c)) out) t)

  pub cut-not_standing : stands n winner records floor set c ≡ false → cut ≡ false
  cut-not_standing f = false_from_ne_true cut (λ u. both_ways (stands n winner records floor set c) f (cut-facts u).standing)

  pub cut-not_cuttable : is_cuttable n records floor set c ≡ false → cut ≡ false
  cut-not_cuttable f = false_from_ne_true cut (λ u. both_ways (is_cuttable n records floor set c) f (cut-facts u).cuttable)

  pub leaving-from : within set ≡ true → within (more set c) ≡ false → is_leaving within set c ≡ true
  leaving-from w o = and_from (within set) (not (within (more set c))) w (not_from_false (within (more set c)) o)
