-- How what is left of the draws follows from what is left of the later ones.
use Rattle.std.proofs.Common.{◌≡◌, ℕ, ◌+◌, ◌<◌, Bool, true, false, if◌then◌else◌, List, [], ◌∷◌, ◌++◌, length, get_or, take, drop, reverse, All, Option, Some, None, Ok, sym, ap, ap₂, subst, arith, ◌∙◌}
use Rattle.std.specs.Prelude.{option_map, slice_index_or, IfSome}
use Rattle.std.proofs.lemmas.List.{drop_more, take_more, drop_all, length-take-le, reverse-append}
use Rattle.budget.specs.declared.budget.Budget.{Budget}
use Rattle.assertions.specs.declared.assertion.Claim.{Claim}
use Rattle.assertion_file.specs.Content.{Content, Plan, IsDrawCount, IsSoundPlan}
use Rattle.trimmer.specs.Trimmed.{can_go, covered_by, draws_left, left_of, trial as trial_of, unless_gone}
use Rattle.trimmer.proofs.Draws.{draws-all, draws-many}
use Rattle.trimmer.proofs.TrialSteps.{left_from, trial}

-- facts that are shown as the plan
pub shown-some : {F : Type 0} (shown : F → Plan) (P : Plan → Type 0) (facts : Option F) (plan : Option Plan) → option_map shown facts ≡ plan →
    IfSome facts (λ f. P (shown f)) → IfSome plan P
shown-some shown P None plan e h = subst (λ plan. IfSome plan P) e tt
shown-some shown P (Some f) plan e h = subst (λ plan. IfSome plan P) e h

-- the plan of a file has draws for each claim
pub fits-at : {F : Type 0} (shown : F → Plan) (records claims i : ℕ) (facts : Option F) → i < claims →
    IfSome facts (λ f. IsSoundPlan records claims (shown f)) → IfSome facts (λ f. i < length (shown f).draws)
fits-at shown records claims i None within h = tt
fits-at shown records claims i (Some f) within h = let each = h.each in omega (arith, each, within)

module _ (budget : Budget) (file : Content) (claims : List Claim) where
  -- what is left of the draws from this number on
  abbrev pub draws_from : ℕ → List (Option ℕ) → List (Option ℕ)
  draws_from i draws = draws_left budget file (take i claims) (drop i claims) (drop i draws)

  next : (i : ℕ) (d : Claim) (e : Option ℕ) (draws : List (Option ℕ)) (left : List Claim) (goes : Bool) → i < length claims → i < length draws →
      left_from budget file claims (i + 1) ≡ Ok left → Ok goes ≡ trial budget file claims i left →
      draws_from i draws ≡ (if goes then draws_from (i + 1) draws else get_or draws i e ∷ draws_from (i + 1) draws)
  next i d e draws left goes l k h told =
      let first = get_or draws i e in
      let more = drop (i + 1) draws in
      ap₂ (draws_left budget file (take i claims)) (drop_more claims i d l) (drop_more draws i e k)
      ∙ ap (λ earlier. unless_gone first (draws_left budget file earlier (drop (i + 1) claims) more)
      (trial_of budget file (take i claims) (left_of budget file earlier (drop (i + 1) claims)))) (sym (take_more claims i d l))
      ∙ ap (λ r. unless_gone first (draws_from (i + 1) draws) (trial_of budget file (take i claims) r)) h
      ∙ ap (λ n. unless_gone first (draws_from (i + 1) draws) (can_go (n + 1) (covered_by budget file (take i claims ++ left))))
      (length-take-le i claims (omega arith))
      ∙ ap (unless_gone first (draws_from (i + 1) draws)) (sym told)

  abbrev pub AreLeft : ℕ → List (Option ℕ) → Plan → Type 0
  AreLeft i left plan = draws_from i plan.draws ≡ reverse left

  -- before the first trial
  pub draws-start : (n : ℕ) (plan : Option Plan) (left : List (Option ℕ)) → length claims ≡ n → left ≡ [] → IfSome plan (AreLeft n left)
  draws-start n None left e none = tt
  draws-start n (Some plan) left e none =
      ap (λ later. draws_left budget file (take n claims) later (drop n plan.draws)) (drop_all n claims (omega arith)) ∙ ap reverse (sym none)

  -- if a claim is dropped
  pub draws-gone : (i : ℕ) (d : Claim) (plan : Option Plan) (left : List Claim) (draws : List (Option ℕ)) → i < length claims →
      IfSome plan (λ plan. i < length plan.draws) → left_from budget file claims (i + 1) ≡ Ok left → Ok true ≡ trial budget file claims i left →
      IfSome plan (AreLeft (i + 1) draws) → IfSome plan (AreLeft i draws)
  draws-gone i d None left draws l k h told behind = tt
  draws-gone i d (Some plan) left draws l k h told behind = next i d None plan.draws left true l k h told ∙ behind

  -- if it is kept
  pub draws-kept : (i : ℕ) (d : Claim) (plan : Option Plan) (left : List Claim) (draws pushed : List (Option ℕ)) → i < length claims →
      IfSome plan (λ plan. i < length plan.draws) → left_from budget file claims (i + 1) ≡ Ok left → Ok false ≡ trial budget file claims i left →
      IfSome plan (AreLeft (i + 1) draws) → IfSome plan (λ plan. pushed ≡ draws ++ slice_index_or plan.draws i None ∷ []) → IfSome plan (AreLeft i pushed)
  draws-kept i d None left draws pushed l k h told behind more = tt
  draws-kept i d (Some plan) left draws pushed l k h told behind more =
      let own = get_or plan.draws i None in
      next i d None plan.draws left false l k h told ∙ ap (λ later. own ∷ later) behind
      ∙ sym (reverse-append draws (own ∷ [])) ∙ ap reverse (sym more)

  -- after all claims have been tried
  pub draws-end : (j : ℕ) (plan : Option Plan) (left turned : List (Option ℕ)) → 0 ≡ j → turned ≡ reverse left → IfSome plan (AreLeft j left) →
      IfSome plan (λ plan. draws_left budget file [] claims plan.draws ≡ turned)
  draws-end j plan left turned none same h =
      subst (λ turned. IfSome plan (λ plan. draws_left budget file [] claims plan.draws ≡ turned)) (sym same)
      (subst (λ j. IfSome plan (AreLeft j left)) (sym none) h)

module _ (budget : Budget) (file : Content) (left : List Claim) (draws : List (Option ℕ)) (whole : left_of budget file [] file.claims ≡ Ok left) where
  pub each-left : (plan : Option Plan) → IfSome plan (IsSoundPlan file.records (length file.claims)) →
      IfSome plan (λ plan. draws_left budget file [] file.claims plan.draws ≡ draws) → IfSome plan (λ _. length draws ≡ length left)
  each-left None fits are = tt
  each-left (Some plan) fits are = ap length (sym are) ∙ draws-many budget file [] file.claims left plan.draws whole fits.each

  pub few-left : (plan : Option Plan) → IfSome plan (IsSoundPlan file.records (length file.claims)) →
      IfSome plan (λ plan. draws_left budget file [] file.claims plan.draws ≡ draws) → IfSome plan (λ _. All (λ draws. IfSome draws IsDrawCount) draws)
  few-left None fits are = tt
  few-left (Some plan) fits are =
      subst (All (λ draws. IfSome draws IsDrawCount)) are
      (draws-all budget file (λ draws. IfSome draws IsDrawCount) [] file.claims left plan.draws whole fits.draws)
