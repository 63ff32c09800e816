-- The claims of a file, each with what is said about its draws.
use Rattle.std.proofs.Common.{◌≡◌, ℕ, suc, ◌<◌, Bool, true, false, List, [], ◌∷◌, length, get_or, map, All, Option, Some, None, refl, sym, ap, ap₂, ◌∙◌, arith}
use Rattle.std.specs.Prelude.{zip, is_some, option_map, slice_index_or, unwrap_or, IfSome}
use Rattle.std.proofs.lemmas.List.{get_or-map, length-map}
use Rattle.std.proofs.lemmas.List.Elements.{All-nil, All-cons, All-map}
use Rattle.std.proofs.lemmas.Slice.Zip.{get_or-zip, firsts-zip, length-zip, seconds-zip}
use Rattle.assertions.specs.declared.assertion.Claim.{Claim}
use Rattle.assertion_file.specs.Content.{Plan, IsDrawCount, IsSoundClaim, IsSoundPlan}
use Rattle.assertion_file.specs.Reading.{claim_in, plan_with}
use Rattle.assertion_file.specs.Text.{told_of}
use Rattle.assertion_file.specs.declared.claims.Planned.{Planned}
use Rattle.assertion_file.specs.declared.members.Terms.{Terms}

abbrev pub Told : Type 0
Told = Claim × Option (Option ℕ)

-- ---- by place

abbrev pub HasEach : List Claim → Plan → Type 0
HasEach claims plan = length plan.draws ≡ length claims

abbrev with_draws : Claim × Option ℕ → Told
with_draws planned = (planned.0, Some planned.1)

abbrev without_draws : Claim → Told
without_draws claim = (claim, None)

pub length-told : (plan : Option Plan) (claims : List Claim) → IfSome plan (HasEach claims) → length (told_of plan claims) ≡ length claims
length-told None claims each = length-map claims without_draws
length-told (Some plan) claims each =
    length-map (zip claims plan.draws) with_draws ∙ omega (arith, length-zip claims plan.draws, each)

pub told-at : (plan : Option Plan) (claims : List Claim) (i : ℕ) (claim : Claim) (draws : Option (Option ℕ)) → IfSome plan (HasEach claims) →
    i < length claims → claim ≡ get_or claims i claim → draws ≡ option_map (λ plan. slice_index_or plan.draws i None) plan →
    (claim, draws) ≡ get_or (told_of plan claims) i (claim, draws)
told-at None claims i claim draws each within is e =
    ap₂ (λ (c : Claim) (d : Option (Option ℕ)). (c, d)) is e ∙ sym (get_or-map without_draws claims i claim (claim, draws) within)
told-at (Some plan) claims i claim draws each within is e =
    let inside : i < length plan.draws = omega (arith, each, within) in
    let both : i < length (zip claims plan.draws) = omega (arith, length-zip claims plan.draws, each, within) in
    ap₂ (λ (c : Claim) (d : Option (Option ℕ)). (c, d)) is e
    ∙ sym (get_or-map with_draws (zip claims plan.draws) i (claim, None) (claim, draws) both
    ∙ ap with_draws (get_or-zip claims plan.draws i (claim, None) within inside))

-- facts that are shown as a plan
module _ {F : Type 0} (shown : F → Plan) where
  pub each-shown : (facts : Option F) (claims : List Claim) → IfSome facts (λ f. HasEach claims (shown f)) →
      IfSome (option_map shown facts) (HasEach claims)
  each-shown None claims h = tt
  each-shown (Some f) claims h = h

  pub draws-shown : (facts : Option F) (i : ℕ) →
      option_map (λ f. slice_index_or (shown f).draws i None) facts ≡ option_map (λ plan. slice_index_or plan.draws i None) (option_map shown facts)
  draws-shown None i = refl
  draws-shown (Some f) i = refl

-- ---- what is true of each

-- a sound claim with draws within the limit, which are said if there is a plan
pub record IsSoundTold (n records : ℕ) (planned : Bool) (told : Told) : Type 0 where
  pub claim : IsSoundClaim n records told.0
  pub draws : IfSome (unwrap_or told.1 None) IsDrawCount
  pub flag : is_some told.1 ≡ planned

All-zip : {A B : Type 0} (P : A → Type 0) (Q : B → Type 0) (xs : List A) (ys : List B) → All P xs → All Q ys →
    All (λ (pair : A × B). P pair.0 × Q pair.1) (zip xs ys)
All-zip {A} {B} P Q [] ys p q = All-nil (λ (pair : A × B). P pair.0 × Q pair.1)
All-zip {A} {B} P Q (x ∷ xs) [] p q = All-nil (λ (pair : A × B). P pair.0 × Q pair.1)
All-zip {A} {B} P Q (x ∷ xs) (y ∷ ys) p q =
    All-cons (λ (pair : A × B). P pair.0 × Q pair.1) (x, y) (zip xs ys) (p 0 x (omega arith), q 0 y (omega arith))
    (All-zip P Q xs ys (λ i d within. p (suc i) d (omega (arith, within))) (λ i d within. q (suc i) d (omega (arith, within))))

pub told-sound : (n records : ℕ) (plan : Option Plan) (claims : List Claim) → All (IsSoundClaim n records) claims →
    IfSome plan (IsSoundPlan records (length claims)) → All (IsSoundTold n records (is_some plan)) (told_of plan claims)
told-sound n records None claims sound fits =
    All-map (IsSoundTold n records false) without_draws claims (λ i d within. record { claim = sound i d within; draws = tt; flag = refl })
told-sound n records (Some plan) claims sound fits =
    let all = All-zip (IsSoundClaim n records) (λ draws. IfSome draws IsDrawCount) claims plan.draws sound fits.draws in
    All-map (IsSoundTold n records true) with_draws (zip claims plan.draws)
    (λ i d within. let (claim, draws) = all i d within in record { claim = claim; draws = draws; flag = refl })

-- ---- as they are read

abbrev pub planned_of : Told → Planned
planned_of told = record { assertion = told.0.assertion; margin = told.0.margin; draws = unwrap_or told.1 None }

abbrev pub terms_for : Plan → Terms
terms_for plan = record { cards = plan.cards; gamma = plan.gamma; limit = plan.limit }

claims-told : (claims : List Claim) → map claim_in (map planned_of (map without_draws claims)) ≡ claims
claims-told [] = refl
claims-told (claim ∷ claims) = ap (λ rest. claim ∷ rest) (claims-told claims)

firsts-told : (pairs : List (Claim × Option ℕ)) →
    map claim_in (map planned_of (map with_draws pairs)) ≡ map (λ (p : Claim × Option ℕ). p.0) pairs
firsts-told [] = refl
firsts-told (pair ∷ pairs) = ap (λ rest. pair.0 ∷ rest) (firsts-told pairs)

seconds-told : (pairs : List (Claim × Option ℕ)) →
    map (λ (planned : Planned). planned.draws) (map planned_of (map with_draws pairs)) ≡ map (λ (p : Claim × Option ℕ). p.1) pairs
seconds-told [] = refl
seconds-told (pair ∷ pairs) = ap (λ rest. pair.1 ∷ rest) (seconds-told pairs)

pub same-claims : (plan : Option Plan) (claims : List Claim) → IfSome plan (HasEach claims) →
    map claim_in (map planned_of (told_of plan claims)) ≡ claims
same-claims None claims each = claims-told claims
same-claims (Some plan) claims each = firsts-told (zip claims plan.draws) ∙ firsts-zip claims plan.draws each

pub same-plan : (plan : Option Plan) (claims : List Claim) → IfSome plan (HasEach claims) →
    plan_with (option_map terms_for plan) (map planned_of (told_of plan claims)) ≡ plan
same-plan None claims each = refl
same-plan (Some plan) claims each =
    let same : map (λ (planned : Planned). planned.draws) (map planned_of (told_of (Some plan) claims)) ≡ plan.draws =
    seconds-told (zip claims plan.draws) ∙ seconds-zip claims plan.draws each in
    ap (λ draws. Some (record { cards = plan.cards; gamma = plan.gamma; limit = plan.limit; draws = draws })) same

pub has-each : (records : ℕ) (plan : Option Plan) (claims : List Claim) → IfSome plan (IsSoundPlan records (length claims)) → IfSome plan (HasEach claims)
has-each records None claims h = tt
has-each records (Some plan) claims h = h.each
