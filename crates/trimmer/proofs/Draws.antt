-- What is left of the draws, for the claims that are left.
use Rattle.std.proofs.Common.{◌≡◌, inl, inr, ℕ, suc, ◌+◌, ◌≤◌, List, [], ◌∷◌, ◌++◌, length, map, All, Option, Some, None, Ok, refl, sym, ap, subst, arith, ◌∙◌}
use Rattle.std.specs.Prelude.{zip, option_map}
use Rattle.std.proofs.lemmas.List.Elements.{All-nil, All-cons, All-head, All-tail}
use Rattle.budget.specs.declared.budget.Budget.{Budget}
use Rattle.assertions.specs.declared.assertion.Claim.{Claim}
use Rattle.assertion_file.specs.Content.{Content, Plan}
use Rattle.assertion_file.specs.Text.{told_of}
use Rattle.cover_checker.specs.declared.cover.Verdict.TheVariants.{Covered, Stands}
use Rattle.trimmer.specs.Laws.{IsPartOf, nothing, kept, dropped, IsPlannedAlike}
use Rattle.trimmer.specs.Trimmed.{can_go, covered_by, trial, left_of, draws_left, margin_left, unless_gone, with_draws, plan_left, trimmed}
use Rattle.trimmer.proofs.Lefts.{fate, from_trimmed, left-part}

-- ---- parts

part-map : {X Y : Type 0} (f : X → Y) {part whole : List X} → IsPartOf part whole → IsPartOf (map f part) (map f whole)
part-map f nothing = nothing
part-map f (kept p) = kept (part-map f p)
part-map f (dropped p) = dropped (part-map f p)

part-short : {X : Type 0} {part whole : List X} → IsPartOf part whole → length part ≤ length whole
part-short nothing = omega arith
part-short (kept p) = omega (arith, part-short p)
part-short (dropped p) = omega (arith, part-short p)

module _ (budget : Budget) (file : Content) where
  -- the draws in front of what is left of the later ones, depending on what happened to their claim
  when-gone : (earlier : List Claim) (claim : Claim) (later rest : List Claim) (d : Option ℕ) (draws : List (Option ℕ)) →
      left_of budget file (earlier ++ claim ∷ []) later ≡ Ok rest → covered_by budget file (earlier ++ rest) ≡ Ok Covered →
      draws_left budget file earlier (claim ∷ later) (d ∷ draws) ≡ draws_left budget file (earlier ++ claim ∷ []) later draws
  when-gone earlier claim later rest d draws f goes =
      let behind = draws_left budget file (earlier ++ claim ∷ []) later draws in
      ap (λ r. unless_gone d behind (trial budget file earlier r)) f ∙ ap (λ r. unless_gone d behind (can_go (length earlier + 1) r)) goes

  when-kept : (earlier : List Claim) (claim : Claim) (later rest : List Claim) (d : Option ℕ) (draws : List (Option ℕ)) (order : List ℕ) →
      left_of budget file (earlier ++ claim ∷ []) later ≡ Ok rest → covered_by budget file (earlier ++ rest) ≡ Ok (Stands order) →
      draws_left budget file earlier (claim ∷ later) (d ∷ draws) ≡ d ∷ draws_left budget file (earlier ++ claim ∷ []) later draws
  when-kept earlier claim later rest d draws order f stays =
      let behind = draws_left budget file (earlier ++ claim ∷ []) later draws in
      ap (λ r. unless_gone d behind (trial budget file earlier r)) f ∙ ap (λ r. unless_gone d behind (can_go (length earlier + 1) r)) stays

  -- each draw is with its claim
  pub draws-part : (earlier later left : List Claim) (draws : List (Option ℕ)) → left_of budget file earlier later ≡ Ok left →
      IsPartOf (zip left (draws_left budget file earlier later draws)) (zip later draws)
  draws-part earlier [] left draws e = let same : [] ≡ left = cc in
      subst (λ left. IsPartOf (zip left (draws_left budget file earlier [] draws)) (zip [] draws)) same nothing
  draws-part earlier (claim ∷ later) [] [] e = nothing
  draws-part earlier (claim ∷ later) (first ∷ left) [] e = nothing
  draws-part earlier (claim ∷ later) left (d ∷ draws) e =
      let (rest, f, g) = fate budget file earlier claim later left e in
      let part = draws-part (earlier ++ claim ∷ []) later rest draws f in
      elim g [
        | inl goes ↦
            subst (λ ds. IsPartOf (zip left ds) (zip (claim ∷ later) (d ∷ draws))) (sym (when-gone earlier claim later rest d draws f goes.1))
            (subst (λ left. IsPartOf (zip left (draws_left budget file (earlier ++ claim ∷ []) later draws)) (zip (claim ∷ later) (d ∷ draws)))
            (sym goes.0) (dropped part))
        | inr stays ↦
            subst (λ ds. IsPartOf (zip left ds) (zip (claim ∷ later) (d ∷ draws))) (sym (when-kept earlier claim later rest d draws stays.1.0 f stays.1.1))
            (subst (λ left. IsPartOf (zip left (d ∷ draws_left budget file (earlier ++ claim ∷ []) later draws)) (zip (claim ∷ later) (d ∷ draws)))
            (sym stays.0) (kept part))
      ]

  -- there are as many draws left as claims
  pub draws-many : (earlier later left : List Claim) (draws : List (Option ℕ)) → left_of budget file earlier later ≡ Ok left → length draws ≡ length later →
      length (draws_left budget file earlier later draws) ≡ length left
  draws-many earlier [] left draws e each = let same : [] ≡ left = cc in ap (λ (left : List Claim). length left) same
  draws-many earlier (claim ∷ later) left [] e each = absurd (omega (arith, each))
  draws-many earlier (claim ∷ later) left (d ∷ draws) e each =
      let (rest, f, g) = fate budget file earlier claim later left e in
      let many = draws-many (earlier ++ claim ∷ []) later rest draws f (omega (arith, each)) in
      elim g [
        | inl goes ↦ ap length (when-gone earlier claim later rest d draws f goes.1) ∙ many ∙ ap length (sym goes.0)
        | inr stays ↦ ap length (when-kept earlier claim later rest d draws stays.1.0 f stays.1.1) ∙ ap suc many ∙ ap length (sym stays.0)
      ]

  pub draws-few : (earlier later left : List Claim) (draws : List (Option ℕ)) → left_of budget file earlier later ≡ Ok left →
      length (draws_left budget file earlier later draws) ≤ length left
  draws-few earlier [] left draws e = omega arith
  draws-few earlier (claim ∷ later) left [] e = omega arith
  draws-few earlier (claim ∷ later) left (d ∷ draws) e =
      let (rest, f, g) = fate budget file earlier claim later left e in
      let few = draws-few (earlier ++ claim ∷ []) later rest draws f in
      elim g [
        | inl goes ↦ omega (arith, ap length (when-gone earlier claim later rest d draws f goes.1), few, ap length goes.0)
        | inr stays ↦ omega (arith, ap length (when-kept earlier claim later rest d draws stays.1.0 f stays.1.1), few, ap length stays.0)
      ]

  -- what is true of all is true of those that are left
  pub draws-all : (P : Option ℕ → Type 0) (earlier later left : List Claim) (draws : List (Option ℕ)) → left_of budget file earlier later ≡ Ok left →
      All P draws → All P (draws_left budget file earlier later draws)
  draws-all P earlier [] left draws e h = All-nil P
  draws-all P earlier (claim ∷ later) left [] e h = All-nil P
  draws-all P earlier (claim ∷ later) left (d ∷ draws) e h =
      let (rest, f, g) = fate budget file earlier claim later left e in
      let more = draws-all P (earlier ++ claim ∷ []) later rest draws f (All-tail P d draws h) in
      elim g [
        | inl goes ↦ subst (All P) (sym (when-gone earlier claim later rest d draws f goes.1)) more
        | inr stays ↦ subst (All P) (sym (when-kept earlier claim later rest d draws stays.1.0 f stays.1.1))
            (All-cons P d (draws_left budget file (earlier ++ claim ∷ []) later draws) (All-head P d draws h) more)
      ]

  -- if each claim determines its draws, the same holds of the claims that are left
  pub draws-map : (of : Claim → Option ℕ) (earlier later left : List Claim) → left_of budget file earlier later ≡ Ok left →
      draws_left budget file earlier later (map of later) ≡ map of left
  draws-map of earlier [] left e = let same : [] ≡ left = cc in ap (map of) same
  draws-map of earlier (claim ∷ later) left e =
      let (rest, f, g) = fate budget file earlier claim later left e in
      let more = draws-map of (earlier ++ claim ∷ []) later rest f in
      elim g [
        | inl goes ↦ when-gone earlier claim later rest (of claim) (map of later) f goes.1 ∙ more ∙ ap (map of) (sym goes.0)
        | inr stays ↦ when-kept earlier claim later rest (of claim) (map of later) stays.1.0 f stays.1.1 ∙ ap (λ ds. of claim ∷ ds) more
            ∙ ap (map of) (sym stays.0)
      ]

  -- if no claim is dropped, all draws are left
  pub draws-stay : (earlier later : List Claim) (draws : List (Option ℕ)) → left_of budget file earlier later ≡ Ok later → length draws ≤ length later →
      draws_left budget file earlier later draws ≡ draws
  draws-stay earlier [] [] e few = refl
  draws-stay earlier [] (d ∷ draws) e few = absurd (omega (arith, few))
  draws-stay earlier (claim ∷ later) [] e few = refl
  draws-stay earlier (claim ∷ later) (d ∷ draws) e few =
      let (rest, f, g) = fate budget file earlier claim later (claim ∷ later) e in
      elim g [
        | inl goes ↦
            let short = part-short (left-part budget file (earlier ++ claim ∷ []) later rest f) in
            absurd (omega (arith, short, ap (λ (claims : List Claim). length claims) goes.0))
        | inr stays ↦
            let same : later ≡ rest = cc stays.0 in
            when-kept earlier claim later rest d draws stays.1.0 f stays.1.1
            ∙ ap (λ ds. d ∷ ds) (draws-stay (earlier ++ claim ∷ []) later draws (f ∙ ap Ok (sym same)) (omega (arith, few)))
      ]

  -- ---- the plan

  pub told-part : (left : List Claim) → left_of budget file [] file.claims ≡ Ok left → IsPartOf (told_of (plan_left budget file) left) (told_of file.plan file.claims)
  told-part left e = by file.plan where
    by : (plan : Option Plan) →
        IsPartOf (told_of (option_map (λ plan. with_draws (draws_left budget file [] file.claims plan.draws) plan) plan) left) (told_of plan file.claims)
    by None = part-map (λ (claim : Claim). (claim, None)) (left-part budget file [] file.claims left e)
    by (Some plan) = part-map (λ (planned : Claim × Option ℕ). (planned.0, Some planned.1)) (draws-part [] file.claims left plan.draws e)

  pub planned-alike : IsPlannedAlike file.plan (plan_left budget file)
  planned-alike = by file.plan where
    by : (plan : Option Plan) → IsPlannedAlike plan (option_map (λ plan. with_draws (draws_left budget file [] file.claims plan.draws) plan) plan)
    by None = tt
    by (Some plan) = refl

-- the plan of a trimmed file stays the same if none of its claims is dropped
pub plan-stays : (budget : Budget) (file left : Content) → left_of budget file [] file.claims ≡ Ok left.claims → left.plan ≡ plan_left budget file →
    left_of budget left [] left.claims ≡ Ok left.claims → plan_left budget left ≡ left.plan
plan-stays budget file left e planned whole = ap trimmed_again planned ∙ by file.plan ∙ sym planned where
  trimmed_again : Option Plan → Option Plan
  trimmed_again plan = option_map (λ plan. with_draws (draws_left budget left [] left.claims plan.draws) plan) plan

  by : (plan : Option Plan) → trimmed_again (option_map (λ plan. with_draws (draws_left budget file [] file.claims plan.draws) plan) plan)
      ≡ option_map (λ plan. with_draws (draws_left budget file [] file.claims plan.draws) plan) plan
  by None = refl
  by (Some plan) =
      let draws = draws_left budget file [] file.claims plan.draws in
      ap (λ draws. Some (with_draws draws plan)) (draws-stay budget left [] left.claims draws whole (draws-few budget file [] file.claims left.claims plan.draws e))

pub trimmed_is_part : (budget : Budget) (file left : Content) → trimmed budget file ≡ Ok left → IsPartOf left.claims file.claims
    × IsPartOf (told_of left.plan left.claims) (told_of file.plan file.claims) × IsPlannedAlike file.plan left.plan
    × (left ≡ record file { margin = margin_left file left.claims; claims = left.claims; plan = left.plan })
trimmed_is_part budget file left e =
    let t = from_trimmed budget file left e in (
      left-part budget file [] file.claims left.claims t.claims,
      subst (λ plan. IsPartOf (told_of plan left.claims) (told_of file.plan file.claims)) (sym t.plan) (told-part budget file left.claims t.claims),
      subst (IsPlannedAlike file.plan) (sym t.plan) (planned-alike budget file),
      t.same,
    )
