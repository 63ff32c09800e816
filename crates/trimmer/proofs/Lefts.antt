-- What is left of the later claims after they have been tried.
use Rattle.std.proofs.Common.{◌≡◌, ◌⊎◌, inl, inr, ℕ, ◌+◌, List, [], ◌∷◌, ◌++◌, length, Result, Ok, Err, refl, sym, ap, subst, ◌∙◌, append_assoc}
use Rattle.assertions.specs.declared.assertion.Assertion.{Assertion}
use Rattle.budget.specs.declared.budget.Budget.{Budget}
use Rattle.assertions.specs.declared.assertion.Claim.{Claim}
use Rattle.assertion_file.specs.Content.{Content}
use Rattle.cover_checker.specs.declared.cover.Verdict.{Verdict}
use Rattle.cover_checker.specs.declared.cover.Verdict.TheVariants.{Covered, Stands}
use Rattle.cover_checker.specs.declared.cover.CoverFault.{CoverFault}
use Rattle.cover_checker.specs.declared.cover.CoverFault.TheVariants.{Spent as CoverSpent, SpentSets as CoverSpentSets, Memory as CoverMemory}
use Rattle.trimmer.specs.declared.fault.TrimFault.{TrimFault}
use Rattle.trimmer.specs.Laws.{IsPartOf, nothing, kept, dropped}
use Rattle.trimmer.specs.Trimmed.{can_go, unless_it_goes, with_claims, covered_by, tried, left_of, margin_left, plan_left, trimmed}

abbrev pub assertion_in : Claim → Assertion
assertion_in claim = claim.assertion

-- the others cover and it is dropped, or an order stands and it is kept
abbrev pub Goes : Claim → List Claim → List Claim → Result Verdict CoverFault → Type 0
Goes claim later left result = (left ≡ later) × (result ≡ Ok Covered)

abbrev pub Stays : Claim → List Claim → List Claim → Result Verdict CoverFault → Type 0
Stays claim later left result = (left ≡ claim ∷ later) × ((order : List ℕ) × (result ≡ Ok (Stands order)))

from_trial : (number : ℕ) (claim : Claim) (later left : List Claim) (result : Result Verdict CoverFault) →
    unless_it_goes claim later (can_go number result) ≡ Ok left → Goes claim later left result ⊎ Stays claim later left result
from_trial number claim later left (Ok Covered) e = inl (cc, refl)
from_trial number claim later left (Ok (Stands order)) e = inr (cc, (order, refl))
from_trial number claim later left (Err (CoverSpent last)) e = cc
from_trial number claim later left (Err (CoverSpentSets sets)) e = cc
from_trial number claim later left (Err CoverMemory) e = cc

module _ (budget : Budget) (file : Content) where
  -- what happened to a claim that was tried after the later ones
  abbrev pub Fate : List Claim → Claim → List Claim → List Claim → Type 0
  Fate earlier claim later left =
      Goes claim later left (covered_by budget file (earlier ++ later)) ⊎ Stays claim later left (covered_by budget file (earlier ++ later))

  pub fate : (earlier : List Claim) (claim : Claim) (later left : List Claim) → left_of budget file earlier (claim ∷ later) ≡ Ok left →
      (rest : List Claim) × (left_of budget file (earlier ++ claim ∷ []) later ≡ Ok rest) × Fate earlier claim rest left
  fate earlier claim later left e = go (left_of budget file (earlier ++ claim ∷ []) later) e where
    go : (r : Result (List Claim) TrimFault) → tried budget file earlier claim r ≡ Ok left →
        (rest : List Claim) × (r ≡ Ok rest) × Fate earlier claim rest left
    go (Ok rest) e = (rest, refl, from_trial (length earlier + 1) claim rest left (covered_by budget file (earlier ++ rest)) e)
    go (Err fault) e = cc

  -- what is left is a part
  pub left-part : (earlier later left : List Claim) → left_of budget file earlier later ≡ Ok left → IsPartOf left later
  left-part earlier [] left e = let same : [] ≡ left = cc in subst (λ part. IsPartOf part []) same nothing
  left-part earlier (claim ∷ later) left e =
      let (rest, f, g) = fate earlier claim later left e in
      let part = left-part (earlier ++ claim ∷ []) later rest f in
      elim g [
        | inl goes ↦ subst (λ part. IsPartOf part (claim ∷ later)) (sym goes.0) (dropped part)
        | inr stays ↦ subst (λ part. IsPartOf part (claim ∷ later)) (sym stays.0) (kept part)
      ]

  one_more : (earlier : List Claim) (claim : Claim) (later : List Claim) → (earlier ++ claim ∷ []) ++ later ≡ earlier ++ claim ∷ later
  one_more earlier claim later = append_assoc earlier (claim ∷ []) later

  -- what is left covers as all did
  pub left-covered : (earlier later left : List Claim) → left_of budget file earlier later ≡ Ok left → covered_by budget file (earlier ++ later) ≡ Ok Covered →
      covered_by budget file (earlier ++ left) ≡ Ok Covered
  left-covered earlier [] left e h = let same : [] ≡ left = cc in subst (λ left. covered_by budget file (earlier ++ left) ≡ Ok Covered) same h
  left-covered earlier (claim ∷ later) left e h =
      let (rest, f, g) = fate earlier claim later left e in
      elim g [
        | inl goes ↦ ap (λ left. covered_by budget file (earlier ++ left)) goes.0 ∙ goes.1
        | inr stays ↦
            ap (λ left. covered_by budget file (earlier ++ left)) stays.0 ∙ ap (covered_by budget file) (sym (one_more earlier claim rest))
            ∙ left-covered (earlier ++ claim ∷ []) later rest f (ap (covered_by budget file) (one_more earlier claim later) ∙ h)
      ]

-- ---- the trimmed file
pub record IsTrimmed (budget : Budget) (file left : Content) : Type 0 where
  pub claims : left_of budget file [] file.claims ≡ Ok left.claims
  pub plan : left.plan ≡ plan_left budget file
  pub margin : left.margin ≡ margin_left file left.claims
  pub same : left ≡ record file { margin = margin_left file left.claims; claims = left.claims; plan = left.plan }

pub from_trimmed : (budget : Budget) (file left : Content) → trimmed budget file ≡ Ok left → IsTrimmed budget file left
from_trimmed budget file left e = go (left_of budget file [] file.claims) refl e where
  go : (r : Result (List Claim) TrimFault) → left_of budget file [] file.claims ≡ r → with_claims file (plan_left budget file) r ≡ Ok left →
      IsTrimmed budget file left
  go (Ok claims) f e =
      let same : record file { margin = margin_left file claims; claims = claims; plan = plan_left budget file } ≡ left = cc in
      let its : claims ≡ left.claims = ap (λ (content : Content). content.claims) same in
      let planned : plan_left budget file ≡ left.plan = ap (λ (content : Content). content.plan) same in
      record {
        claims = f ∙ ap Ok its;
        plan = sym planned;
        margin = sym (ap (λ (content : Content). content.margin) same) ∙ ap (margin_left file) its;
        same = sym same ∙ (λ i. record file { margin = margin_left file (its i); claims = its i; plan = planned i });
      }
  go (Err fault) f e = cc
