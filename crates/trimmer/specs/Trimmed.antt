-- What is left of an assertion file after each claim that can be removed is dropped, from last to first.
use Rattle.std.specs.Prelude.{ℕ, ◌+◌, Bool, true, false, if◌then◌else◌, List, [], ◌∷◌, ◌++◌, length, map, Option, Some, None, option_map, Result, Ok, Err}
use Rattle.budget.specs.declared.budget.Budget.{Budget}
use Rattle.irv_base.specs.Tabulation.{least}
use Rattle.assertions.specs.declared.assertion.Claim.{Claim}
use Rattle.assertion_file.specs.Content.{Content, Plan, candidate_count}
use Rattle.cover_checker.specs.Covers.{covered_is}
use Rattle.cover_checker.specs.declared.cover.Verdict.{Verdict}
use Rattle.cover_checker.specs.declared.cover.Verdict.TheVariants.{Covered, Stands}
use Rattle.cover_checker.specs.declared.cover.CoverFault.{CoverFault}
use Rattle.cover_checker.specs.declared.cover.CoverFault.TheVariants.{Spent as CoverSpent, SpentSets as CoverSpentSets, Memory as CoverMemory}
use Rattle.trimmer.specs.declared.fault.TrimFault.{TrimFault}
use Rattle.trimmer.specs.declared.fault.TrimFault.TheVariants.{Spent, SpentSets, Memory}

-- whether the claim with this number can be removed, by a trial without it: it can if the others cover, and can't if an order stands
abbrev pub can_go : ℕ → Result Verdict CoverFault → Result Bool TrimFault
can_go number (Ok Covered) = Ok true
can_go number (Ok (Stands order)) = Ok false
can_go number (Err (CoverSpent last)) = Err (Spent number last)
can_go number (Err (CoverSpentSets sets)) = Err (SpentSets number sets)
can_go number (Err CoverMemory) = Err Memory

abbrev pub unless_it_goes : Claim → List Claim → Result Bool TrimFault →
    Result (List Claim) TrimFault
unless_it_goes claim later (Ok goes) = Ok (if goes then later else claim ∷ later)
unless_it_goes claim later (Err fault) = Err fault

abbrev pub unless_gone : Option ℕ → List (Option ℕ) → Result Bool TrimFault → List (Option ℕ)
unless_gone draws later (Ok goes) = if goes then later else draws ∷ later
unless_gone draws later (Err fault) = later

abbrev pub with_draws : List (Option ℕ) → Plan → Plan
with_draws draws plan = record plan { draws = draws }

abbrev pub margin_with : Option (List ℕ) → ℕ → List Claim → ℕ
margin_with None margin claims = least (map (λ claim. claim.margin) claims)
margin_with (Some order) margin claims = margin

-- a file without an order has the smallest margin of the claims that are left; with an order, the margin can't be larger and stays the same
abbrev pub margin_left : Content → List Claim → ℕ
margin_left file claims = margin_with file.order file.margin claims

abbrev pub with_claims : Content → Option Plan → Result (List Claim) TrimFault → Result Content TrimFault
with_claims file plan (Ok claims) =
    Ok (record file { margin = margin_left file claims; claims = claims; plan = plan })
with_claims file plan (Err fault) = Err fault

module _ (budget : Budget) (file : Content) where
  -- whether these claims refute every order that elects a candidate other than the file's winner
  abbrev pub covered_by : List Claim → Result Verdict CoverFault
  covered_by claims =
      covered_is (candidate_count file) file.winner (map (λ claim. claim.assertion) claims) budget

  -- whether a claim can be removed, if all earlier claims are there and this is left of the later ones; the claim is numbered from 1
  abbrev pub trial : List Claim → Result (List Claim) TrimFault → Result Bool TrimFault
  trial earlier (Err fault) = Err fault
  trial earlier (Ok later) = can_go (length earlier + 1) (covered_by (earlier ++ later))

  abbrev pub tried : List Claim → Claim → Result (List Claim) TrimFault →
      Result (List Claim) TrimFault
  tried earlier claim (Err fault) = Err fault
  tried earlier claim (Ok later) = unless_it_goes claim later (trial earlier (Ok later))

  -- what is left of the later claims; each is tried after all that come later
  abbrev pub left_of : List Claim → List Claim → Result (List Claim) TrimFault
  left_of earlier [] = Ok []
  left_of earlier (claim ∷ later) =
      tried earlier claim (left_of (earlier ++ claim ∷ []) later)

  -- what is left of their draws, which are those of the claims that are left
  abbrev pub draws_left : List Claim → List Claim → List (Option ℕ) → List (Option ℕ)
  draws_left earlier [] draws = []
  draws_left earlier (claim ∷ later) [] = []
  draws_left earlier (claim ∷ later) (draws ∷ more) =
      unless_gone draws (draws_left (earlier ++ claim ∷ []) later more)
      (trial earlier (left_of (earlier ++ claim ∷ []) later))

  -- the plan of the claims that are left
  abbrev pub plan_left : Option Plan
  plan_left =
      option_map (λ plan. with_draws (draws_left [] file.claims plan.draws) plan) file.plan

  abbrev pub trimmed : Result Content TrimFault
  trimmed = with_claims file plan_left (left_of [] file.claims)
