-- The laws of these texts.
use Rattle.std.specs.Prelude.{◌≡◌, ◌≤◌, ◌⊎◌, ℕ, List, map, All, Contains, Option, Some, None, MatchOption, IsSomeAnd}
use Rattle.assertions.specs.declared.assertion.Claim.{Claim}
use Rattle.assertion_file.specs.Content.{Content}
use Rattle.audit_report.specs.Plan.{all_need, need_of}

-- All claims together need a full count only if one of them does. Otherwise they need the greatest number of draws that one of them needs.
abbrev pub AllNeedLaw : Type 0
AllNeedLaw =
    (needs : List (Option ℕ)) →
    MatchOption (all_need needs) (Contains needs None) (λ most.
    All (λ need. IsSomeAnd need (λ n. n ≤ most)) needs × ((most ≡ 0) ⊎ Contains needs (Some most)))

-- All claims together need what the claim with the smallest margin needs.
abbrev pub ClosestClaimLaw : Type 0
ClosestClaimLaw =
    (file : Content) (cards gamma limit : ℕ) (closest : Claim) → 1 ≤ cards → 1 ≤ gamma →
    Contains file.claims closest →
    All (λ claim. (closest.margin ≤ claim.margin) × (claim.margin ≤ cards)) file.claims →
    all_need (map (need_of file cards gamma limit) file.claims)
    ≡ need_of file cards gamma limit closest
