-- Claims and draws that pass the tests of a guess.
use Rattle.std.proofs.Common.{◌≡◌, ℕ, true, ◌&&◌, List, [], ◌∷◌, All, Option}
use Rattle.std.specs.Prelude.{IfSome}
use Rattle.std.specs.List.{list_all}
use Rattle.std.proofs.lemmas.Bool.{and_parts}
use Rattle.std.proofs.lemmas.List.Elements.{All-nil, All-cons}
use Rattle.assertions.specs.Assertions.{is_proper}
use Rattle.assertions.specs.declared.assertion.Claim.{Claim}
use Rattle.assertion_file.specs.Content.{IsDrawCount, IsSoundClaim}
use Rattle.assertion_file.specs.Reading.{are_draws, is_margin}
use Rattle.assertion_file.proofs.Headings.{margin-is}
use Rattle.assertion_file.proofs.SoundClaims.{draws-are}

pub claims-tested : (n records : ℕ) (claims : List Claim) →
    list_all (λ (claim : Claim). is_proper n claim.assertion && is_margin records claim.margin) claims ≡ true →
    All (IsSoundClaim n records) claims
claims-tested n records [] h = All-nil (IsSoundClaim n records)
claims-tested n records (claim ∷ claims) h =
    let parts = and_parts (is_proper n claim.assertion && is_margin records claim.margin)
    (list_all (λ (claim : Claim). is_proper n claim.assertion && is_margin records claim.margin) claims) h in
    let own = and_parts (is_proper n claim.assertion) (is_margin records claim.margin) parts.0 in
    All-cons (IsSoundClaim n records) claim claims (record { proper = own.0; margin = margin-is records claim.margin own.1 })
    (claims-tested n records claims parts.1)

pub draws-tested : (draws : List (Option ℕ)) → list_all are_draws draws ≡ true → All (λ draws. IfSome draws IsDrawCount) draws
draws-tested [] h = All-nil (λ draws. IfSome draws IsDrawCount)
draws-tested (one ∷ draws) h =
    let parts = and_parts (are_draws one) (list_all are_draws draws) h in
    All-cons (λ draws. IfSome draws IsDrawCount) one draws (draws-are one parts.0) (draws-tested draws parts.1)
