-- The smallest margin of claims.
use Rattle.std.proofs.Common.{◌≡◌, ℕ, ◌≤◌, Bool, true, false, if◌then◌else◌, List, [], ◌∷◌, length, map, Some, None, All, Contains, IfSome, refl, subst, arith}
use Rattle.std.proofs.lemmas.List.Elements.{All-contains}
use Rattle.irv_base.specs.Tabulation.{least}
use Rattle.irv_base.proofs.Least.{least-member, least_is}
use Rattle.irv_base.proofs.Members.{contains-from_member, from_map, here, member-from_contains, member-map}
use Rattle.assertions.specs.declared.assertion.Claim.{Claim}
use Rattle.assertion_file.specs.Content.{IsMargin, IsSoundClaim}
use Rattle.cover_checker.proofs.Held.{all-from_members}

abbrev margin-in : Claim → ℕ
margin-in claim = claim.margin

module _ (claims : List Claim) where
  abbrev pub own : ℕ
  own = least (map (λ (claim : Claim). claim.margin) claims)

  pub own-reached : (claim : Claim) → Contains claims claim → (other : Claim) × Contains claims other × (other.margin ≡ own)
  own-reached claim k =
      let (other, m, e) = from_map margin-in own claims (least_is (member-map margin-in (member-from_contains claim claims k))) in
      (other, contains-from_member m, e)

  pub own-smallest : All (λ (claim : Claim). own ≤ claim.margin) claims
  own-smallest =
      all-from_members (λ (claim : Claim). own ≤ claim.margin) claims (λ claim m.
      least-member claim.margin (map margin-in claims) (member-map margin-in m))

  -- it is a margin, as theirs are
  pub own-sound : (n records : ℕ) → All (IsSoundClaim n records) claims → (claim : Claim) → Contains claims claim → IsMargin records own
  own-sound n records sound claim k =
      let (other, there, e) = own-reached claim k in
      subst (IsMargin records) e (All-contains (IsSoundClaim n records) claims other sound there).margin

-- if there are any
pub some-sound : (n records : ℕ) (claims : List Claim) → 1 ≤ length claims → All (IsSoundClaim n records) claims → IsMargin records (own claims)
some-sound n records [] some sound = absurd (omega (arith, some))
some-sound n records (claim ∷ more) some sound = own-sound (claim ∷ more) n records sound claim (contains-from_member here)

-- what a file says with its order or without
pub by-order : (b : Bool) (order : List ℕ) (P : List ℕ → Type 0) → (b ≡ true → P order) → IfSome (if b then Some order else None) P
by-order true order P given = given refl
by-order false order P given = tt
