-- The margins of claims that are true.
use Rattle.std.proofs.Common.{◌≡◌, ◌∙◌, ℕ, ◌+◌, ◌<◌, ◌≤◌, ℤ, pos, ◌<ℤ◌, ◌≤ℤ◌, Bool, true, false, not, cond, inl, inr, List, [], ◌∷◌, ◌++◌, length, get_or, map, take, drop, find, None, Some, All, refl, sym, ap, ap₂, subst, arith, ltb-true}
use Rattle.std.specs.Prelude.{IsTrue}
use Rattle.std.proofs.lemmas.Bool.{cases_Bool}
use Rattle.std.proofs.lemmas.Int.{ints}
use Rattle.std.proofs.lemmas.List.{drop_all, drop_more, map-append, take_more}
use Rattle.std.specs.List.{list_all}
use Rattle.std.proofs.lemmas.List.Sums.{count_by-le-length}
use Rattle.irv_base.specs.Records.{is_first, is_some_of, top}
use Rattle.irv_base.specs.Tabulation.{least}
use Rattle.irv_base.proofs.Least.{least-member, least_is}
use Rattle.irv_base.proofs.Members.{Member, contains-from_member, from_list_all, from_map, member-map}
use Rattle.assertions.specs.declared.assertion.Assertion.{Assertion}
use Rattle.assertions.specs.declared.assertion.Assertion.TheVariants.{Neb, Nen}
use Rattle.assertions.specs.declared.assertion.Claim.{Claim}
use Rattle.assertions.specs.Assertions.{is_proper, is_true, margin, true_margin, votes_against, votes_for}
use Rattle.assertions.specs.Certificate.{claim_of}
use Rattle.assertions.proofs.Sums.{true_margin_is}
use Rattle.assertion_file.specs.Content.{IsMargin, IsSoundClaim}
use Rattle.cover_checker.proofs.Held.{all-from_members, assertion_in}
use Rattle.cover_checker.proofs.Nothing.{HasItsMargin}

votes-le : (records : List (List ℕ)) (a : Assertion) → votes_for records a ≤ length records
votes-le records (Neb w l) = count_by-le-length (λ ranking. is_first ranking w) records
votes-le records (Nen w l rest) = count_by-le-length (λ ranking. is_some_of (top ranking rest) w) records

pub margin-le : (records : List (List ℕ)) (a : Assertion) → true_margin records a ≤ length records
margin-le records a = let le = votes-le records a in omega (arith, le)

true-margin : (records : List (List ℕ)) (a : Assertion) → is_true records a ≡ true → IsMargin (length records) (true_margin records a)
true-margin records a holds =
    let more = ltb-true (votes_against records a) (votes_for records a) holds in
    record { some = omega (arith, more); most = margin-le records a }

pub claims-assertions : (records : List (List ℕ)) (list : List Assertion) → map assertion_in (map (claim_of records) list) ≡ list
claims-assertions records [] = refl
claims-assertions records (a ∷ list) = ap (λ more. a ∷ more) (claims-assertions records list)

module _ (n : ℕ) (records : List (List ℕ)) (list : List Assertion) (proper : list_all (is_proper n) list ≡ true) (hold : list_all (is_true records) list ≡ true) where
  abbrev claims : List Claim
  claims = map (claim_of records) list

  each : (P : Claim → Type 0) → ((a : Assertion) → Member a list → P (claim_of records a)) → All P claims
  each P h = all-from_members P claims (λ claim m. let (a, k, e) = from_map (claim_of records) claim list m in subst P e (h a k))

  pub claims-sound : All (IsSoundClaim n (length records)) claims
  claims-sound = each (IsSoundClaim n (length records)) (λ a m. record {
    proper = from_list_all (is_proper n) m proper;
    margin = true-margin records a (from_list_all (is_true records) m hold);
  })

  pub claims-margins : All (HasItsMargin records) claims
  claims-margins = each (HasItsMargin records) (λ a m. sym ((true_margin_is records a).1 (from_list_all (is_true records) m hold)))

  abbrev margin_in : Claim → ℕ
  margin_in claim = claim.margin

  -- if there is a claim, the smallest margin is the margin of a claim
  pub smallest-claim : (a : Assertion) → Member a list → (claim : Claim) × Member claim claims × (claim.margin ≡ least (map margin_in claims))
  smallest-claim a m = from_map margin_in (least (map margin_in claims)) claims (least_is (member-map margin_in (member-map (claim_of records) m)))

  pub smallest-margin : (a : Assertion) → Member a list → IsMargin (length records) (least (map margin_in claims))
  smallest-margin a m =
      let (claim, k, e) = smallest-claim a m in
      let (b, l, same) = from_map (claim_of records) claim list k in
      subst (IsMargin (length records)) (ap margin_in same ∙ e) (true-margin records b (from_list_all (is_true records) l hold))

  pub none-smaller : All (λ claim. least (map margin_in claims) ≤ claim.margin) claims
  none-smaller = all-from_members (λ claim. least (map margin_in claims) ≤ claim.margin) claims
      (λ claim m. least-member claim.margin (map margin_in claims) (member-map margin_in m))
