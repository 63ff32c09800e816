-- The certificate of a contest confirms its winner.
use Rattle.std.proofs.Common.{◌≡◌, ℕ, ◌<◌, ◌≤◌, List, [], ◌∷◌, All, Contains, Some, sym, ap, subst, refl, arith, ◌∙◌}
use Rattle.std.specs.Prelude.{IsSomeAnd}
use Rattle.std.specs.List.{list_any}
use Rattle.std.proofs.lemmas.List.Elements.{All-contains, All-cons, All-nil}
use Rattle.irv_base.proofs.Members.{Member, here, there, from_list_all, from_list_any, member-map, from_map, contains-from_member, member-from_contains}
use Rattle.assertions.specs.declared.assertion.Assertion.{Assertion}
use Rattle.assertions.specs.declared.assertion.Claim.{Claim}
use Rattle.assertions.specs.Assertions.{is_proper, is_true, true_margin}
use Rattle.assertions.specs.Certificate.{certificate_assertions, certificate_claims, certificate_order, claim_of}
use Rattle.assertions.specs.Hardness.{low, best_margin}
use Rattle.assertions.specs.Refutation.{refutes}
use Rattle.assertions.specs.Suffixes.{IsAlternative, alternative_orders}
use Rattle.assertions.proofs.Alternatives.{order_is}
use Rattle.assertions.proofs.Certificates.{certificate_is_proper, certificate_is_true, certificate-le, certificate_covers, certificate_has_best}
use Rattle.assertions.proofs.Endings.{alternative_orders_are}
use Rattle.assertions.proofs.Lows.{low-refuter}
use Rattle.assertions.proofs.Decided.{decided-positive}
use Rattle.ballots.specs.Ballots.{BallotFile}
use Rattle.assertion_file.specs.Content.{Content}
use Rattle.cli_base.proofs.Scripts.{some_is}
use Rattle.contest_search.specs.Certificate.{margin_of, certificate_of, IsCertificateOfDecided}
use Rattle.contest_search.specs.Contest.{candidate_count}
use Rattle.contest_search.proofs.Contests.{winner-below}
use Rattle.raire_cli.specs.Confirmation.{ClaimHolds, Confirms, IsHardest, IsLeast}

each : {X : Type 0} (P : X → Type 0) (xs : List X) → ((x : X) → Member x xs → P x) → All P xs
each P [] h = All-nil P
each P (x ∷ xs) h = All-cons P x xs (h x here) (each P xs (λ y m. h y (there m)))

module _ (n : ℕ) (records : List (List ℕ)) (winner : ℕ) where
  listed : (claim : Claim) → Member claim (certificate_claims n records winner) → (a : Assertion) × Member a (certificate_assertions n records winner)
      × (claim_of records a ≡ claim)
  listed claim m = from_map (claim_of records) claim (certificate_assertions n records winner) m

  claim-holds : (claim : Claim) → Member claim (certificate_claims n records winner) → ClaimHolds n records claim
  claim-holds claim m =
      let (a, k, e) = listed claim m in
      subst (ClaimHolds n records) e (record {
        proper = from_list_all (is_proper n) k (certificate_is_proper n winner records);
        holds = from_list_all (is_true records) k (certificate_is_true n winner records);
        margin = refl;
      })

  claim-least : (claim : Claim) → Member claim (certificate_claims n records winner) → best_margin n winner (low n records) ≤ claim.margin
  claim-least claim m =
      let (a, k, e) = listed claim m in
      subst (λ (c : Claim). best_margin n winner (low n records) ≤ c.margin) e (certificate-le n winner records a k)

-- the order of the certificate is the hardest
pub hardest_order : (n : ℕ) (records : List (List ℕ)) (winner : ℕ) (order : List ℕ) (margin : ℕ) → winner < n → 1 < n →
    margin ≡ best_margin n winner (low n records) → certificate_order n winner (low n records) (best_margin n winner (low n records)) ≡ Some order →
    IsHardest n records winner order margin
hardest_order n records winner order margin below two is printed =
    let (found, least, among, hard) = order_is n winner (low n records) below two in
    let same : order ≡ found = some_is (sym printed ∙ least) in
    record {
      alternative = subst (IsAlternative n winner) (sym same) ((alternative_orders_are n winner found).0 among);
      hardest = λ a proper holds r.
          let le : true_margin records a ≤ low n records order = low-refuter n records order a proper r in
          omega (arith, le, ap (low n records) same, hard, is);
    }

-- what a file has from the certificate
record Certified (n : ℕ) (records : List (List ℕ)) (winner : ℕ) (file : Content) : Type 0 where
  pub margin : file.margin ≡ best_margin n winner (low n records)
  pub order : certificate_order n winner (low n records) (best_margin n winner (low n records)) ≡ file.order
  pub claims : file.claims ≡ certificate_claims n records winner

confirmed : (n : ℕ) (records : List (List ℕ)) (winner : ℕ) (file : Content) → winner < n → 1 < n → 1 ≤ best_margin n winner (low n records) →
    Certified n records winner file → Confirms n records winner file
confirmed n records winner file below two positive c =
    let best = best_margin n winner (low n records) in
    let (found, least, among, hard) = order_is n winner (low n records) below two in
    let (a, k, e) = certificate_has_best n winner records below two positive in
    record {
      hold = subst (All (ClaimHolds n records)) (sym c.claims)
          (each (ClaimHolds n records) (certificate_claims n records winner) (claim-holds n records winner));
      cover = λ order alternative.
          let inside = member-from_contains order (alternative_orders n winner) ((alternative_orders_are n winner order).1 alternative) in
          let any = from_list_all (λ order. list_any (λ a. refutes a order) (certificate_assertions n records winner)) inside
          (certificate_covers n winner records positive) in
          let (a, m, r) = from_list_any (λ a. refutes a order) (certificate_assertions n records winner) any in (
            claim_of records a,
            subst (λ claims. Contains claims (claim_of records a)) (sym c.claims) (contains-from_member (member-map (claim_of records) m)),
            r,
          );
      reached = (
        claim_of records a,
        subst (λ claims. Contains claims (claim_of records a)) (sym c.claims)
            (contains-from_member (member-map (claim_of records) (member-from_contains a (certificate_assertions n records winner) k))),
        e ∙ sym c.margin,
      );
      smallest = subst (All (λ claim. file.margin ≤ claim.margin)) (sym c.claims)
          (each (λ (claim : Claim). file.margin ≤ claim.margin) (certificate_claims n records winner)
          (λ claim m. let le = claim-least n records winner claim m in omega (arith, le, c.margin)));
      order = subst (λ o. IsSomeAnd o (λ order. IsHardest n records winner order file.margin)) (sym (sym c.order ∙ least))
          (hardest_order n records winner found file.margin below two c.margin least);
    }

pub certificate-positive : (ballots : BallotFile) (file : Content) → 1 < candidate_count ballots → (c : IsCertificateOfDecided ballots file) →
    1 ≤ margin_of ballots c.winner
certificate-positive ballots file two c =
    decided-positive (candidate_count ballots) c.winner ballots.rankings (winner-below ballots c.winner c.won) two c.decided

pub certificate-confirms : (ballots : BallotFile) (file : Content) → 1 < candidate_count ballots → (c : IsCertificateOfDecided ballots file) →
    Confirms (candidate_count ballots) ballots.rankings c.winner file
certificate-confirms ballots file two c =
    let n = candidate_count ballots in
    subst (Confirms n ballots.rankings c.winner) (sym c.is)
    (confirmed n ballots.rankings c.winner (certificate_of ballots c.winner c.order) (winner-below ballots c.winner c.won) two
    (certificate-positive ballots file two c)
    (record { margin = refl; order = c.least; claims = refl }))

-- an assertion of the certificate refutes each order that elects another candidate
pub confirms-least : (n : ℕ) (records : List (List ℕ)) (winner : ℕ) (file : Content) → Confirms n records winner file → IsLeast n records winner file.margin
confirms-least n records winner file c order alternative =
    let (claim, m, r) = c.cover order alternative in
    let holds : ClaimHolds n records claim = All-contains (ClaimHolds n records) file.claims claim c.hold m in
    let le : file.margin ≤ claim.margin = All-contains (λ (claim : Claim). file.margin ≤ claim.margin) file.claims claim c.smallest m in
    (claim.assertion, holds.proper, holds.holds, r, omega (arith, le, holds.margin))
