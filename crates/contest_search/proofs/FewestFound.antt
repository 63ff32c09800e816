-- What a search for the fewest NENs finds, given what its parts answer.
use Rattle.std.proofs.Common.{◌≡◌, ℕ, ◌<◌, ◌≤◌, true, ◌&&◌, nat_le, List, length, All, Some, refl, sym, subst, arith, ◌∙◌}
use Rattle.std.proofs.lemmas.Bool.{and_parts}
use Rattle.std.proofs.lemmas.List.Elements.{All-contains}
use Rattle.irv_base.specs.Orders.{is_order}
use Rattle.irv_base.proofs.Members.{contains-from_member, member-map}
use Rattle.assertions.specs.declared.assertion.Claim.{Claim}
use Rattle.assertions.specs.Assertions.{is_proper, is_true, true_margin}
use Rattle.assertions.specs.Hardness.{low}
use Rattle.assertions.specs.Suffixes.{IsAlternative}
use Rattle.assertions.proofs.Alternatives.{order_is}
use Rattle.assertions.proofs.Decided.{positive-decided}
use Rattle.assertions.proofs.Endings.{alternative_orders_are}
use Rattle.ballots.specs.Ballots.{BallotFile}
use Rattle.assertion_file.specs.Content.{Content, IsMargin, IsSoundClaim}
use Rattle.set_tallies.specs.Bags.{Kept, IsOf}
use Rattle.irv_tabulator.specs.declared.tabulated.Tabulated.{Tabulated}
use Rattle.certifier.specs.declared.certificate.Certificate.{Certificate}
use Rattle.cover_checker.proofs.Held.{all-from_members}
use Rattle.nen_cut.specs.Floors.{assertions_in}
use Rattle.fewest_search.specs.Answers.{AreFewest, IsFewest, IsSpent as AreSpent}
use Rattle.fewest_search.specs.Gap.{least_margin}
use Rattle.fewest_search.specs.declared.ends.FewestAssertions.{FewestAssertions}
use Rattle.fewest_search.proofs.Findings.{each-enough}
use Rattle.contest_search.specs.Certificate.{certificate_of, margin_of}
use Rattle.contest_search.specs.Contest.{candidate_count}
use Rattle.contest_search.specs.Fewest.{IsFewestFoundIn, IsSpentFewest}
use Rattle.contest_search.specs.Found.{IsCounted, IsPrintable, content_of}
use Rattle.contest_search.proofs.Contests.{winner-below}
use Rattle.contest_search.proofs.Findings.{best-margin, of_ballots, tabulated_there, true-margin, won_by}

-- each of the claims can be printed
pub fewest-sound : (n winner sets margin : ℕ) (records : List (List ℕ)) (claims : List Claim) → AreFewest n records winner sets margin claims →
    All (IsSoundClaim n (length records)) claims
fewest-sound n winner sets margin records claims are =
    all-from_members (IsSoundClaim n (length records)) claims (λ claim m.
    let a = claim.assertion in
    let enough = each-enough n winner records margin (assertions_in claims) are.fewest a (member-map (λ (claim : Claim). claim.assertion) m) in
    let (proper, rest) = and_parts (is_proper n a) (is_true records a && nat_le margin (true_margin records a)) enough in
    let (holds, _) = and_parts (is_true records a) (nat_le margin (true_margin records a)) rest in
    let its = All-contains (λ (claim : Claim). claim.margin ≡ true_margin records claim.assertion) claims claim are.measured (contains-from_member m) in
    record { proper = proper; margin = subst (IsMargin (length records)) (sym its) (true-margin records a holds) })

-- as a certificate
abbrev pub as_certificate : FewestAssertions → Certificate
as_certificate found = record { claims = found.claims; margin = found.margin; order = found.order }

module _ (ballots : BallotFile) (bag : Kept) (t : Tabulated) (counted : IsCounted ballots bag t) (sets gap : ℕ) where
  module _ (found : FewestAssertions) (h : (records : List (List ℕ)) → IsOf bag records → IsFewest bag.n records t.winner sets gap found) where
    abbrev here : IsFewest (candidate_count ballots) ballots.rankings t.winner sets gap found
    here = of_ballots ballots bag t counted (λ n records. IsFewest n records t.winner sets gap found) h

    abbrev some : 1 ≤ margin_of ballots t.winner
    some = omega (arith, here.some, here.margin)

    abbrev below : t.winner < candidate_count ballots
    below = winner-below ballots t.winner (won_by ballots t (tabulated_there ballots bag t counted))

    pub fewest-printable : IsPrintable ballots t.winner (as_certificate found)
    fewest-printable =
        let n = candidate_count ballots in
        let records = ballots.rankings in
        let margin : IsMargin (length records) (margin_of ballots t.winner) = best-margin n t.winner records below counted.two some in
        let (order, least, among, hard) = order_is n t.winner (low n records) below counted.two in
        let printed : Some order ≡ Some found.order = sym least ∙ here.order in
        let same : order ≡ found.order = cc in
        let alternative : IsAlternative n t.winner order = (alternative_orders_are n t.winner order).0 among in
        record {
          some_records = let some = margin.some in let most = margin.most in omega (arith, some, most);
          candidate = below;
          margin = subst (IsMargin (length records)) (sym here.margin) margin;
          order = subst (λ o. is_order n o ≡ true) same alternative.0;
          claims = fewest-sound n t.winner sets (least_margin gap (margin_of ballots t.winner)) records found.claims.items here.claims;
        }

    pub fewest-found : (file : Content) → file ≡ content_of ballots t.winner (as_certificate found) → IsFewestFoundIn sets gap ballots file
    fewest-found file shown = subst (IsFewestFoundIn sets gap ballots) (sym shown) (record {
      winner = t.winner;
      won = won_by ballots t (tabulated_there ballots bag t counted);
      decided = positive-decided (candidate_count ballots) t.winner ballots.rankings below counted.two some;
      order = found.order;
      hardest = here.order;
      is = λ i. record (certificate_of ballots t.winner found.order) { margin = here.margin i; claims = found.claims.items };
      claims = here.claims;
      within = here.within;
    })

  pub fewest-spent : (order : List ℕ) (margin : ℕ) → ((records : List (List ℕ)) → IsOf bag records → AreSpent bag.n records t sets order margin) →
      (sets ≡ sets) × IsSpentFewest sets ballots order margin
  fewest-spent order margin h =
      let s = of_ballots ballots bag t counted (λ n records. AreSpent n records t sets order margin) h in (
        refl,
        record {
          winner = t.winner;
          won = won_by ballots t (tabulated_there ballots bag t counted);
          above = s.above;
          start = s.start;
          hardness = s.hardness;
          some = s.some;
        },
      )
