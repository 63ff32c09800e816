-- The canonical certificate of ballots is accepted.
use Rattle.std.proofs.Common.{◌≡◌, ◌≢◌, ℕ, ◌<◌, ◌≤◌, true, false, not, ◌&&◌, ◌==◌, nat_lt, List, [], ◌∷◌, length, map, count_by, Option, Some, None, Ok, Contains, refl, sym, ap, subst, arith, ◌∙◌, inl, inr, lt-ltb, le-ltb, eqb-true}
use Rattle.std.specs.Prelude.{IfSome}
use Rattle.std.specs.List.{list_any}
use Rattle.std.proofs.lemmas.Bool.{cases_Bool, cases_lt}
use Rattle.budget.specs.declared.budget.Budget.{Budget}
use Rattle.budget.specs.declared.budget.Budget.TheVariants.{Nodes, Sets}
use Rattle.irv_base.proofs.Members.{Member, member-map, from_map, contains-from_member, member-from_contains, from_list_all, from_find}
use Rattle.assertions.specs.declared.assertion.Assertion.{Assertion}
use Rattle.assertions.specs.declared.assertion.Claim.{Claim}
use Rattle.assertions.specs.Assertions.{is_true, true_margin}
use Rattle.assertions.specs.Certificate.{certificate_assertions, certificate_order, claim_of, cover_count}
use Rattle.assertions.specs.Hardness.{low, best_margin}
use Rattle.assertions.specs.Refutation.{refutes}
use Rattle.assertions.specs.Suffixes.{IsAlternative, alternative_orders, parts_ending}
use Rattle.assertions.proofs.Certificates.{certificate_is_true, certificate-le, certificate_covers, certificate_has_best}
use Rattle.assertions.proofs.Elections.{from_covers}
use Rattle.assertions.proofs.Endings.{from_alternative, alternative-member}
use Rattle.assertions.proofs.Listings.{parts_ending_are}
use Rattle.assertions.proofs.Shortest.{certificate_refutes}
use Rattle.assertions.proofs.Sums.{true_margin_is}
use Rattle.suffix_walk.specs.Search.{is_passed}
use Rattle.suffix_walk.proofs.Counts.{count-same}
use Rattle.assertions.specs.Steps.{step}
use Rattle.set_walk.specs.Walks.{standing, passes}
use Rattle.set_walk.proofs.Counted.{counted_stand}
use Rattle.set_walk.proofs.Orders.{standing_by_sets}
use Rattle.set_walk.proofs.Standing.{certificate_stands}
use Rattle.ballots.specs.Ballots.{BallotFile}
use Rattle.assertion_file.specs.Content.{Content, IsSound, candidate_count}
use Rattle.cover_checker.specs.Covers.{stands, covered_is, standing_order, standing_count, standing_sets, IsEnough, IsEnoughBelow}
use Rattle.cover_checker.specs.Findings.{assertions_of}
use Rattle.cover_checker.specs.Checks.{IsAnswer}
use Rattle.cover_checker.specs.Holds.{Holds, IsCertificateOf, IsHardest}
use Rattle.cover_checker.specs.declared.cover.Verdict.TheVariants.{Covered}
use Rattle.cover_checker.specs.declared.checked.Checked.TheVariants.{Accepted}
use Rattle.cover_checker.proofs.Held.{assertion_in, all-from_members, refuting_claim, held-accepted}
use Rattle.cover_checker.proofs.Nothing.{HasItsMargin}
use Rattle.cover_checker.proofs.Verdicts.{stands_not_covers}
use Rattle.cover_checker.proofs.Enough.{covers-covered}

assertions-claims : (records : List (List ℕ)) (list : List Assertion) → map assertion_in (map (claim_of records) list) ≡ list
assertions-claims records [] = refl
assertions-claims records (a ∷ list) = ap (λ rest. a ∷ rest) (assertions-claims records list)

-- ---- `covered` on the certificate
module _ (n winner : ℕ) (records : List (List ℕ)) (positive : 0 < best_margin n winner (low n records)) where
  abbrev best : ℕ
  best = best_margin n winner (low n records)

  abbrev listed : List Assertion
  listed = certificate_assertions n records winner

  no_order : standing_order n winner listed ≡ None
  no_order = go (standing_order n winner listed) refl where
    go : (o : Option (List ℕ)) → standing_order n winner listed ≡ o → o ≡ None
    go None e = refl
    go (Some order) e = absurd (stands_not_covers n winner (Nodes 0) listed order e (certificate_covers n winner records positive))

  -- the suffixes that count are those below the best margin
  stands-below : (c : ℕ) (suffix : List ℕ) → c < n → c ≢ winner → Member suffix (parts_ending n c) →
      (stands listed suffix && true) ≡ nat_lt (low n records suffix) best
  stands-below c suffix below ne m =
      let (proper, elects, short) = (parts_ending_are n c suffix below).0 (contains-from_member m) in
      let refuted = certificate_refutes n winner c records suffix positive proper elects ne in
      elim (cases_lt (low n records suffix) best) [
        | inl lt ↦
            let free : list_any (λ a. refutes a suffix) listed ≡ false =
            elim (cases_Bool (list_any (λ a. refutes a suffix) listed)) [ inl t ↦ absurd (omega (arith, lt, refuted.0 t)) | inr f ↦ f ] in
            ap (λ b. not b && true) free ∙ sym (lt-ltb (low n records suffix) best lt)
        | inr ge ↦ ap (λ b. not b && true) (refuted.1 ge) ∙ sym (le-ltb (low n records suffix) best ge)
      ]

  count-below : (c : ℕ) → c < n → c ≢ winner → standing_count n winner listed c ≡ cover_count n (low n records) best c
  count-below c below ne =
      ap (λ o. count_by (λ suffix. stands listed suffix && is_passed o suffix) (parts_ending n c)) no_order
      ∙ count-same (λ suffix. stands listed suffix && true) (λ suffix. nat_lt (low n records suffix) best) (parts_ending n c)
      (λ suffix m. stands-below c suffix below ne m)

  -- the sets that count are those that stand below it
  sets-below : standing_sets n winner listed ≡ length (standing n winner (λ set c. nat_lt (step n records set c) best))
  sets-below =
      ap length ((counted_stand n winner (passes listed)).1 (sym (standing_by_sets n winner listed) ∙ no_order))
      ∙ ap length (certificate_stands n winner records positive)

  enough-below : (budget : Budget) → IsEnoughBelow budget n winner records best → IsEnough budget n winner listed
  enough-below (Nodes nodes) few = λ c below ne. subst (λ k. k ≤ nodes) (sym (count-below c below ne)) (few c below ne)
  enough-below (Sets sets) few = subst (λ k. k ≤ sets) (sym sets-below) few

  pub certificate-covered : (budget : Budget) → IsEnoughBelow budget n winner records best → covered_is n winner listed budget ≡ Ok Covered
  certificate-covered budget few = covers-covered n winner listed budget (certificate_covers n winner records positive) (enough-below budget few)

-- ---- the certificate as a file
module _ (ballots : BallotFile) (file : Content) (sound : IsSound file) (is : IsCertificateOf ballots file) where
  abbrev own : List Assertion
  own = certificate_assertions (candidate_count file) ballots.rankings file.winner

  abbrev least_of : ℕ
  least_of = best_margin (candidate_count file) file.winner (low (candidate_count file) ballots.rankings)

  some_best : 0 < least_of
  some_best = omega (arith, sound.margin.some, is.margin)

  own_assertions : assertions_of file ≡ own
  own_assertions = ap (map assertion_in) is.claims ∙ assertions-claims ballots.rankings own

  -- every claim is of one of the assertions
  from_own : (claim : Claim) → Member claim file.claims → (a : Assertion) × Member a own × (claim_of ballots.rankings a ≡ claim)
  from_own claim m = from_map (claim_of ballots.rankings) claim own (subst (Member claim) is.claims m)

  own-holds : Holds ballots file
  own-holds =
      record {
        contest = is.contest;
        candidates = is.candidates;
        records = is.records;
        winner = is.winner;
        margins = all-from_members (HasItsMargin ballots.rankings) file.claims margins;
        cover = cover;
        reached = reached (certificate_has_best (candidate_count file) file.winner ballots.rankings sound.winner (omega (arith, sound.fewest)) some_best);
        smallest = all-from_members (λ claim. file.margin ≤ claim.margin) file.claims smallest;
        best = best file.order is.order;
        draws = is.draws;
      }
    where
      margins : (claim : Claim) → Member claim file.claims → HasItsMargin ballots.rankings claim
      margins claim m =
          let (a, k, e) = from_own claim m in
          let t : is_true ballots.rankings a ≡ true = from_list_all (is_true ballots.rankings) k
          (certificate_is_true (candidate_count file) file.winner ballots.rankings) in
          subst (HasItsMargin ballots.rankings) e (sym ((true_margin_is ballots.rankings a).1 t))

      cover : (order : List ℕ) → IsAlternative (candidate_count file) file.winner order → (claim : Claim) × Contains file.claims claim ×
          (refutes claim.assertion order ≡ true)
      cover order (whole, (c, ne, elects)) =
          let (a, m, r) = from_covers (candidate_count file) file.winner own order
          (certificate_covers (candidate_count file) file.winner ballots.rankings some_best)
          (alternative-member (candidate_count file) file.winner c order whole ne elects) in
          refuting_claim file.claims order a (subst (Member a) (sym own_assertions) m) r

      reached : (a : Assertion) × Contains own a × (true_margin ballots.rankings a ≡ least_of) →
          (claim : Claim) × Contains file.claims claim × (claim.margin ≡ file.margin)
      reached (a, k, e) =
          let m : Member (claim_of ballots.rankings a) file.claims =
          subst (Member (claim_of ballots.rankings a)) (sym is.claims) (member-map (claim_of ballots.rankings) (member-from_contains a own k)) in
          (claim_of ballots.rankings a, contains-from_member m, e ∙ sym is.margin)

      smallest : (claim : Claim) → Member claim file.claims → file.margin ≤ claim.margin
      smallest claim m =
          let (a, k, e) = from_own claim m in
          let le : least_of ≤ true_margin ballots.rankings a = certificate-le (candidate_count file) file.winner ballots.rankings a k in
          subst (λ claim. file.margin ≤ claim.margin) e (omega (arith, le, is.margin))

      best : (order : Option (List ℕ)) →
          certificate_order (candidate_count file) file.winner (low (candidate_count file) ballots.rankings) file.margin ≡ order →
          IfSome order (IsHardest ballots file)
      best None e = tt
      best (Some order) e =
          let found = from_find (λ order. low (candidate_count file) ballots.rankings order == file.margin) order
          (alternative_orders (candidate_count file) file.winner) e in
          record {
            alternative = from_alternative (candidate_count file) file.winner order found.0;
            hardest = omega (arith, eqb-true (low (candidate_count file) ballots.rankings order) file.margin found.1);
          }

pub certificate_is_accepted : (budget : Budget) (ballots : BallotFile) (file : Content) → IsSound file → IsCertificateOf ballots file →
    IsEnoughBelow budget (candidate_count file) file.winner ballots.rankings file.margin → IsAnswer budget ballots file (Ok Accepted)
certificate_is_accepted budget ballots file sound is within =
    let n = candidate_count file in
    let covered = certificate-covered n file.winner ballots.rankings (some_best ballots file sound is) budget
    (subst (IsEnoughBelow budget n file.winner ballots.rankings) is.margin within) in
    held-accepted budget ballots file (own-holds ballots file sound is)
    (ap (λ list. covered_is n file.winner list budget) (own_assertions ballots file sound is) ∙ covered)
