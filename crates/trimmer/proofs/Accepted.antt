-- A trimmed file is accepted if the file that was read is.
use Rattle.std.proofs.Common.{◌≡◌, ℕ, ◌≤◌, List, [], ◌∷◌, length, map, Option, Some, None, Ok, All, Contains, refl, sym, ap, subst, arith, true, ◌∙◌}
use Rattle.std.specs.Prelude.{option_map, IfSome}
use Rattle.std.proofs.lemmas.List.Elements.{All-contains}
use Rattle.irv_base.specs.Tabulation.{least}
use Rattle.irv_base.proofs.Least.{least-member, least_is}
use Rattle.irv_base.proofs.Members.{here, contains-from_member, from_map, member-from_contains, member-map, member_nil}
use Rattle.budget.specs.declared.budget.Budget.{Budget}
use Rattle.assertions.specs.declared.assertion.Claim.{Claim}
use Rattle.assertions.specs.Refutation.{refutes, covers}
use Rattle.assertions.specs.Suffixes.{IsAlternative}
use Rattle.assertions.proofs.Alternatives.{some_alternative}
use Rattle.assertions.proofs.Elections.{from_covers}
use Rattle.assertions.proofs.Endings.{alternative-member}
use Rattle.assertions.proofs.Lows.{low-refuter}
use Rattle.ballots.specs.Ballots.{BallotFile}
use Rattle.assertion_file.specs.Content.{Content, Plan, IsMargin, IsSound, IsSoundClaim, candidate_count}
use Rattle.cover_checker.specs.Checks.{IsAnswer}
use Rattle.cover_checker.specs.Draws.{HasCleanDraws, IsPlanOf, clean_draws_of}
use Rattle.cover_checker.specs.Holds.{Holds, IsHardest}
use Rattle.cover_checker.specs.declared.checked.Checked.TheVariants.{Accepted}
use Rattle.cover_checker.specs.declared.cover.Verdict.TheVariants.{Covered}
use Rattle.cover_checker.proofs.Best.{its-margin}
use Rattle.cover_checker.proofs.Exactly.{accepted-covered}
use Rattle.cover_checker.proofs.Held.{accepted-held, held-accepted, refuting_claim, all-from_members}
use Rattle.cover_checker.proofs.Nothing.{HasItsMargin}
use Rattle.cover_checker.proofs.Verdicts.{covered_iff_covers}
use Rattle.trimmer.specs.Laws.{IsPartOf}
use Rattle.trimmer.specs.Trimmed.{trimmed, covered_by, draws_left, left_of, margin_left, margin_with, plan_left, with_draws}
use Rattle.trimmer.proofs.Draws.{draws-map}
use Rattle.trimmer.proofs.Kept.{part-member}
use Rattle.trimmer.proofs.Lefts.{assertion_in, from_trimmed, left-part, left-covered}

pub all-part : (P : Claim → Type 0) {part whole : List Claim} → IsPartOf part whole → All P whole → All P part
all-part P {part} {whole} p h = all-from_members P part (λ claim m. All-contains P whole claim h (contains-from_member (part-member p claim m)))

abbrev margin_in : Claim → ℕ
margin_in claim = claim.margin

-- claims that cover aren't empty
pub some-claim : (file : Content) (claims : List Claim) → IsSound file →
    covers (candidate_count file) file.winner (map assertion_in claims) ≡ true → (claim : Claim) × Contains claims claim
some-claim file claims sound covering =
    let (order, m) = some_alternative (candidate_count file) file.winner sound.winner (omega (arith, sound.fewest)) in
    let (a, k, r) = from_covers (candidate_count file) file.winner (map assertion_in claims) order covering m in
    let (claim, l, e) = from_map assertion_in a claims k in
    (claim, contains-from_member l)

module _ (ballots : BallotFile) (file : Content) (claims : List Claim) (sound : IsSound file) (h : Holds ballots file) (part : IsPartOf claims file.claims)
    (covering : covers (candidate_count file) file.winner (map assertion_in claims) ≡ true) (plan : Option Plan) (planned : IfSome plan (IsPlanOf claims))
    (some : (claim : Claim) × Contains claims claim) where
  abbrev left : Content
  left = record file { margin = margin_left file claims; claims = claims; plan = plan }

  refuted : (order : List ℕ) → IsAlternative (candidate_count file) file.winner order →
      (claim : Claim) × Contains claims claim × (refutes claim.assertion order ≡ true)
  refuted order alternative =
      let m = alternative-member (candidate_count file) file.winner alternative.1.0 order alternative.0 alternative.1.1 alternative.1.2 in
      let (a, k, r) = from_covers (candidate_count file) file.winner (map assertion_in claims) order covering m in
      refuting_claim claims order a k r

  -- a claim with the file's margin refutes the file's order, since no true assertion that refutes it has a larger margin
  reached_by : (order : List ℕ) → IsHardest ballots file order → (claim : Claim) × Contains claims claim × (claim.margin ≡ file.margin)
  reached_by order hard =
      let (claim, k, r) = refuted order hard.alternative in
      let was : Contains file.claims claim = contains-from_member (part-member part claim (member-from_contains claim claims k)) in
      let proper : IsSoundClaim (candidate_count file) file.records claim =
      All-contains (IsSoundClaim (candidate_count file) file.records) file.claims claim sound.claims was in
      let its = its-margin ballots.rankings claim proper.margin.some
      (All-contains (HasItsMargin ballots.rankings) file.claims claim h.margins was) in
      let below = low-refuter (candidate_count file) ballots.rankings order claim.assertion proper.proper r in
      let above = All-contains (λ claim. file.margin ≤ claim.margin) file.claims claim h.smallest was in
      (claim, k, omega (arith, its, below, above, hard.hardest))

  -- the margin of what is left is the smallest
  record IsMarginOf (order : Option (List ℕ)) (margin : ℕ) : Type 0 where
    reached : (claim : Claim) × Contains claims claim × (claim.margin ≡ margin)
    smallest : All (λ claim. margin ≤ claim.margin) claims
    best : IfSome order (IsHardest ballots (record file { margin = margin; claims = claims; plan = plan }))

  margin_is : (order : Option (List ℕ)) → IfSome order (IsHardest ballots file) → IsMarginOf order (margin_with order file.margin claims)
  margin_is None hard =
      let (claim, k, e) = from_map margin_in (least (map margin_in claims)) claims (least_is (member-map margin_in (member-from_contains some.0 claims some.1))) in
      record {
        reached = (claim, contains-from_member k, e);
        smallest = all-from_members (λ claim. least (map margin_in claims) ≤ claim.margin) claims (λ claim m.
            least-member claim.margin (map margin_in claims) (member-map margin_in m));
        best = tt;
      }
  margin_is (Some order) hard = record {
    reached = reached_by order hard;
    smallest = all-part (λ claim. file.margin ≤ claim.margin) part h.smallest;
    best = record { alternative = hard.alternative; hardest = hard.hardest };
  }

  pub part-holds : Holds ballots left
  part-holds =
      let margin = margin_is file.order h.best in
      record {
        contest = h.contest;
        candidates = h.candidates;
        records = h.records;
        winner = h.winner;
        margins = all-part (HasItsMargin ballots.rankings) part h.margins;
        cover = refuted;
        reached = margin.reached;
        smallest = margin.smallest;
        best = margin.best;
        draws = planned;
      }

-- what is left of claims that cover isn't empty
pub some-left : (budget : Budget) (file : Content) (left : List Claim) → IsSound file → left_of budget file [] file.claims ≡ Ok left →
    covered_by budget file file.claims ≡ Ok Covered → 1 ≤ length left
some-left budget file left sound e h =
    let covered : covered_by budget file left ≡ Ok Covered = left-covered budget file [] file.claims left e h in
    let covering : covers (candidate_count file) file.winner (map assertion_in left) ≡ true =
    (covered_iff_covers (candidate_count file) file.winner budget (map assertion_in left) Covered covered).0 refl in
    by left (some-claim file left sound covering)
  where
    by : (left : List Claim) → (claim : Claim) × Contains left claim → 1 ≤ length left
    by [] (claim, k) = absurd (member_nil (member-from_contains claim [] k))
    by (first ∷ left) found = omega arith

-- the margin of what is left is a margin for these records
pub sound-margin : (file : Content) (claims : List Claim) → IsMargin file.records file.margin → 1 ≤ length claims →
    All (IsSoundClaim (candidate_count file) file.records) claims → IsMargin file.records (margin_left file claims)
sound-margin file claims own some sound = by file.order claims some sound where
  by : (order : Option (List ℕ)) (claims : List Claim) → 1 ≤ length claims → All (IsSoundClaim (candidate_count file) file.records) claims →
      IsMargin file.records (margin_with order file.margin claims)
  by (Some order) claims some sound = own
  by None [] some sound = absurd (omega (arith, some))
  by None (first ∷ claims) some sound =
      let all = first ∷ claims in
      let (claim, k, e) = from_map margin_in (least (map margin_in all)) all (least_is (member-map margin_in {x = first} here)) in
      subst (IsMargin file.records) e (All-contains (IsSoundClaim (candidate_count file) file.records) all claim sound (contains-from_member k)).margin

-- if the draws of all claims are their clean draws, so are those of the claims that are left
clean-left : (budget : Budget) (file : Content) (left : List Claim) → left_of budget file [] file.claims ≡ Ok left → HasCleanDraws file →
    IfSome (plan_left budget file) (IsPlanOf left)
clean-left budget file left e has = by file.plan has where
  by : (plan : Option Plan) → IfSome plan (IsPlanOf file.claims) →
      IfSome (option_map (λ plan. with_draws (draws_left budget file [] file.claims plan.draws) plan) plan) (IsPlanOf left)
  by None has = tt
  by (Some plan) has =
      ap (draws_left budget file [] file.claims) has
      ∙ draws-map budget file (clean_draws_of plan) [] file.claims left e

pub trimmed_is_accepted : (budget : Budget) (ballots : BallotFile) (file left : Content) → IsSound file → IsAnswer budget ballots file (Ok Accepted) →
    trimmed budget file ≡ Ok left → IsAnswer budget ballots left (Ok Accepted)
trimmed_is_accepted budget ballots file left sound h e =
    let t = from_trimmed budget file left e in
    let covered : covered_by budget file left.claims ≡ Ok Covered =
    left-covered budget file [] file.claims left.claims t.claims (accepted-covered budget ballots file sound h) in
    let covering : covers (candidate_count file) file.winner (map assertion_in left.claims) ≡ true =
    (covered_iff_covers (candidate_count file) file.winner budget (map assertion_in left.claims) Covered covered).0 refl in
    let part : IsPartOf left.claims file.claims = left-part budget file [] file.claims left.claims t.claims in
    let held = accepted-held budget ballots file sound h in
    let planned : IfSome left.plan (IsPlanOf left.claims) = subst (λ plan. IfSome plan (IsPlanOf left.claims)) (sym t.plan)
    (clean-left budget file left.claims t.claims held.draws) in
    let some = some-claim file left.claims sound covering in
    let holds = part-holds ballots file left.claims sound held part covering left.plan planned some in
    subst (λ content. IsAnswer budget ballots content (Ok Accepted)) (sym t.same)
    (held-accepted budget ballots (record file { margin = margin_left file left.claims; claims = left.claims; plan = left.plan }) holds covered)
