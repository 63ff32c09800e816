-- The checker accepts what a search for the fewest NENs finds, with or without the draws of a clean audit.
use Rattle.std.proofs.Common.{◌≡◌, ℕ, ◌<◌, ◌≤◌, Bool, true, ◌&&◌, ◌==◌, if◌then◌else◌, nat_le, List, length, Option, Some, None, Ok, All, Contains, IfSome, refl, sym, ap, subst, arith, eq-eqb, eqb-true, ◌∙◌}
use Rattle.std.proofs.lemmas.Bool.{and_parts}
use Rattle.std.proofs.lemmas.List.Elements.{All-contains}
use Rattle.budget.specs.declared.budget.Budget.TheVariants.{Sets}
use Rattle.irv_base.specs.Names.{Id}
use Rattle.irv_base.specs.Orders.{is_order}
use Rattle.irv_base.proofs.Members.{Member, contains-from_member, from_find, member-map}
use Rattle.assertions.specs.declared.assertion.Claim.{Claim}
use Rattle.assertions.specs.Assertions.{is_proper, is_true, true_margin}
use Rattle.assertions.specs.Suffixes.{IsAlternative, alternative_orders}
use Rattle.assertions.proofs.Decided.{decided-positive}
use Rattle.assertions.proofs.Elections.{from_covers}
use Rattle.assertions.proofs.Endings.{from_alternative, alternative-member}
use Rattle.assertions.proofs.Sums.{true_margin_is}
use Rattle.ballots.specs.Ballots.{BallotFile}
use Rattle.ballots.specs.Grammar.{ballots_of}
use Rattle.assertion_file.specs.Content.{Content, Plan, IsSound, IsSoundPlan}
use Rattle.assertion_file.specs.Reading.{assertion_file_of}
use Rattle.assertion_file.specs.Text.{assertion_file_text}
use Rattle.assertion_file.proofs.Printed.{printed_reads_back}
use Rattle.set_walk.specs.Walks.{passes}
use Rattle.cover_checker.specs.Checks.{IsAnswer}
use Rattle.cover_checker.specs.Draws.{IsPlanOf}
use Rattle.cover_checker.specs.Holds.{Holds, IsHardest}
use Rattle.cover_checker.specs.declared.checked.Checked.TheVariants.{Accepted}
use Rattle.cover_checker.proofs.Enough.{covers-covered}
use Rattle.cover_checker.proofs.Held.{all-from_members, held-accepted, refuting_claim}
use Rattle.cover_checker.proofs.Nothing.{HasItsMargin}
use Rattle.nen_cut.specs.Floors.{assertions_in}
use Rattle.set_search.proofs.Deciding.{from_ok}
use Rattle.fewest_search.specs.Answers.{AreFewest}
use Rattle.fewest_search.proofs.Findings.{each-enough}
use Rattle.fewest_search.specs.Gap.{least_margin}
use Rattle.fewest_search.proofs.Gaps.{no_gap_is_best as least_is_best}
use Rattle.fewest_search.proofs.Needs.{none-above_best, some-at_best}
use Rattle.contest_search.specs.Certificate.{certificate_of, low_of, margin_of, order_of}
use Rattle.contest_search.specs.Contest.{candidate_count, IsWon, IsElected}
use Rattle.contest_search.specs.Fewest.{IsFewestFoundIn, with_own_margin}
use Rattle.contest_search.specs.FewestLaws.{FewestIsAccepted, NoGapIsBest, PlannedFewestIsAccepted}
use Rattle.contest_search.specs.Planned.{plan_of}
use Rattle.contest_search.proofs.Contests.{winner-below}
use Rattle.contest_search.proofs.FewestFound.{fewest-sound}
use Rattle.contest_search.proofs.OwnMargin.{by-order, own, own-reached, own-smallest, own-sound}
use Rattle.contest_search.proofs.Plans.{plan_clean, plan_sound}
use Rattle.contest_search.proofs.ReadBallots.{IsFit, ballots_fit}

-- it holds for these ballots, can be read back from its text, and is accepted
abbrev pub IsTaken : ℕ → BallotFile → Content → Type 0
IsTaken sets ballots file =
    Holds ballots file × (assertion_file_of (assertion_file_text file) ≡ Ok file) × IsAnswer (Sets sets) ballots file (Ok Accepted)

module _ (ballots : BallotFile) (fit : IsFit ballots) (winner : ℕ) (won : IsWon ballots winner) (decided : IsElected ballots winner) (order : List ℕ)
    (hardest : order_of ballots winner ≡ Some order) (sets floor : ℕ) (claims : List Claim)
    (are : AreFewest (candidate_count ballots) ballots.rankings winner sets floor claims) (plan : Option Plan) where
  abbrev n : ℕ
  n = candidate_count ballots

  abbrev is-best : Bool
  is-best = own claims == margin_of ballots winner

  abbrev file : Content
  file = record (certificate_of ballots winner order) { margin = own claims; order = if is-best then Some order else None; claims = claims; plan = plan }

  found : Member order (alternative_orders n winner) × ((low_of ballots order == margin_of ballots winner) ≡ true)
  found = from_find (λ order. low_of ballots order == margin_of ballots winner) order (alternative_orders n winner) hardest

  abbrev alternative : IsAlternative n winner order
  alternative = from_alternative n winner order found.0

  abbrev some-claim : (claim : Claim) × Contains claims claim × (claim.margin ≤ margin_of ballots winner)
  some-claim = none-above_best n winner sets floor ballots.rankings claims (winner-below ballots winner won) fit.fewest are

  sound : IfSome plan (IsSoundPlan (length ballots.rankings) (length claims)) → IsSound file
  sound planned =
      let records = ballots.rankings in
      let two = fit.fewest in
      let each = fewest-sound n winner sets floor records claims are in
      let margin = own-sound claims n (length records) each some-claim.0 some-claim.1 in
      record {
        fewest = omega (arith, two);
        most = fit.most;
        differ = fit.differ;
        some_records = let some = margin.some in let most = margin.most in omega (arith, some, most);
        most_records = fit.few;
        winner = winner-below ballots winner won;
        order = by-order is-best order (λ order. is_order n order ≡ true) (λ _. alternative.0);
        margin = margin;
        claims = each;
        plan = planned;
      }

  its : (claim : Claim) → Member claim claims → claim.margin ≡ true_margin ballots.rankings claim.assertion
  its claim m =
      All-contains (λ (claim : Claim). claim.margin ≡ true_margin ballots.rankings claim.assertion) claims claim are.measured (contains-from_member m)

  has-margin : (claim : Claim) → Member claim claims → HasItsMargin ballots.rankings claim
  has-margin claim m =
      let records = ballots.rankings in
      let a = claim.assertion in
      let enough = each-enough n winner records floor (assertions_in claims) are.fewest a (member-map (λ (claim : Claim). claim.assertion) m) in
      let (_, rest) = and_parts (is_proper n a) (is_true records a && nat_le floor (true_margin records a)) enough in
      let (holds, _) = and_parts (is_true records a) (nat_le floor (true_margin records a)) rest in
      ap Rattle.std.proofs.Common.pos (its claim m) ∙ sym ((true_margin_is records a).1 holds)

  holds : IfSome plan (IsPlanOf claims) → Holds ballots file
  holds clean = record {
    contest = refl;
    candidates = refl;
    records = refl;
    winner = won;
    margins = all-from_members (HasItsMargin ballots.rankings) claims has-margin;
    cover = λ other (whole, (c, ne, elects)).
        let (a, m, r) = from_covers n winner (assertions_in claims) other are.fewest.complete.covering
        (alternative-member n winner c other whole ne elects) in
        refuting_claim claims other a m r;
    reached = own-reached claims some-claim.0 some-claim.1;
    smallest = own-smallest claims;
    best = by-order is-best order (IsHardest ballots file) (λ same.
        record {
          alternative = alternative;
          hardest =
              let e = eqb-true (low_of ballots order) (margin_of ballots winner) found.1 in
              let at = eqb-true (own claims) (margin_of ballots winner) same in
              omega (arith, e, at);
        });
    draws = clean;
  }

  accepted : IfSome plan (IsPlanOf claims) → IsAnswer (Sets sets) ballots file (Ok Accepted)
  accepted clean =
      held-accepted (Sets sets) ballots file (holds clean)
      (covers-covered n winner (assertions_in claims) (Sets sets) are.fewest.complete.covering
      (from_ok n winner sets (passes (assertions_in claims)) None are.covered).0)

  taken : IfSome plan (IsSoundPlan (length ballots.rankings) (length claims)) → IfSome plan (IsPlanOf claims) → IsTaken sets ballots file
  taken planned clean =
      (holds clean, printed_reads_back file (sound planned) (record { contest = fit.contest; candidates = fit.candidates }), accepted clean)

-- it has some claim
pub some-claims : (sets gap : ℕ) (ballots : BallotFile) (file : Content) → 1 < candidate_count ballots → IsFewestFoundIn sets gap ballots file →
    1 ≤ length file.claims
some-claims sets gap ballots file two found =
    let (claim, k, le) = none-above_best (candidate_count ballots) found.winner sets (least_margin gap (margin_of ballots found.winner)) ballots.rankings
    file.claims (winner-below ballots found.winner found.won) two found.claims in
    let below = k.1 in
    omega (arith, below)

pub accepted_with : (sets gap : ℕ) (bytes : List ℕ) (asked : Option Id) (ballots : BallotFile) (file : Content) (plan : Option Plan) →
    ballots_of bytes asked ≡ Ok ballots → IsFewestFoundIn sets gap ballots file → IfSome plan (IsSoundPlan file.records (length file.claims)) →
    IfSome plan (IsPlanOf file.claims) → IsTaken sets ballots (record (with_own_margin file) { plan = plan })
accepted_with sets gap bytes asked ballots file plan read found sound clean =
    let fit = ballots_fit bytes asked ballots read in
    let records : file.records ≡ length ballots.rankings = ap (λ (f : Content). f.records) found.is in
    subst (λ (f : Content). IsTaken sets ballots (record (with_own_margin f) { plan = plan })) (sym found.is)
    (taken ballots fit found.winner found.won found.decided found.order found.hardest sets (least_margin gap (margin_of ballots found.winner)) file.claims
    found.claims plan (subst (λ records. IfSome plan (IsSoundPlan records (length file.claims))) records sound) clean)

pub fewest_is_accepted : FewestIsAccepted
fewest_is_accepted sets gap bytes asked ballots file read found =
    let none : None ≡ file.plan = sym (ap (λ (f : Content). f.plan) found.is) in
    let own' = with_own_margin file in
    let same : record own' { plan = None } ≡ own' = λ i. record own' { plan = none i } in
    subst (IsTaken sets ballots) same (accepted_with sets gap bytes asked ballots file None read found tt tt)

pub planned_fewest_is_accepted : PlannedFewestIsAccepted
planned_fewest_is_accepted cards gamma limit sets gap bytes asked ballots file can read found =
    accepted_with sets gap bytes asked ballots file (Some (plan_of cards gamma limit file)) read found
    (plan_sound cards gamma limit file.records file.claims can) (plan_clean cards gamma limit file.claims)

-- ---- without a gap

with-best : (file : Content) → own file.claims ≡ file.margin → with_own_margin file ≡ file
with-best file same =
    let is : (own file.claims == file.margin) ≡ true = eq-eqb (own file.claims) file.margin same in
    let order : (if own file.claims == file.margin then file.order else None) ≡ file.order =
    ap (λ b. if b then file.order else None) is in
    λ i. record file { margin = same i; order = order i }

pub no_gap_is_best : NoGapIsBest
no_gap_is_best sets bytes asked ballots file read found =
    let n = candidate_count ballots in
    let best = margin_of ballots found.winner in
    let below = winner-below ballots found.winner found.won in
    let two = (ballots_fit bytes asked ballots read).fewest in
    let some = decided-positive n found.winner ballots.rankings below two found.decided in
    let are = subst (λ floor. AreFewest n ballots.rankings found.winner sets floor file.claims) (least_is_best best some) found.claims in
    let (all, (claim, k, at)) = some-at_best n found.winner sets ballots.rankings file.claims below two are in
    let (other, there, e) = own-reached file.claims claim k in
    let ge = All-contains (λ (claim : Claim). best ≤ claim.margin) file.claims other all there in
    let le = All-contains (λ (claim : Claim). own file.claims ≤ claim.margin) file.claims claim (own-smallest file.claims) k in
    let is = ap (λ (f : Content). f.margin) found.is in
    with-best file (omega (arith, e, ge, le, at, is))
