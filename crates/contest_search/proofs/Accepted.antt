-- The checker accepts what a search finds, with or without the draws of a clean audit.
use Rattle.std.proofs.Common.{◌≡◌, ℕ, true, List, length, Option, Some, None, Ok, IfSome, refl, sym, ap, subst, arith, ◌∙◌}
use Rattle.budget.specs.declared.budget.Budget.{Budget}
use Rattle.budget.specs.declared.budget.Budget.TheVariants.{Nodes, Sets}
use Rattle.irv_base.specs.Orders.{is_order}
use Rattle.assertions.specs.Certificate.{certificate_claims}
use Rattle.assertions.specs.Suffixes.{IsAlternative}
use Rattle.assertions.proofs.Alternatives.{order_is}
use Rattle.assertions.proofs.Endings.{alternative_orders_are}
use Rattle.assertions.proofs.Decided.{decided-positive}
use Rattle.irv_base.specs.Names.{Id}
use Rattle.ballots.specs.Ballots.{BallotFile}
use Rattle.ballots.specs.Grammar.{ballots_of}
use Rattle.assertions.specs.declared.assertion.Claim.{Claim}
use Rattle.assertion_file.specs.Content.{Content, Plan, IsMargin, IsSound, IsSoundClaim, IsSoundPlan}
use Rattle.assertion_file.specs.Reading.{assertion_file_of}
use Rattle.assertion_file.specs.Text.{assertion_file_text}
use Rattle.assertion_file.proofs.Printed.{printed_reads_back}
use Rattle.cover_checker.specs.Checks.{IsAnswer}
use Rattle.cover_checker.specs.Covers.{IsEnoughBelow}
use Rattle.cover_checker.specs.Draws.{IsPlanOf}
use Rattle.cover_checker.specs.Holds.{IsCertificateOf}
use Rattle.cover_checker.specs.declared.checked.Checked.TheVariants.{Accepted}
use Rattle.cover_checker.proofs.Certified.{certificate_is_accepted}
use Rattle.cover_checker.proofs.Held.{all-from_members}
use Rattle.contest_search.specs.Budget.{IsInBudget}
use Rattle.contest_search.specs.Certificate.{low_of, margin_of, order_of, certificate_of}
use Rattle.contest_search.specs.Contest.{candidate_count, IsWon, IsElected}
use Rattle.contest_search.specs.Found.{IsFoundIn}
use Rattle.contest_search.specs.Laws.{FoundIsAccepted, PlannedIsAccepted}
use Rattle.contest_search.specs.Planned.{plan_of}
use Rattle.contest_search.proofs.Contests.{winner-below}
use Rattle.contest_search.proofs.Findings.{best-margin, claim-sound}
use Rattle.contest_search.proofs.Plans.{plan_clean, plan_sound}
use Rattle.contest_search.proofs.ReadBallots.{IsFit, ballots_fit}

-- it is the certificate of these ballots, can be read back from its text, and is accepted
abbrev pub IsTaken : Budget → BallotFile → Content → Type 0
IsTaken budget ballots file =
    IsCertificateOf ballots file × (assertion_file_of (assertion_file_text file) ≡ Ok file) × IsAnswer budget ballots file (Ok Accepted)

module _ (ballots : BallotFile) (fit : IsFit ballots) (winner : ℕ) (won : IsWon ballots winner) (decided : IsElected ballots winner) (order : List ℕ)
    (least : order_of ballots winner ≡ Some order) (plan : Option Plan) where
  is_an_order : is_order (candidate_count ballots) order ≡ true
  is_an_order =
      let n = candidate_count ballots in
      let (first, found, among, hard) = order_is n winner (low_of ballots) (winner-below ballots winner won) fit.fewest in
      let alternative : IsAlternative n winner first = (alternative_orders_are n winner first).0 among in
      let both : Some first ≡ Some order = sym found ∙ least in
      let same : first ≡ order = cc in
      subst (λ o. is_order n o ≡ true) same alternative.0

  abbrev claims : List Claim
  claims = certificate_claims (candidate_count ballots) ballots.rankings winner

  -- the certificate with this plan
  abbrev file : Content
  file = record (certificate_of ballots winner order) { plan = plan }

  sound : IfSome plan (IsSoundPlan (length ballots.rankings) (length claims)) → IsSound file
  sound planned =
      let n = candidate_count ballots in
      let records = ballots.rankings in
      let below = winner-below ballots winner won in
      let two = fit.fewest in
      let margin : IsMargin (length records) (margin_of ballots winner) = best-margin n winner records below two
      (decided-positive n winner records below two decided) in
      record {
        fewest = omega (arith, two);
        most = fit.most;
        differ = fit.differ;
        some_records = let some = margin.some in let most = margin.most in omega (arith, some, most);
        most_records = fit.few;
        winner = below;
        order = is_an_order;
        margin = margin;
        claims = all-from_members (IsSoundClaim n (length records)) claims (claim-sound n winner records);
        plan = planned;
      }

  says : IfSome plan (IsPlanOf claims) → IsCertificateOf ballots file
  says clean = record {
    contest = refl;
    candidates = refl;
    records = refl;
    winner = won;
    margin = refl;
    order = least;
    claims = refl;
    draws = clean;
  }

  enough : (budget : Budget) → IsInBudget ballots winner budget → IsEnoughBelow budget (candidate_count ballots) winner ballots.rankings (margin_of ballots winner)
  enough (Nodes nodes) within = λ c below other. let few = within c (record { candidate = below; other = other }) in omega (arith, few)
  enough (Sets sets) within = omega (arith, within)

  accepted : IfSome plan (IsSoundPlan (length ballots.rankings) (length claims)) → IfSome plan (IsPlanOf claims) → (budget : Budget) →
      IsInBudget ballots winner budget → IsAnswer budget ballots file (Ok Accepted)
  accepted planned clean budget within = certificate_is_accepted budget ballots file (sound planned) (says clean) (enough budget within)

  reads : IfSome plan (IsSoundPlan (length ballots.rankings) (length claims)) → assertion_file_of (assertion_file_text file) ≡ Ok file
  reads planned = printed_reads_back file (sound planned) (record { contest = fit.contest; candidates = fit.candidates })

  taken : IfSome plan (IsSoundPlan (length ballots.rankings) (length claims)) → IfSome plan (IsPlanOf claims) → (budget : Budget) →
      IsInBudget ballots winner budget → IsTaken budget ballots file
  taken planned clean budget within = (says clean, reads planned, accepted planned clean budget within)

-- whatever clean draws it carries, it is the certificate, can be read back and is accepted
pub accepted_with : (budget : Budget) (bytes : List ℕ) (asked : Option Id) (ballots : BallotFile) (file : Content) (plan : Option Plan) →
    ballots_of bytes asked ≡ Ok ballots → IsFoundIn budget ballots file → IfSome plan (IsSoundPlan file.records (length file.claims)) →
    IfSome plan (IsPlanOf file.claims) → IsTaken budget ballots (record file { plan = plan })
accepted_with budget bytes asked ballots file plan read found sound clean =
    let fit = ballots_fit bytes asked ballots read in
    let c = found.is in
    subst (λ (f : Content). IsTaken budget ballots (record f { plan = plan })) (sym c.is)
    (taken ballots fit c.winner c.won c.decided c.order c.least plan
    (subst (λ (f : Content). IfSome plan (IsSoundPlan f.records (length f.claims))) c.is sound)
    (subst (λ (f : Content). IfSome plan (IsPlanOf f.claims)) c.is clean) budget found.within)

pub found_is_accepted : FoundIsAccepted
found_is_accepted budget bytes asked ballots file read found =
    let none : None ≡ file.plan = sym (ap (λ (f : Content). f.plan) found.is.is) in
    let same : record file { plan = None } ≡ file = λ i. record file { plan = none i } in
    subst (IsTaken budget ballots) same (accepted_with budget bytes asked ballots file None read found tt tt)

pub planned_is_accepted : PlannedIsAccepted
planned_is_accepted cards gamma limit budget bytes asked ballots file can read found =
    accepted_with budget bytes asked ballots file (Some (plan_of cards gamma limit file)) read found
    (plan_sound cards gamma limit file.records file.claims can) (plan_clean cards gamma limit file.claims)
