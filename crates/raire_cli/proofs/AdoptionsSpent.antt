-- More sets count for claims exactly when their adoption runs out of budget. No adoption runs out if its budget is large enough.
use Rattle.std.proofs.Common.{◌≡◌, ◌∙◌, ℕ, ◌<◌, ◌==◌, Bool, true, false, nat_lt, if◌then◌else◌, List, Option, None, Some, Result, Ok, Err, refl, sym, ap, subst, arith, eqb-true, eq-eqb, lt-ltb, ltb-true}
use Rattle.desk.specs.Desk.{File}
use Rattle.irv_base.specs.Names.{Id}
use Rattle.assertions.specs.declared.assertion.Assertion.{Assertion}
use Rattle.ballots.specs.Ballots.{BallotFile}
use Rattle.ballots.specs.Grammar.{ballots_of}
use Rattle.budget.specs.declared.budget.Budget.{Budget}
use Rattle.budget.specs.declared.budget.Budget.TheVariants.{Sets}
use Rattle.claims_file.specs.Claimed.{Claimed}
use Rattle.claims_file.specs.Reading.{claims_of}
use Rattle.claims_file.proofs.Sound.{claims-sound}
use Rattle.cover_checker.specs.Covers.{covered_is, or_spent, standing_order, standing_sets, verdict_on as cover_verdict_on}
use Rattle.cover_checker.specs.declared.cover.Verdict.{Verdict as CoverVerdict}
use Rattle.cover_checker.proofs.Enough.{enough-verdict, never_over}
use Rattle.cover_checker.specs.declared.cover.CoverFault.{CoverFault}
use Rattle.cover_checker.specs.declared.cover.CoverFault.TheVariants.{Spent as SpentAt, SpentSets, Memory}
use Rattle.adoption.specs.Adopted.{each_once}
use Rattle.adoption.specs.Answers.{Answer, IsAnswer, unless_covered}
use Rattle.adoption.specs.declared.adoption.Adoption.TheVariants.{OtherWinner, Untrue, Stands, Adopted}
use Rattle.adoption.proofs.Adopting.{none-untrue, untrue-none}
use Rattle.adoption.proofs.Answered.{on-cover, spends}
use Rattle.cli_base.specs.Outcome.{Verdict, Answered}
use Rattle.cli_base.specs.Script.{Script, Ends, AsHeld, ComesTo, Concludes}
use Rattle.cli_base.specs.Statuses.{HasAnswer}
use Rattle.cli_base.specs.declared.outcome.AnswerKind.{AnswerKind}
use Rattle.cli_base.specs.declared.outcome.AnswerKind.TheVariants.{Spent}
use Rattle.command.specs.declared.adopt.AdoptTask.{AdoptTask}
use Rattle.command_line.specs.declared.commands.Command.TheVariants.{Adopt}
use Rattle.contest_search.specs.Contest.{IsWon, candidate_count}
use Rattle.contest_search.proofs.ReadBallots.{ballots_fit}
use Rattle.input_files.specs.Refusals.{refused_ballots, refused_claims}
use Rattle.report.specs.Ends.{spent_sets}
use Rattle.adopt_command.specs.Adopt.{Adopts, after_ballots, script, verdict_on}
use Rattle.raire_cli.specs.Answers.{asked, asked_by}
use Rattle.raire_cli.specs.Asks.{Asks}
use Rattle.raire_cli.specs.Enough.{AreEnoughToAdopt}
use Rattle.raire_cli.specs.Held.{AreClaimed}
use Rattle.raire_cli.specs.Sets.{ClaimsCountMore}
use Rattle.raire_cli.proofs.Said.{said, says_of, saying}

spent_answer : (ids : List Id) (answer : Answer) (text : List ℕ) → verdict_on ids answer ≡ Some (Answered Spent text) →
    (fault : CoverFault) × (answer ≡ Err fault)
spent_answer ids (Ok (Adopted file)) text told = absurd (cc told)
spent_answer ids (Ok (OtherWinner winner)) text told = absurd (cc told)
spent_answer ids (Ok (Untrue assertion)) text told = absurd (cc told)
spent_answer ids (Ok (Stands order)) text told = absurd (cc told)
spent_answer ids (Err fault) text told = (fault, refl)

module _ (sets : ℕ) (ballots : BallotFile) (claims : Claimed) where
  abbrev n : ℕ
  n = candidate_count ballots

  abbrev once : List Assertion
  once = each_once n claims.assertions

  abbrev left : Option (List ℕ)
  left = standing_order n claims.winner once

  above : (fault : CoverFault) → covered_is n claims.winner once (Sets sets) ≡ Err fault → sets < standing_sets n claims.winner once
  above fault is = by (nat_lt sets (standing_sets n claims.winner once)) refl is where
    by : (b : Bool) → nat_lt sets (standing_sets n claims.winner once) ≡ b →
        or_spent (if b then Some (SpentSets sets) else None) (cover_verdict_on left) ≡ Err fault → sets < standing_sets n claims.winner once
    by true more is = ltb-true sets (standing_sets n claims.winner once) more
    by false few is = absurd (cc is)

  over : sets < standing_sets n claims.winner once → covered_is n claims.winner once (Sets sets) ≡ Err (SpentSets sets)
  over more =
      ap (λ b. or_spent (if b then Some (SpentSets sets) else None) (cover_verdict_on left)) (lt-ltb sets (standing_sets n claims.winner once) more)

  counted : (fault : CoverFault) → IsAnswer (Sets sets) ballots claims (Err fault) → ClaimsCountMore sets ballots claims
  counted fault answer =
      let s = spends (Sets sets) ballots claims answer.winner fault answer.answer_is in record {
        won = subst (IsWon ballots) (sym (eqb-true claims.winner answer.winner s.won)) answer.tabulated;
        hold = untrue-none ballots.rankings claims.assertions s.none;
        above = above fault s.spent;
      }

  counted_answer : ClaimsCountMore sets ballots claims → IsAnswer (Sets sets) ballots claims (Err (SpentSets sets))
  counted_answer more = record {
    winner = claims.winner;
    tabulated = more.won;
    answer_is = on-cover (Sets sets) ballots claims claims.winner (Err (SpentSets sets)) (eq-eqb claims.winner claims.winner refl)
        (none-untrue ballots.rankings claims.assertions more.hold) (over more.above);
  }

  module _ (budget : Budget) (is : budget ≡ Sets sets) where
    pub adopts_more : (text : List ℕ) → Adopts budget ballots claims (Answered Spent text) → ClaimsCountMore sets ballots claims
    adopts_more text (answer, found, told) =
        let (fault, e) = spent_answer ballots.candidates answer text told in
        counted fault (subst (λ budget. IsAnswer budget ballots claims (Err fault)) is (subst (IsAnswer budget ballots claims) e found))

    pub more_adopts : ClaimsCountMore sets ballots claims → Adopts budget ballots claims (Answered Spent (spent_sets sets))
    more_adopts more =
        (Err (SpentSets sets), subst (λ budget. IsAnswer budget ballots claims (Err (SpentSets sets))) (sym is) (counted_answer more), refl)

-- ---- the files of an adoption

module _ (files : List File) (task : AdoptTask) where
  pub claims_said : (kind : AnswerKind) (text : List ℕ) → Concludes (AsHeld files) (script task) (Answered kind text) →
      (ballots : BallotFile) × (claims : Claimed) × AreClaimed files task.ballots task.claims task.contest ballots claims
      × Adopts task.budget ballots claims (Answered kind text)
  claims_said kind text comes =
      let is = said files task.ballots (refused_ballots task.ballots) (λ bytes. ballots_of bytes task.contest)
      (λ bytes ballots. after_ballots task.claims task.budget ballots) kind text (λ why. tt) comes in
      let its = said files task.claims (refused_claims task.claims) (claims_of is.value.contest is.value.candidates)
      (λ bytes claims. Ends (Adopts task.budget is.value claims)) kind text (λ why. tt) is.rest in
      (is.value, its.value, record { of_ballots = says_of is; of_claims = says_of its }, its.rest)

  pub claims_saying : (ballots : BallotFile) (claims : Claimed) → AreClaimed files task.ballots task.claims task.contest ballots claims → (v : Verdict) →
      Adopts task.budget ballots claims v → Concludes (AsHeld files) (script task) v
  claims_saying ballots claims are v adopts =
      let b = are.of_ballots in
      let c = are.of_claims in
      saying files task.ballots (refused_ballots task.ballots) (λ bytes. ballots_of bytes task.contest)
      (λ bytes ballots. after_ballots task.claims task.budget ballots) b.bytes b.held b.is_short ballots b.is v
      (saying files task.claims (refused_claims task.claims) (claims_of ballots.contest ballots.candidates)
      (λ bytes claims. Ends (Adopts task.budget ballots claims)) c.bytes c.held c.is_short claims c.is v adopts)

-- ---- enough nodes or sets

pub adoption_never : (words : List (List ℕ)) (files : List File) (adopt : Asks Adopt words) → AreEnoughToAdopt files adopt.task →
    HasAnswer (asked words) files Spent → ⊥
adoption_never words files adopt suffices (text, comes) =
    let task = adopt.task in
    let (ballots, claims, are, (answer, found, told)) = claims_said files task Spent text
    (subst (λ command. ComesTo (AsHeld files) (asked_by command) (Answered Spent text)) adopt.asked comes) in
    let fit = ballots_fit are.of_ballots.bytes task.contest ballots are.of_ballots.is in
    let sound = claims-sound ballots.candidates ballots.contest are.of_claims.bytes claims are.of_claims.is in
    let (fault, is) = spent_answer ballots.candidates answer text told in
    let a : IsAnswer task.budget ballots claims (Err fault) = subst (IsAnswer task.budget ballots claims) is found in
    let s = spends task.budget ballots claims a.winner fault a.answer_is in
    let count = candidate_count ballots in
    let list = each_once count claims.assertions in
    let enough = never_over count claims.winner list task.budget sound.winner fit.fewest (suffices ballots are.of_ballots) in
    let bad = sym (enough-verdict count claims.winner list task.budget enough) ∙ s.spent in
    absurd (cc bad)
