-- A check has one end, and what the checker names is among the candidates.
use Rattle.std.proofs.Common.{◌≡◌, ℕ, ◌+◌, ◌<◌, Bool, true, false, ◌==◌, if◌then◌else◌, List, [], ◌∷◌, length, Option, None, Some, IfSome, Ok, Err, IsTrue, refl, sym, ap, subst, ◌∙◌}
use Rattle.std.specs.Prelude.{⊤, option_and_then}
use Rattle.std.specs.Bool.{MatchBool}
use Rattle.irv_base.specs.Orders.{is_order}
use Rattle.irv_base.proofs.Members.{Member, here, contains-from_member, from_find, member-append_right}
use Rattle.irv_base.proofs.Orders.{order_facts}
use Rattle.assertions.specs.declared.assertion.Assertion.{Assertion}
use Rattle.assertions.specs.declared.assertion.Claim.{Claim}
use Rattle.assertions.specs.Assertions.{margin, is_proper}
use Rattle.assertions.specs.Hardness.{refuter}
use Rattle.assertions.specs.Suffixes.{alternative_orders}
use Rattle.assertions.proofs.Endings.{alternative_orders_are}
use Rattle.assertions.proofs.Refuters.{refuter-first}
use Rattle.budget.specs.declared.budget.Budget.{Budget}
use Rattle.ballots.specs.Ballots.{BallotFile}
use Rattle.ballots.specs.Grammar.{ballots_of}
use Rattle.assertion_file.specs.Content.{Content, Plan}
use Rattle.assertion_file.specs.Reading.{assertion_file_of}
use Rattle.cover_checker.specs.Covers.{stands, standing_order, spent_by, verdict_on as cover_verdict, or_spent, covered_is}
use Rattle.cover_checker.specs.Outcomes.{IsWinner}
use Rattle.cover_checker.specs.Findings.{Answer, is_about, has_other_margin, other_margin_from, unless_covered, refuted_by, elects, smallest_margin, are_same_draws, other_draws_from, other_draws, elected, elected_by, harder, harder_than}
use Rattle.cover_checker.specs.Draws.{clean_draws_of}
use Rattle.cover_checker.specs.Checks.{findings, first_found, checked_is, Judges, IsAnswer}
use Rattle.cover_checker.proofs.Named.{spent-below}
use Rattle.cover_checker.proofs.OneAnswer.{answer_is_one}
use Rattle.cover_checker.proofs.Same.{from_about}
use Rattle.cover_checker.specs.declared.checked.Checked.{Checked}
use Rattle.cover_checker.specs.declared.checked.Checked.TheVariants.{OtherContest, OtherWinner, OtherMargin, Stands, NotLeast, NotAlternative, Harder, OtherDraws, Accepted}
use Rattle.cover_checker.specs.declared.checked.CheckFault.TheVariants.{Spent, SpentSets, Memory}
use Rattle.cover_checker.specs.declared.cover.CoverFault.{CoverFault}
use Rattle.cover_checker.specs.declared.cover.CoverFault.TheVariants.{Spent as CoverSpent, SpentSets as CoverSpentSets, Memory as CoverMemory}
use Rattle.cli_base.specs.Outcome.{Verdict, Answered, outcome}
use Rattle.cli_base.specs.Script.{Agree, AreOfKind, IsOfKind, Same}
use Rattle.cli_base.specs.declared.outcome.AnswerKind.TheVariants.{Done, Spent as SpentKind, Differs}
use Rattle.cli_base.proofs.AmongKinds.{among}
use Rattle.cli_base.proofs.Scripts.{some_is}
use Rattle.command.specs.declared.check.CheckTask.{CheckTask}
use Rattle.input_files.specs.Judged.{told}
use Rattle.input_files.specs.Refusals.{refused_assertions, refused_ballots}
use Rattle.input_files.proofs.Going.{go_on-agrees, go_on-kinds, told-only}
use Rattle.check_command.specs.Check.{after_ballots, found_verdict, verdict_on, yes_text, Checks, kinds, script}
use Rattle.check_command.specs.Laws.{AcceptedIsYes}
use Rattle.check_command.specs.Named.{IsAmong}

-- ---- what the checker names

-- the answer names candidates, orders and assertions of n candidates
abbrev Names : ℕ → Answer → Type 0
Names n (Ok found) = IsAmong n found
Names n (Err (Spent last)) = last < n
Names n (Err (SpentSets sets)) = ⊤
Names n (Err Memory) = ⊤

abbrev Each : (Answer → Type 0) → List (Option Answer) → Type 0
Each P [] = ⊤
Each P (found ∷ more) = IfSome found P × Each P more

of_first : (P : Answer → Type 0) (found : List (Option Answer)) (otherwise : Answer) → Each P found → P otherwise → P (first_found found otherwise)
of_first P [] otherwise each last = last
of_first P (Some answer ∷ more) otherwise each last = each.0
of_first P (None ∷ more) otherwise each last = of_first P more otherwise each.1 last

if_not : (P : Answer → Type 0) (b : Bool) (answer : Answer) → P answer → IfSome (if b then None else Some answer) P
if_not P true answer holds = tt
if_not P false answer holds = holds

names-margin : (n : ℕ) (records : List (List ℕ)) (at : ℕ) (claims : List Claim) → IfSome (other_margin_from records at claims) (Names n)
names-margin n records at [] = tt
names-margin n records at (claim ∷ claims) = by (has_other_margin records claim) (names-margin n records (at + 1) claims) where
  by : (b : Bool) → IfSome (other_margin_from records (at + 1) claims) (Names n)
      → IfSome (if b then Some (Ok (OtherMargin at (margin records claim.assertion))) else other_margin_from records (at + 1) claims) (Names n)
  by true more = tt
  by false more = more

names-cover : (n winner : ℕ) (budget : Budget) (list : List Assertion) → IfSome (unless_covered (covered_is n winner list budget)) (Names n)
names-cover n winner budget list = by (spent_by budget n winner list) (standing_order n winner list) (spent-below n winner list budget) standing-order where
  standing-order : (order : List ℕ) → standing_order n winner list ≡ Some order → IsTrue (is_order n order)
  standing-order order is =
      ((alternative_orders_are n winner order).0 (contains-from_member (from_find (stands list) order (alternative_orders n winner) is).0)).0

  by : (spent : Option CoverFault) (standing : Option (List ℕ)) → ((last : ℕ) → spent ≡ Some (CoverSpent last) → last < n) →
      ((order : List ℕ) → standing ≡ Some order → IsTrue (is_order n order))
      → IfSome (unless_covered (or_spent spent (cover_verdict standing))) (Names n)
  by (Some (CoverSpent last)) standing below order = below last refl
  by (Some (CoverSpentSets sets)) standing below order = tt
  by (Some CoverMemory) standing below order = tt
  by None None below order = tt
  by None (Some found) below order = order found refl

names-alternative : (n : ℕ) (b : Bool) → IfSome (if b then Some (Ok NotAlternative) else None) (Names n)
names-alternative n true = tt
names-alternative n false = tt

names-elected : (n : ℕ) (file : Content) → IfSome (elected file) (Names n)
names-elected n file = by file.order where
  by : (order : Option (List ℕ)) → IfSome (option_and_then (elected_by file) order) (Names n)
  by None = tt
  by (Some order) = names-alternative n (elects order file.winner)

names-refuted : (n hardness : ℕ) (b : Bool) (found : Option Assertion) → ((a : Assertion) → found ≡ Some a → IsTrue (is_proper n a)) →
    IfSome (if b then refuted_by hardness found else None) (Names n)
names-refuted n hardness true None proper = tt
names-refuted n hardness true (Some a) proper = proper a refl
names-refuted n hardness false found proper = tt

names-harder : (records : List (List ℕ)) (file : Content) → IfSome (harder records file) (Names (length file.candidates))
names-harder records file = by file.order where
  by : (order : Option (List ℕ)) → IfSome (option_and_then (harder_than records file) order) (Names (length file.candidates))
  by None = tt
  by (Some order) =
      let n = length file.candidates in
      names-refuted n _ _ (refuter n records order) (λ a found. (refuter-first n records order a found).proper)

names-draws-from : (n : ℕ) (plan : Plan) (at : ℕ) (claims : List Claim) (draws : List (Option ℕ)) →
    IfSome (other_draws_from plan at claims draws) (Names n)
names-draws-from n plan at [] draws = tt
names-draws-from n plan at (claim ∷ claims) [] = tt
names-draws-from n plan at (claim ∷ claims) (d ∷ draws) =
    by (are_same_draws (clean_draws_of plan claim) d) (clean_draws_of plan claim) (names-draws-from n plan (at + 1) claims draws) where
      by : (b : Bool) (found : Option ℕ) → IfSome (other_draws_from plan (at + 1) claims draws) (Names n) →
          IfSome (if b then other_draws_from plan (at + 1) claims draws else Some (Ok (OtherDraws at found))) (Names n)
      by true found more = more
      by false found more = tt

names-draws : (n : ℕ) (file : Content) → IfSome (other_draws file) (Names n)
names-draws n file = by file.plan where
  by : (plan : Option Plan) → IfSome (option_and_then (λ plan. other_draws_from plan 1 file.claims plan.draws) plan) (Names n)
  by None = tt
  by (Some plan) = names-draws-from n plan 1 file.claims plan.draws

winner-below : (n : ℕ) (records : List (List ℕ)) (winner : ℕ) → IsWinner n records winner → winner < n
winner-below n records winner won =
    let (before, e) = won.elects in
    (order_facts n won.order won.permutation).below winner (subst (Member winner) (sym e) (member-append_right before here))

names-judged : (budget : Budget) (ballots : BallotFile) (file : Content) → is_about ballots file ≡ true → (winner : ℕ) →
    IsWinner (length ballots.candidates) ballots.rankings winner
    → Names (length file.candidates) (checked_is budget ballots.rankings file winner)
names-judged budget ballots file about winner is =
    let n = length file.candidates in
    let below : winner < n = subst (λ m. winner < m) (sym (ap length (from_about ballots file about).candidates))
    (winner-below (length ballots.candidates) ballots.rankings winner is) in
    of_first (Names n) (findings budget ballots.rankings file winner) (Ok Accepted) (
      if_not (Names n) (file.winner == winner) (Ok (OtherWinner winner)) below,
      (
        names-margin n ballots.rankings 1 file.claims,
        (
          names-cover n file.winner budget _,
          (
            if_not (Names n) (smallest_margin file == file.margin) (Ok (NotLeast (smallest_margin file))) tt,
            (
              names-elected n file,
              (names-harder ballots.rankings file, (names-draws n file, tt)),
            ),
          ),
        ),
      ),
    ) tt

pub names : (budget : Budget) (ballots : BallotFile) (file : Content) (answer : Answer) → IsAnswer budget ballots file answer → Names (length file.candidates) answer
names budget ballots file answer is = by (is_about ballots file) refl is where
  by : (b : Bool) → is_about ballots file ≡ b → MatchBool b (Judges budget ballots file answer) (answer ≡ Ok OtherContest) →
      Names (length file.candidates) answer
  by true about judges = subst (Names (length file.candidates)) judges.answer_is (names-judged budget ballots file about judges.winner judges.tabulated)
  by false about other = subst (Names (length file.candidates)) (sym other) tt

-- ---- one end

pub checks-one : (budget : Budget) (ballots : BallotFile) (file : Content) (v w : Verdict) → Checks budget ballots file v → Checks budget ballots file w → v ≡ w
checks-one budget ballots file v w (answer, is, told) (other, is', told') =
    some_is (sym told ∙ ap (verdict_on file) (answer_is_one budget ballots file answer other is is') ∙ told')

-- and a check of these ballots does
pub ballots-agree : (assertions : List ℕ) (budget : Budget) (ballots : BallotFile) → Agree Same (after_ballots assertions budget ballots)
ballots-agree assertions budget ballots = λ bytes. go_on-agrees (told (refused_assertions assertions) (assertion_file_of bytes)) _
    (λ file v w p q. ap outcome (checks-one budget ballots file v w p q))

pub agrees : (task : CheckTask) → Agree Same (script task)
agrees task = λ bytes. go_on-agrees (told (refused_ballots task.ballots) (ballots_of bytes task.contest)) _
    (λ ballots. ballots-agree task.assertions task.budget ballots)

-- the only verdict on a file that the checker accepts is yes
pub accepted_is_yes : AcceptedIsYes
accepted_is_yes budget ballots file verdict known = (only, λ is. (Ok Accepted, known, ap Some (sym is))) where
  only : Checks budget ballots file verdict → verdict ≡ Answered Done (yes_text file)
  only (answer, is, told) = some_is (sym told ∙ ap (verdict_on file) (answer_is_one budget ballots file answer (Ok Accepted) is known))

-- ---- the kinds of its answers

found-kind : (file : Content) (found : Checked) → IsOfKind kinds (found_verdict file found)
found-kind file OtherContest = among kinds Differs refl
found-kind file (OtherWinner winner) = among kinds Differs refl
found-kind file (OtherMargin index found) = among kinds Differs refl
found-kind file (Stands order) = among kinds Differs refl
found-kind file (NotLeast found) = among kinds Differs refl
found-kind file NotAlternative = among kinds Differs refl
found-kind file (Harder assertion margin) = among kinds Differs refl
found-kind file (OtherDraws index found) = among kinds Differs refl
found-kind file Accepted = among kinds Done refl

pub answer-kind : (file : Content) (answer : Answer) (v : Verdict) → verdict_on file answer ≡ Some v → IsOfKind kinds v
answer-kind file (Ok found) v told = subst (IsOfKind kinds) (some_is told) (found-kind file found)
answer-kind file (Err (Spent last)) v told = subst (IsOfKind kinds) (some_is told) (among kinds SpentKind refl)
answer-kind file (Err (SpentSets sets)) v told = subst (IsOfKind kinds) (some_is told) (among kinds SpentKind refl)
answer-kind file (Err Memory) v told = absurd (cc told)

pub checks-kind : (budget : Budget) (ballots : BallotFile) (file : Content) (v : Verdict) → Checks budget ballots file v → IsOfKind kinds v
checks-kind budget ballots file v (answer, is, told) = answer-kind file answer v told

pub ballots-kinds : (assertions : List ℕ) (budget : Budget) (ballots : BallotFile) → AreOfKind kinds (after_ballots assertions budget ballots)
ballots-kinds assertions budget ballots = λ bytes. go_on-kinds kinds (told (refused_assertions assertions) (assertion_file_of bytes)) _
    (told-only (refused_assertions assertions) (assertion_file_of bytes) (λ why. tt)) (λ file. checks-kind budget ballots file)

pub kinds_are : (task : CheckTask) → AreOfKind kinds (script task)
kinds_are task = λ bytes. go_on-kinds kinds (told (refused_ballots task.ballots) (ballots_of bytes task.contest)) _
    (told-only (refused_ballots task.ballots) (ballots_of bytes task.contest) (λ why. tt)) (λ ballots. ballots-kinds task.assertions task.budget ballots)
