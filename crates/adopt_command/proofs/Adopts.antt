-- An adoption has one end, and what it names is among the candidates.
use Rattle.std.proofs.Common.{◌≡◌, ℕ, ◌<◌, Bool, true, false, ◌==◌, if◌then◌else◌, not, List, length, Option, None, Some, Ok, Err, IsTrue, refl, sym, ap, subst, ◌∙◌}
use Rattle.std.specs.Prelude.{⊤, find, option_map, unwrap_or}
use Rattle.std.proofs.lemmas.List.Elements.{All-contains}
use Rattle.irv_base.specs.Names.{Id}
use Rattle.irv_base.specs.Orders.{is_order}
use Rattle.irv_base.proofs.Members.{Member, here, contains-from_member, from_find, member-append_right}
use Rattle.irv_base.proofs.Orders.{order_facts}
use Rattle.assertions.specs.declared.assertion.Assertion.{Assertion}
use Rattle.assertions.specs.Assertions.{is_proper, is_true}
use Rattle.assertions.specs.Suffixes.{alternative_orders}
use Rattle.assertions.proofs.Endings.{alternative_orders_are}
use Rattle.budget.specs.declared.budget.Budget.{Budget}
use Rattle.ballots.specs.Ballots.{BallotFile}
use Rattle.ballots.specs.Grammar.{ballots_of}
use Rattle.claims_file.specs.Claimed.{Claimed, AreSound}
use Rattle.claims_file.specs.Reading.{claims_of}
use Rattle.cover_checker.specs.Covers.{stands, standing_order, spent_by, verdict_on as cover_verdict, or_spent, covered_is}
use Rattle.cover_checker.specs.Outcomes.{IsWinner}
use Rattle.cover_checker.proofs.Named.{spent-below}
use Rattle.cover_checker.specs.declared.cover.CoverFault.{CoverFault}
use Rattle.cover_checker.specs.declared.cover.CoverFault.TheVariants.{Spent as CoverSpent, SpentSets as CoverSpentSets, Memory as CoverMemory}
use Rattle.adoption.specs.Adopted.{each_once}
use Rattle.adoption.specs.Answers.{Answer, IsAnswer, adoption_is, other_winner, uncovered, unless_covered, untrue}
use Rattle.adoption.specs.declared.adoption.Adoption.{Adoption}
use Rattle.adoption.specs.declared.adoption.Adoption.TheVariants.{OtherWinner, Untrue, Stands, Adopted}
use Rattle.adoption.proofs.Answered.{answer_is_one, winner-below}
use Rattle.cli_base.specs.Outcome.{Verdict, outcome}
use Rattle.cli_base.specs.Script.{Agree, AreOfKind, IsOfKind, Same}
use Rattle.cli_base.specs.declared.outcome.AnswerKind.TheVariants.{Done, Spent, Differs}
use Rattle.cli_base.proofs.AmongKinds.{among}
use Rattle.cli_base.proofs.Scripts.{some_is}
use Rattle.command.specs.declared.adopt.AdoptTask.{AdoptTask}
use Rattle.input_files.specs.Judged.{told}
use Rattle.input_files.specs.Refusals.{refused_ballots, refused_claims}
use Rattle.input_files.proofs.Going.{go_on-agrees, go_on-kinds, told-only}
use Rattle.adopt_command.specs.Adopt.{adoption_verdict, after_ballots, verdict_on, Adopts, kinds, script}
use Rattle.adopt_command.specs.Named.{IsAmong}

-- ---- what an answer names

-- the answer names candidates, assertions and orders of n candidates
abbrev pub Names : ℕ → Answer → Type 0
Names n (Ok adoption) = IsAmong n adoption
Names n (Err (CoverSpent last)) = last < n
Names n (Err (CoverSpentSets sets)) = ⊤
Names n (Err CoverMemory) = ⊤

abbrev IfFound : (Answer → Type 0) → Option Answer → Type 0
IfFound P None = ⊤
IfFound P (Some answer) = P answer

found-or : (P : Answer → Type 0) (found : Option Answer) (otherwise : Answer) → IfFound P found → P otherwise → P (unwrap_or found otherwise)
found-or P None otherwise is last = last
found-or P (Some answer) otherwise is last = is

names-winner : (n winner : ℕ) (claims : Claimed) → winner < n → IfFound (Names n) (other_winner winner claims)
names-winner n winner claims below = by (claims.winner == winner) where
  by : (b : Bool) → IfFound (Names n) (if b then None else Some (Ok (OtherWinner winner)))
  by true = tt
  by false = below

names-untrue : (n : ℕ) (records : List (List ℕ)) (claims : Claimed) → AreSound n claims → IfFound (Names n) (untrue records claims)
names-untrue n records claims sound = by (find (λ a. not (is_true records a)) claims.assertions) refl where
  by : (found : Option Assertion) → find (λ a. not (is_true records a)) claims.assertions ≡ found →
      IfFound (Names n) (option_map (λ a. Ok (Untrue a)) found)
  by None is = tt
  by (Some a) is =
      All-contains (λ a. IsTrue (is_proper n a)) claims.assertions a sound.proper
      (contains-from_member (from_find (λ a. not (is_true records a)) a claims.assertions is).0)

names-cover : (n winner : ℕ) (budget : Budget) (list : List Assertion) → IfFound (Names n) (unless_covered (covered_is n winner list budget))
names-cover n winner budget list = by (spent_by budget n winner list) (standing_order n winner list) (spent-below n winner list budget) standing-order where
  standing-order : (order : List ℕ) → standing_order n winner list ≡ Some order → IsTrue (is_order n order)
  standing-order order is =
      ((alternative_orders_are n winner order).0 (contains-from_member (from_find (stands list) order (alternative_orders n winner) is).0)).0

  by : (spent : Option CoverFault) (standing : Option (List ℕ)) → ((last : ℕ) → spent ≡ Some (CoverSpent last) → last < n) →
      ((order : List ℕ) → standing ≡ Some order → IsTrue (is_order n order))
      → IfFound (Names n) (unless_covered (or_spent spent (cover_verdict standing)))
  by (Some (CoverSpent last)) standing below order = below last refl
  by (Some (CoverSpentSets sets)) standing below order = tt
  by (Some CoverMemory) standing below order = tt
  by None None below order = tt
  by None (Some found) below order = order found refl

pub names : (budget : Budget) (ballots : BallotFile) (claims : Claimed) (answer : Answer) → AreSound (length ballots.candidates) claims →
    IsAnswer budget ballots claims answer → Names (length ballots.candidates) answer
names budget ballots claims answer sound is =
    let n = length ballots.candidates in
    subst (Names n) is.answer_is
    (found-or (Names n) (other_winner is.winner claims) _ (names-winner n is.winner claims (winner-below n ballots.rankings is.winner is.tabulated))
    (found-or (Names n) (untrue ballots.rankings claims) _ (names-untrue n ballots.rankings claims sound)
    (found-or (Names n) (uncovered budget n claims) _ (names-cover n claims.winner budget (each_once n claims.assertions)) tt)))

-- ---- one end

pub adopts-one : (budget : Budget) (ballots : BallotFile) (claims : Claimed) (v w : Verdict) → Adopts budget ballots claims v →
    Adopts budget ballots claims w → v ≡ w
adopts-one budget ballots claims v w (answer, is, told) (other, is', told') =
    some_is (sym told ∙ ap (verdict_on ballots.candidates) (answer_is_one budget ballots claims answer other is is') ∙ told')

ballots-agree : (name : List ℕ) (budget : Budget) (ballots : BallotFile) → Agree Same (after_ballots name budget ballots)
ballots-agree name budget ballots = λ bytes. go_on-agrees (told (refused_claims name) (claims_of ballots.contest ballots.candidates bytes)) _
    (λ claims v w p q. ap outcome (adopts-one budget ballots claims v w p q))

pub agrees : (task : AdoptTask) → Agree Same (script task)
agrees task = λ bytes. go_on-agrees (told (refused_ballots task.ballots) (ballots_of bytes task.contest)) _
    (λ ballots. ballots-agree task.claims task.budget ballots)

-- ---- the kinds of its answers

adoption-kind : (ids : List Id) (adoption : Adoption) → IsOfKind kinds (adoption_verdict ids adoption)
adoption-kind ids (OtherWinner winner) = among kinds Differs refl
adoption-kind ids (Untrue assertion) = among kinds Differs refl
adoption-kind ids (Stands order) = among kinds Differs refl
adoption-kind ids (Adopted file) = among kinds Done refl

answer-kind : (ids : List Id) (answer : Answer) (v : Verdict) → verdict_on ids answer ≡ Some v → IsOfKind kinds v
answer-kind ids (Ok adoption) v told = subst (IsOfKind kinds) (some_is told) (adoption-kind ids adoption)
answer-kind ids (Err (CoverSpent last)) v told = subst (IsOfKind kinds) (some_is told) (among kinds Spent refl)
answer-kind ids (Err (CoverSpentSets sets)) v told = subst (IsOfKind kinds) (some_is told) (among kinds Spent refl)
answer-kind ids (Err CoverMemory) v told = absurd (cc told)

adopts-kind : (budget : Budget) (ballots : BallotFile) (claims : Claimed) (v : Verdict) → Adopts budget ballots claims v → IsOfKind kinds v
adopts-kind budget ballots claims v (answer, is, told) = answer-kind ballots.candidates answer v told

ballots-kinds : (name : List ℕ) (budget : Budget) (ballots : BallotFile) → AreOfKind kinds (after_ballots name budget ballots)
ballots-kinds name budget ballots = λ bytes. go_on-kinds kinds (told (refused_claims name) (claims_of ballots.contest ballots.candidates bytes)) _
    (told-only (refused_claims name) (claims_of ballots.contest ballots.candidates bytes) (λ why. tt)) (λ claims. adopts-kind budget ballots claims)

pub kinds_are : (task : AdoptTask) → AreOfKind kinds (script task)
kinds_are task = λ bytes. go_on-kinds kinds (told (refused_ballots task.ballots) (ballots_of bytes task.contest)) _
    (told-only (refused_ballots task.ballots) (ballots_of bytes task.contest) (λ why. tt)) (λ ballots. ballots-kinds task.claims task.budget ballots)
