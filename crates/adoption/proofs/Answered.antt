-- The answer, depending on who won.
use Rattle.std.proofs.Common.{◌≡◌, ◌∙◌, ℕ, ◌<◌, Bool, true, false, ◌==◌, not, if◌then◌else◌, List, length, Option, None, Some, Result, Ok, Err, IfOk, IfErr, refl, sym, ap, ap₂}
use Rattle.std.specs.Prelude.{find, option_map, unwrap_or}
use Rattle.irv_base.proofs.Decided.{elected-below}
use Rattle.assertions.specs.declared.assertion.Assertion.{Assertion}
use Rattle.assertions.specs.Assertions.{is_true}
use Rattle.budget.specs.declared.budget.Budget.{Budget}
use Rattle.ballots.specs.Ballots.{BallotFile}
use Rattle.claims_file.specs.Claimed.{Claimed}
use Rattle.cover_checker.specs.Covers.{covered_is}
use Rattle.cover_checker.specs.Outcomes.{IsWinner}
use Rattle.cover_checker.specs.declared.cover.Verdict.{Verdict}
use Rattle.cover_checker.specs.declared.cover.Verdict.TheVariants.{Covered, Stands as OrderStands}
use Rattle.cover_checker.specs.declared.cover.CoverFault.{CoverFault}
use Rattle.cover_checker.specs.declared.cover.CoverFault.TheVariants.{Spent, SpentSets, Memory}
use Rattle.cover_checker.proofs.OneAnswer.{one_winner}
use Rattle.adoption.specs.Adopted.{adopted_file, each_once}
use Rattle.adoption.specs.Answers.{Answer, IsAnswer, IsFault, adoption_is, other_winner, uncovered, unless_covered, untrue}
use Rattle.adoption.specs.declared.adoption.Adoption.{Adoption}
use Rattle.adoption.specs.declared.adoption.Adoption.TheVariants.{OtherWinner, Untrue, Stands, Adopted}

pub winner-below : (n : ℕ) (records : List (List ℕ)) (winner : ℕ) → IsWinner n records winner → winner < n
winner-below n records winner won = elected-below n winner won.order won.permutation won.elects

pub answer_is_one : (budget : Budget) (ballots : BallotFile) (claims : Claimed) (answer other : Answer) →
    IsAnswer budget ballots claims answer → IsAnswer budget ballots claims other → answer ≡ other
answer_is_one budget ballots claims answer other h k =
    sym h.answer_is
    ∙ ap (adoption_is budget ballots claims) (one_winner (length ballots.candidates) ballots.rankings h.winner k.winner h.tabulated k.tabulated)
    ∙ k.answer_is

module _ (budget : Budget) (ballots : BallotFile) (claims : Claimed) (winner : ℕ) where
  abbrev pub n : ℕ
  n = length ballots.candidates

  abbrev pub found : Option Assertion
  found = find (λ a. not (is_true ballots.rankings a)) claims.assertions

  abbrev pub cover : Result Verdict CoverFault
  cover = covered_is n claims.winner (each_once n claims.assertions) budget

  abbrev adopted : Answer
  adopted = Ok (Adopted (adopted_file ballots claims))

  pub on-other : (claims.winner == winner) ≡ false → adoption_is budget ballots claims winner ≡ Ok (OtherWinner winner)
  on-other e =
      ap (λ b. unwrap_or (if b then None else Some (Ok (OtherWinner winner)))
      (unwrap_or (untrue ballots.rankings claims) (unwrap_or (uncovered budget n claims) adopted))) e

  passed-winner : (claims.winner == winner) ≡ true →
      adoption_is budget ballots claims winner ≡ unwrap_or (untrue ballots.rankings claims) (unwrap_or (uncovered budget n claims) adopted)
  passed-winner e =
      ap (λ b. unwrap_or (if b then None else Some (Ok (OtherWinner winner)))
      (unwrap_or (untrue ballots.rankings claims) (unwrap_or (uncovered budget n claims) adopted))) e

  pub on-untrue : (a : Assertion) → (claims.winner == winner) ≡ true → found ≡ Some a → adoption_is budget ballots claims winner ≡ Ok (Untrue a)
  on-untrue a e is =
      passed-winner e ∙ ap (λ found. unwrap_or (option_map (λ a. Ok (Untrue a)) found) (unwrap_or (uncovered budget n claims) adopted)) is

  pub on-cover : (said : Result Verdict CoverFault) → (claims.winner == winner) ≡ true → found ≡ None → cover ≡ said →
      adoption_is budget ballots claims winner ≡ unwrap_or (unless_covered said) adopted
  on-cover said e none is =
      passed-winner e ∙ ap (λ found. unwrap_or (option_map (λ a. Ok (Untrue a)) found) (unwrap_or (uncovered budget n claims) adopted)) none
      ∙ ap (λ said. unwrap_or (unless_covered said) adopted) is

  -- ---- back from the answer that the claims are adopted

  pub record Passed : Type 0 where
    pub won : (claims.winner == winner) ≡ true
    pub none : found ≡ None
    pub covered : cover ≡ Ok Covered

  from-cover : (said : Result Verdict CoverFault) (file : _) → unwrap_or (unless_covered said) adopted ≡ Ok (Adopted file) → said ≡ Ok Covered
  from-cover (Ok Covered) file h = refl
  from-cover (Ok (OrderStands order)) file h = absurd cc
  from-cover (Err fault) file h = absurd cc

  pub passed : (file : _) → adoption_is budget ballots claims winner ≡ Ok (Adopted file) → Passed
  passed file h = by (claims.winner == winner) refl where
    of_found : (claims.winner == winner) ≡ true → (o : Option Assertion) → found ≡ o → Passed
    of_found e None none = record { won = e; none = none; covered = from-cover cover file (sym (on-cover cover e none refl) ∙ h) }
    of_found e (Some a) is = let bad = sym (on-untrue a e is) ∙ h in absurd cc

    by : (b : Bool) → (claims.winner == winner) ≡ b → Passed
    by false e = let bad = sym (on-other e) ∙ h in absurd cc
    by true e = of_found e found refl

  -- ---- back from a fault

  fault-cover : (said : Result Verdict CoverFault) (fault : CoverFault) → unwrap_or (unless_covered said) adopted ≡ Err fault → said ≡ Err fault
  fault-cover (Ok Covered) fault h = absurd cc
  fault-cover (Ok (OrderStands order)) fault h = absurd cc
  fault-cover (Err other) fault h = let same : other ≡ fault = cc in ap Err same

  pub record Spends (fault : CoverFault) : Type 0 where
    pub won : (claims.winner == winner) ≡ true
    pub none : found ≡ None
    pub spent : cover ≡ Err fault

  pub spends : (fault : CoverFault) → adoption_is budget ballots claims winner ≡ Err fault → Spends fault
  spends fault h = by (claims.winner == winner) refl where
    of_found : (claims.winner == winner) ≡ true → (o : Option Assertion) → found ≡ o → Spends fault
    of_found e None none = record { won = e; none = none; spent = fault-cover cover fault (sym (on-cover cover e none refl) ∙ h) }
    of_found e (Some a) is = let bad = sym (on-untrue a e is) ∙ h in absurd cc

    by : (b : Bool) → (claims.winner == winner) ≡ b → Spends fault
    by false e = let bad = sym (on-other e) ∙ h in absurd cc
    by true e = of_found e found refl

  pub is-file : (file : _) → adoption_is budget ballots claims winner ≡ Ok (Adopted file) → adopted_file ballots claims ≡ file
  is-file file h =
      let p = passed file h in
      let same = sym (on-cover (Ok Covered) p.won p.none p.covered) ∙ h in
      cc

-- ---- a fault of the cover

pub fault-is : (budget : Budget) (ballots : BallotFile) (claims : Claimed) (fault : CoverFault) →
    ((fault ≡ Memory → ⊥) → IsAnswer budget ballots claims (Err fault)) → IsFault budget ballots claims fault
fault-is budget ballots claims (Spent last) h = h (λ e. cc)
fault-is budget ballots claims (SpentSets sets) h = h (λ e. cc)
fault-is budget ballots claims Memory h = tt
