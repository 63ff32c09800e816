-- What an adoption says.
use Rattle.std.specs.Prelude.{◌≡◌, ◌↔◌, length, Ok}
use Rattle.budget.specs.declared.budget.Budget.{Budget}
use Rattle.assertions.specs.Laws.{IsProof}
use Rattle.ballots.specs.Ballots.{BallotFile, AreCandidates}
use Rattle.assertion_file.specs.Content.{Content}
use Rattle.claims_file.specs.Claimed.{Claimed, AreSound}
use Rattle.cover_checker.specs.Checks.{IsAnswer as IsCheckAnswer}
use Rattle.cover_checker.specs.Covers.{IsEnough}
use Rattle.cover_checker.specs.declared.checked.Checked.TheVariants.{Accepted}
use Rattle.adoption.specs.Adopted.{each_once, IsAdopted}
use Rattle.adoption.specs.Answers.{Answer, IsAnswer}
use Rattle.adoption.specs.declared.adoption.Adoption.TheVariants.{Adopted}

-- there is one answer
abbrev pub AnswerIsOne : Type 0
AnswerIsOne =
    (budget : Budget) (ballots : BallotFile) (claims : Claimed) (answer other : Answer) →
    IsAnswer budget ballots claims answer → IsAnswer budget ballots claims other → answer ≡ other

abbrev pub AdoptedIs : Type 0
AdoptedIs =
    (budget : Budget) (ballots : BallotFile) (claims : Claimed) (file : Content) →
    AreCandidates ballots.candidates → AreSound (length ballots.candidates) claims →
    IsAnswer budget ballots claims (Ok (Adopted file)) → IsAdopted ballots claims file

-- claims are adopted exactly if they prove their winner (they are true and refute every order that elects another candidate) and the budget
-- is enough
abbrev pub AdoptedExactly : Type 0
AdoptedExactly =
    (budget : Budget) (ballots : BallotFile) (claims : Claimed) →
    AreCandidates ballots.candidates → AreSound (length ballots.candidates) claims →
    (((file : Content) × IsAnswer budget ballots claims (Ok (Adopted file)))
    ↔ (IsProof (length ballots.candidates) claims.winner ballots.rankings claims.assertions
    × IsEnough budget (length ballots.candidates) claims.winner
    (each_once (length ballots.candidates) claims.assertions)))

-- a check within the same budget accepts an adopted file
abbrev pub AdoptedIsAccepted : Type 0
AdoptedIsAccepted =
    (budget : Budget) (ballots : BallotFile) (claims : Claimed) (file : Content) →
    AreCandidates ballots.candidates → AreSound (length ballots.candidates) claims →
    IsAnswer budget ballots claims (Ok (Adopted file)) →
    IsCheckAnswer budget ballots file (Ok Accepted)
