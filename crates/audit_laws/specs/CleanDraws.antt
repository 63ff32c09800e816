-- The smallest number of clean draws, which are draws of cards that are all seen as recorded.
use Rattle.std.specs.Prelude.{ℕ, ◌*◌, ◌≤◌, List, length, All, Contains, IfSome, IsSome, IsSomeAnd, Ok, IsTrue}
use Rattle.std.specs.List.{list_all}
use Rattle.budget.specs.declared.budget.Budget.{Budget}
use Rattle.assertions.specs.declared.assertion.Assertion.{Assertion}
use Rattle.assertions.specs.Assertions.{is_proper, is_true, true_margin}
use Rattle.assertions.specs.Refutation.{covers}
use Rattle.ballots.specs.Ballots.{BallotFile}
use Rattle.assertion_file.specs.Content.{Content, IsSound, candidate_count}
use Rattle.cover_checker.specs.Checks.{IsAnswer}
use Rattle.cover_checker.specs.declared.checked.Checked.TheVariants.{Accepted}
use Rattle.km_risk.specs.declared.limits.TheConstants.{MILLIONTH}
use Rattle.km_risk.specs.Counts.{clean}
use Rattle.km_risk.specs.Printed.{printed_risk}
use Rattle.km_risk.specs.Clean.{clean_draws}

-- a set of true assertions that refutes every order that elects another candidate, and so proves the winner
pub record ProveWinner (n winner : ℕ) (records : List (List ℕ))
    (assertions : List Assertion) : Type 0 where
  pub proper : IsTrue (list_all (is_proper n) assertions)
  pub hold : IsTrue (list_all (is_true records) assertions)
  pub covering : IsTrue (covers n winner assertions)

-- ballots of at most this number of cards, a file with an order that the check accepts, a gamma above 0, and another set that proves the
-- winner of the file
pub record IsRival (budget : Budget) (cards gamma : ℕ) (ballots : BallotFile) (file : Content)
    (others : List Assertion) : Type 0 where
  pub file_sound : IsSound file
  pub ordered : IsSome file.order
  pub accepted : IsAnswer budget ballots file (Ok Accepted)
  pub enough_cards : length ballots.rankings ≤ cards
  pub positive : 1 ≤ gamma
  pub others_prove : ProveWinner (candidate_count file) file.winner ballots.rankings others

-- after k clean draws the printed risk of an assertion with this margin is within the limit
abbrev pub AreEnough : ℕ → ℕ → ℕ → ℕ → ℕ → Type 0
AreEnough cards gamma limit k margin = printed_risk cards margin gamma (clean k) ≤ limit * MILLIONTH

-- clean draws that are enough for each assertion of the other set are enough for each assertion of the file
abbrev pub FewestCleanDraws : Type 0
FewestCleanDraws =
    (budget : Budget) (cards gamma limit k : ℕ) (ballots : BallotFile) (file : Content)
    (others : List Assertion) →
    IsRival budget cards gamma ballots file others →
    All (λ a. AreEnough cards gamma limit k (true_margin ballots.rankings a)) others →
    All (λ claim. AreEnough cards gamma limit k claim.margin) file.claims

-- some assertion of the other set needs at least as many clean draws as any assertion of the file; the number is the printed one, which is
-- none if no number up to the number of cards and the maximum number of draws is enough
abbrev pub NeedsNoMore : Type 0
NeedsNoMore =
    (budget : Budget) (cards gamma limit : ℕ) (ballots : BallotFile) (file : Content)
    (others : List Assertion) →
    IsRival budget cards gamma ballots file others →
    (a : Assertion) × Contains others a
    × All
    (λ claim.
    IfSome (clean_draws cards (true_margin ballots.rankings a) gamma limit)
    (λ k. IsSomeAnd (clean_draws cards claim.margin gamma limit) (λ j. j ≤ k)))
    file.claims
