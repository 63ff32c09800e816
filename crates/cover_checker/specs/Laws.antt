-- What an answer of `covered` says about the list and about elections, and what an answer of `check` says about the file.
use Rattle.std.specs.Prelude.{◌≡◌, ◌↔◌, ◌⊎◌, ℕ, ◌-◌, ◌*◌, ◌^◌, ◌<◌, ◌≤◌, List, None, Ok, Err, IfSome, IsTrue}
use Rattle.std.specs.List.{list_all}
use Rattle.budget.specs.declared.budget.Budget.{Budget}
use Rattle.budget.specs.declared.budget.Budget.TheVariants.{Nodes, Sets}
use Rattle.irv_base.specs.Orders.{is_order, Elects}
use Rattle.irv_base.specs.Tabulation.{is_possible, AllElect}
use Rattle.assertions.specs.declared.assertion.Assertion.{Assertion}
use Rattle.assertions.specs.Assertions.{is_proper, is_true}
use Rattle.assertions.specs.Suffixes.{IsAlternative, comes_before, factorial}
use Rattle.assertions.specs.Refutation.{covers}
use Rattle.assertions.specs.Hardness.{low, best_margin}
use Rattle.ballots.specs.Ballots.{BallotFile}
use Rattle.assertion_file.specs.Content.{Content, IsSound, candidate_count}
use Rattle.cover_checker.specs.Covers.{stands, covered_is, IsEnough, IsEnoughFor, IsEnoughBelow}
use Rattle.cover_checker.specs.Findings.{Answer, assertions_of}
use Rattle.cover_checker.specs.Checks.{IsAnswer}
use Rattle.cover_checker.specs.Holds.{Holds, IsCertificateOf, IsCover}
use Rattle.cover_checker.specs.declared.cover.Verdict.{Verdict}
use Rattle.cover_checker.specs.declared.cover.Verdict.TheVariants.{Covered, Stands}
use Rattle.cover_checker.specs.declared.cover.CoverFault.TheVariants.{Spent as CoverSpent, SpentSets as CoverSpentSets}
use Rattle.cover_checker.specs.declared.checked.Checked.{Checked}
use Rattle.cover_checker.specs.declared.checked.Checked.TheVariants.{Accepted}
use Rattle.cover_checker.specs.declared.checked.CheckFault.{CheckFault}
use Rattle.cover_checker.specs.declared.checked.CheckFault.TheVariants.{Spent}

-- ==== covers

-- a list that is called covered proves the winner of all records for which it is true
abbrev pub CoveredIsSound : Type 0
CoveredIsSound =
    (n winner : ℕ) (budget : Budget) (list : List Assertion) → winner < n →
    IsTrue (list_all (is_proper n) list) → covered_is n winner list budget ≡ Ok Covered →
    (records : List (List ℕ)) → IsTrue (list_all (is_true records) list) →
    (order : List ℕ) → IsTrue (is_order n order) → IsTrue (is_possible records order) →
    Elects order winner

abbrev pub CoveredIffCovers : Type 0
CoveredIffCovers =
    (n winner : ℕ) (budget : Budget) (list : List Assertion) (verdict : Verdict) →
    covered_is n winner list budget ≡ Ok verdict →
    ((verdict ≡ Covered) ↔ IsTrue (covers n winner list))

-- an order that stands elects another candidate, nothing refutes it, and it comes before every other such order when read backwards
abbrev pub StandsIsLeast : Type 0
StandsIsLeast =
    (n winner : ℕ) (budget : Budget) (list : List Assertion) (found : List ℕ) →
    covered_is n winner list budget ≡ Ok (Stands found) →
    IsAlternative n winner found × IsTrue (stands list found)
    × ((order : List ℕ) → IsAlternative n winner order → IsTrue (stands list order) →
    (found ≡ order) ⊎ IsTrue (comes_before found order))

-- the answer is never that the nodes ran out, if there are 2 * (n - 1)! or more
abbrev pub CoveredIsNeverSpent : Type 0
CoveredIsNeverSpent =
    (n winner nodes : ℕ) (list : List Assertion) (last : ℕ) → 2 * factorial (n - 1) ≤ nodes →
    covered_is n winner list (Nodes nodes) ≡ Err (CoverSpent last) → ⊥

-- nor is it that the sets ran out, whatever number it gives, if there are 2^n - 3 or more
abbrev pub CoveredBySetsIsNeverSpent : Type 0
CoveredBySetsIsNeverSpent =
    (n winner sets told : ℕ) (list : List Assertion) → winner < n → 1 < n → 2 ^ n - 3 ≤ sets →
    covered_is n winner list (Sets sets) ≡ Err (CoverSpentSets told) → ⊥

-- ==== files

-- there is one answer
abbrev pub AnswerIsOne : Type 0
AnswerIsOne =
    (budget : Budget) (ballots : BallotFile) (file : Content) (answer other : Answer) →
    IsAnswer budget ballots file answer → IsAnswer budget ballots file other → answer ≡ other

-- if the budget doesn't run out, a file is accepted exactly if it holds
abbrev pub AcceptedIffHolds : Type 0
AcceptedIffHolds =
    (budget : Budget) (ballots : BallotFile) (file : Content) (checked : Checked) → IsSound file →
    IsAnswer budget ballots file (Ok checked) →
    ((checked ≡ Accepted) ↔ Holds ballots file)

-- a file is accepted exactly if it holds and the budget is enough
abbrev pub AcceptedExactly : Type 0
AcceptedExactly =
    (budget : Budget) (ballots : BallotFile) (file : Content) → IsSound file →
    (IsAnswer budget ballots file (Ok Accepted)
    ↔ (Holds ballots file
    × IsEnough budget (candidate_count file) file.winner (assertions_of file)))

-- a file without an order is accepted exactly if its claims are true by their margins and cover, its margin is the smallest, and the budget
-- is enough
abbrev pub CoverIsAccepted : Type 0
CoverIsAccepted =
    (budget : Budget) (ballots : BallotFile) (file : Content) → IsSound file → file.order ≡ None →
    (IsAnswer budget ballots file (Ok Accepted)
    ↔ (IsCover ballots file
    × IsEnough budget (candidate_count file) file.winner (assertions_of file)))

-- the claims of an accepted file cover, within the budget
abbrev pub AcceptedIsCovered : Type 0
AcceptedIsCovered =
    (budget : Budget) (ballots : BallotFile) (file : Content) → IsSound file →
    IsAnswer budget ballots file (Ok Accepted) →
    covered_is (candidate_count file) file.winner (assertions_of file) budget ≡ Ok Covered

-- the contest of an accepted file is decided: each way of breaking its ties elects the file's winner
abbrev pub AcceptedIsDecided : Type 0
AcceptedIsDecided =
    (budget : Budget) (ballots : BallotFile) (file : Content) → IsSound file →
    IsAnswer budget ballots file (Ok Accepted) →
    AllElect (candidate_count file) ballots.rankings file.winner

-- there is an answer
abbrev pub AnswerExists : Type 0
AnswerExists =
    (budget : Budget) (ballots : BallotFile) (file : Content) → IsSound file →
    (answer : Answer) × IsAnswer budget ballots file answer

-- the answer is never that the nodes ran out, if there are 2 * (n - 1)! or more
abbrev pub AnswerIsNeverSpent : Type 0
AnswerIsNeverSpent =
    (nodes : ℕ) (ballots : BallotFile) (file : Content) (last : ℕ) →
    2 * factorial (candidate_count file - 1) ≤ nodes →
    IsAnswer (Nodes nodes) ballots file (Err (Spent last)) → ⊥

-- nor is it a fault of any kind, if the budget is enough for this number of candidates
abbrev pub AnswerIsNeverFault : Type 0
AnswerIsNeverFault =
    (budget : Budget) (ballots : BallotFile) (file : Content) (fault : CheckFault) → IsSound file →
    IsEnoughFor (candidate_count file) budget → IsAnswer budget ballots file (Err fault) → ⊥

-- the margin of an accepted file with an order is the best: no claims that are true of the records and refute the same orders have a larger
-- margin
abbrev pub AcceptedMarginIsBest : Type 0
AcceptedMarginIsBest =
    (budget : Budget) (ballots : BallotFile) (file : Content) → IsSound file →
    IsAnswer budget ballots file (Ok Accepted) → IfSome file.order (λ _.
    file.margin
    ≡ best_margin (candidate_count file) file.winner (low (candidate_count file) ballots.rankings))

-- the margin of any accepted file is at most the best
abbrev pub AcceptedMarginIsReached : Type 0
AcceptedMarginIsReached =
    (budget : Budget) (ballots : BallotFile) (file : Content) → IsSound file →
    IsAnswer budget ballots file (Ok Accepted) →
    file.margin
    ≤ best_margin (candidate_count file) file.winner (low (candidate_count file) ballots.rankings)

-- an accepted file is also accepted without its order
abbrev pub AcceptedWithoutOrder : Type 0
AcceptedWithoutOrder =
    (budget : Budget) (ballots : BallotFile) (file : Content) → IsSound file →
    IsAnswer budget ballots file (Ok Accepted) →
    IsAnswer budget ballots (record file { order = None }) (Ok Accepted)

-- the canonical certificate is accepted within the nodes or sets that it took to find its claims
abbrev pub CertificateIsAccepted : Type 0
CertificateIsAccepted =
    (budget : Budget) (ballots : BallotFile) (file : Content) → IsSound file →
    IsCertificateOf ballots file →
    IsEnoughBelow budget (candidate_count file) file.winner ballots.rankings file.margin →
    IsAnswer budget ballots file (Ok Accepted)
