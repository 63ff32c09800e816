-- What is known about a trimmed file.
use Rattle.std.specs.Prelude.{◌≡◌, ◌≢◌, ◌≤◌, ◌-◌, ◌*◌, ◌^◌, ℕ, List, [], ◌∷◌, ◌++◌, map, Option, Some, None, Ok, Err, IsTrue, IsFalse, ⊤}
use Rattle.budget.specs.declared.budget.Budget.{Budget}
use Rattle.budget.specs.declared.budget.Budget.TheVariants.{Nodes, Sets}
use Rattle.assertions.specs.declared.assertion.Claim.{Claim}
use Rattle.assertions.specs.Refutation.{covers}
use Rattle.assertions.specs.Suffixes.{IsAlternative, factorial}
use Rattle.ballots.specs.Ballots.{BallotFile}
use Rattle.assertion_file.specs.Content.{Content, Plan, IsSound, candidate_count}
use Rattle.assertion_file.specs.Text.{told_of}
use Rattle.cover_checker.specs.Covers.{stands}
use Rattle.cover_checker.specs.Checks.{IsAnswer}
use Rattle.cover_checker.specs.declared.checked.Checked.TheVariants.{Accepted}
use Rattle.trimmer.specs.Trimmed.{margin_left, trimmed}
use Rattle.trimmer.specs.declared.fault.TrimFault.TheVariants.{Spent, SpentSets}

-- the first list is the second without some of its claims, in the same order
pub data IsPartOf {X : Type 0} : List X → List X → Type 0 where
  nothing : IsPartOf [] []
  kept : {x : X} {part whole : List X} → IsPartOf part whole → IsPartOf (x ∷ part) (x ∷ whole)
  dropped : {x : X} {part whole : List X} → IsPartOf part whole → IsPartOf part (x ∷ whole)

-- a plan for the same cards, gamma and limit
abbrev pub HasSameTerms : Plan → Plan → Type 0
HasSameTerms plan other = other ≡ record plan { draws = other.draws }

-- there is a plan exactly if there was one before, for the same cards, gamma and limit
abbrev pub IsPlannedAlike : Option Plan → Option Plan → Type 0
IsPlannedAlike None None = ⊤
IsPlannedAlike None (Some other) = ⊥
IsPlannedAlike (Some plan) None = ⊥
IsPlannedAlike (Some plan) (Some other) = HasSameTerms plan other

-- if a check accepts the file that was read, it accepts the trimmed file
abbrev pub TrimmedIsAccepted : Type 0
TrimmedIsAccepted =
    (budget : Budget) (ballots : BallotFile) (file left : Content) → IsSound file →
    IsAnswer budget ballots file (Ok Accepted) → trimmed budget file ≡ Ok left →
    IsAnswer budget ballots left (Ok Accepted)

-- the claims are a part of those that were read, each with its draws, and everything else is the same, except that a file without an order
-- has another margin if its smallest one is gone
abbrev pub TrimmedIsPart : Type 0
TrimmedIsPart =
    (budget : Budget) (file left : Content) → trimmed budget file ≡ Ok left →
    IsPartOf left.claims file.claims
    × IsPartOf (told_of left.plan left.claims) (told_of file.plan file.claims)
    × IsPlannedAlike file.plan left.plan
    × (left ≡ record file {
      margin = margin_left file left.claims;
      claims = left.claims;
      plan = left.plan;
    })

-- each claim is needed: without it there is an order that elects another candidate and that no other claim refutes
abbrev pub IsIrredundant : Content → Type 0
IsIrredundant file =
    (before : List Claim) (claim : Claim) (behind : List Claim) →
    file.claims ≡ before ++ claim ∷ behind →
    (order : List ℕ) × IsAlternative (candidate_count file) file.winner order
    × IsTrue (stands (map (λ other. other.assertion) (before ++ behind)) order)

-- every claim that is left is needed
abbrev pub TrimmedIsIrredundant : Type 0
TrimmedIsIrredundant =
    (budget : Budget) (file left : Content) → trimmed budget file ≡ Ok left → IsIrredundant left

-- no part of the claims refutes each alternative order, except all of them
abbrev pub NoPartCovers : Type 0
NoPartCovers =
    (budget : Budget) (file left : Content) → trimmed budget file ≡ Ok left →
    (part : List Claim) → IsPartOf part left.claims → part ≢ left.claims →
    IsFalse (covers (candidate_count file) file.winner (map (λ claim. claim.assertion) part))

-- trimming again doesn't change the file, if the budget doesn't run out
abbrev pub TrimmedStays : Type 0
TrimmedStays =
    (budget : Budget) (file left again : Content) → trimmed budget file ≡ Ok left →
    trimmed budget left ≡ Ok again → again ≡ left

-- with 2 * (n - 1)! nodes, no trial of n candidates runs out
abbrev pub TrimIsNeverSpent : Type 0
TrimIsNeverSpent =
    (nodes : ℕ) (file : Content) → 2 * factorial (candidate_count file - 1) ≤ nodes →
    (claim last : ℕ) → trimmed (Nodes nodes) file ≢ Err (Spent claim last)

-- nor does it with 2^n - 3 sets
abbrev pub TrimBySetsIsNeverSpent : Type 0
TrimBySetsIsNeverSpent =
    (sets : ℕ) (file : Content) → IsSound file → 2 ^ candidate_count file - 3 ≤ sets →
    (claim told : ℕ) → trimmed (Sets sets) file ≢ Err (SpentSets claim told)
