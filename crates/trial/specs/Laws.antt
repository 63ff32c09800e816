-- The laws of a trial, and its worked examples.
use Rattle.std.specs.Prelude.{◌≡◌, ℕ, ◌<◌, [], ◌∷◌, length, All}
use Rattle.trial.specs.Records.{drawn, after, trial_records}

-- the first four draws of number 0
abbrev pub FirstDraws : Type 0
FirstDraws =
    drawn 0 ∷ drawn (after 1 0) ∷ drawn (after 2 0) ∷ drawn (after 3 0) ∷ []
    ≡ 167951807 ∷ 218396424 ∷ 1299921937 ∷ 861605236 ∷ []

-- two places are drawn; candidate 0 is the smaller at both, and counts once
abbrev pub OneBallot : Type 0
OneBallot = trial_records 0 2 1 ≡ (0 ∷ []) ∷ []

abbrev pub HasBallots : Type 0
HasBallots = (number n ballots : ℕ) → length (trial_records number n ballots) ≡ ballots

abbrev pub RanksCandidates : Type 0
RanksCandidates =
    (number n ballots : ℕ) → 0 < n →
    All (λ ranking. All (λ c. c < n) ranking) (trial_records number n ballots)
