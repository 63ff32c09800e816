-- The records of a trial, drawn by a linear congruential generator (D. E. Knuth's 64-bit multiplier). Its state is a number below 2 ^ 64.
use Rattle.std.specs.Prelude.{ℕ, zero, suc, ◌+◌, ◌*◌, ◌/◌, ◌%◌, ◌^◌, min, List, [], ◌∷◌, ◌++◌, if◌then◌else◌, fold}
use Rattle.irv_base.specs.Candidates.{is_in}
use Rattle.trial.specs.declared.draws.TheConstants.{MULTIPLIER, INCREMENT, DROPPED_BITS}

-- ---- draws

abbrev pub next : ℕ → ℕ
next state = (state * MULTIPLIER + INCREMENT) % 2 ^ 64

-- the number that the first draw from this state gives
abbrev pub drawn : ℕ → ℕ
drawn state = next state / 2 ^ DROPPED_BITS

-- the state after this many draws
abbrev pub after : ℕ → ℕ → ℕ
after zero state = state
after (suc draws) state = after draws (next state)

-- ---- a ballot

-- the number of places on it, which the first draw decides
abbrev pub places_of : ℕ → ℕ → ℕ
places_of n state = 1 + drawn state % n

-- the candidates in this many places, each of which is the smaller of two that are drawn
abbrev pub chosen : ℕ → ℕ → ℕ → List ℕ
chosen n zero state = []
chosen n (suc places) state =
    min (drawn state % n) (drawn (next state) % n) ∷ chosen n places (after 2 state)

-- a ranking with a candidate added at its end, unless the candidate is already there
abbrev pub with_choice : List ℕ → ℕ → List ℕ
with_choice ranking c = if is_in ranking c then ranking else ranking ++ c ∷ []

-- a ranking without repeated candidates
abbrev pub ranking_of : List ℕ → List ℕ
ranking_of choices = fold with_choice [] choices

abbrev pub ballot : ℕ → ℕ → List ℕ
ballot n state = ranking_of (chosen n (places_of n state) (next state))

-- ---- the records: this many ballots, in order

abbrev pub ballots_from : ℕ → ℕ → ℕ → List (List ℕ)
ballots_from n zero state = []
ballots_from n (suc ballots) state =
    ballot n state ∷ ballots_from n ballots (after (1 + 2 * places_of n state) state)

-- the first state is the number of the trial
abbrev pub trial_records : ℕ → ℕ → ℕ → List (List ℕ)
trial_records number n ballots = ballots_from n ballots number
