-- The rounds of a tabulation, while two or more candidates remain: their tallies, the records that rank none of them, and those who
-- share the smallest tally.
use Rattle.std.specs.Prelude.{◌≡◌, ◌==◌, ◌++◌, ℕ, not, List, [], ◌∷◌, map, filter, slice_index, count_by, is_some}
use Rattle.irv_base.specs.Candidates.{members, set_of}
use Rattle.irv_base.specs.Records.{top}
use Rattle.irv_base.specs.Tabulation.{sharing_least}
use Rattle.set_tallies.specs.Bags.{tallies}
use Rattle.irv_tabulator.specs.declared.tabulated.Round.{Round}

pub record Count : Type 0 where
  -- a tally for each candidate of the contest, 0 for those who don't remain
  pub votes : List ℕ
  pub exhausted : ℕ
  -- the set of those who share the smallest tally
  pub tied : ℕ

-- the number of records that rank nobody in the set
abbrev pub exhausted_of : List (List ℕ) → ℕ → ℕ
exhausted_of records set = count_by (λ ranking. not (is_some (top ranking set))) records

-- the round in which these candidates remain
abbrev pub count_of : ℕ → List (List ℕ) → List ℕ → Count
count_of n records cs = record {
  votes = tallies records n (set_of cs);
  exhausted = exhausted_of records (set_of cs);
  tied = set_of (sharing_least records cs);
}

-- the rounds of an order of n candidates: one for each place but the last, in which the candidates from that place on remain
abbrev pub rounds_of : ℕ → List (List ℕ) → List ℕ → List Count
rounds_of n records [] = []
rounds_of n records (winner ∷ []) = []
rounds_of n records (c ∷ d ∷ rest) =
    count_of n records (c ∷ d ∷ rest) ∷ rounds_of n records (d ∷ rest)

-- what a round says
abbrev pub count_in : Round → Count
count_in round =
    record { votes = round.tallies.items; exhausted = round.exhausted; tied = round.tied }

abbrev pub counts_in : List Round → List Count
counts_in rounds = map count_in rounds

-- one more round is noted
abbrev pub Notes : List Round → Count → List Round → Type 0
Notes old count new = counts_in new ≡ counts_in old ++ count ∷ []

-- the candidates of the set who have this tally in the row
abbrev pub sharing : List ℕ → ℕ → ℕ → List ℕ
sharing row set tally = filter (λ c. slice_index row c == tally) (members set)
