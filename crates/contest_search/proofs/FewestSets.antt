-- The number of sets that suffice for a search for the fewest NENs, and when they don't.
use Rattle.std.proofs.Common.{◌≡◌, ℕ, zero, suc, ◌-◌, ◌^◌, ◌<◌, ◌≤◌, List, ap, arith}
use Rattle.ballots.specs.Ballots.{BallotFile}
use Rattle.fewest_search.specs.Sets.{fewest_sets}
use Rattle.fewest_search.proofs.Needs.{sets_are_few as few_sets}
use Rattle.contest_search.specs.Contest.{candidate_count, IsWon}
use Rattle.contest_search.specs.Fewest.{fewest_sets_of}
use Rattle.contest_search.specs.FewestLaws.{FewestSetsAreFew, SpentFewestExactly}
use Rattle.contest_search.specs.declared.found.Found.TheVariants.{Certificate, Tie, Spent, SpentSets}
use Rattle.contest_search.proofs.Contests.{winner-one, winner-below}

sets-few : (n winner : ℕ) (records : List (List ℕ)) → winner < n → fewest_sets n records winner ≤ 2 ^ n - 3
sets-few zero winner records below = absurd (omega (arith, below))
sets-few (suc zero) zero records below = omega arith
sets-few (suc zero) (suc winner) records below = absurd (omega (arith, below))
sets-few (suc (suc n)) winner records below = few_sets (suc (suc n)) winner records below (omega arith)

pub fewest_sets_are_few : FewestSetsAreFew
fewest_sets_are_few ballots winner won = sets-few (candidate_count ballots) winner ballots.rankings (winner-below ballots winner won)

module _ (ballots : BallotFile) (w v : ℕ) (a : IsWon ballots w) (b : IsWon ballots v) where
  sets-same : fewest_sets_of ballots w ≡ fewest_sets_of ballots v
  sets-same = ap (fewest_sets_of ballots) (winner-one ballots w v a b)

pub spent_fewest_exactly : SpentFewestExactly
spent_fewest_exactly sets gap ballots (Certificate file) winner won decided found = (
  λ none. absurd none,
  λ above. let same = sets-same ballots winner found.winner won found.won in omega (arith, above, found.within, same),
)
spent_fewest_exactly sets gap ballots (Tie round tied votes) winner won decided (is, told) = absurd (is.undecided (winner, decided))
spent_fewest_exactly sets gap ballots (Spent last order margin) winner won decided found = absurd found
spent_fewest_exactly sets gap ballots (SpentSets told order margin) winner won decided (its, is) =
    let same = sets-same ballots winner is.winner won is.won in
    (λ _. omega (arith, is.above, same), λ _. tt)
