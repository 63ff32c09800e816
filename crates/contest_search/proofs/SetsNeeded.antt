-- The number of sets that suffice for a search, and when they don't.
use Rattle.std.proofs.Common.{◌≡◌, ℕ, zero, suc, ◌-◌, ◌^◌, ◌<◌, ◌≤◌, List, ap, arith}
use Rattle.ballots.specs.Ballots.{BallotFile}
use Rattle.assertions.specs.Hardness.{first_bound}
use Rattle.set_search.specs.Sets.{sets_for}
use Rattle.set_search.proofs.Deciding.{sets_are_few as few_sets}
use Rattle.contest_search.specs.Budget.{sets_of}
use Rattle.contest_search.specs.Contest.{candidate_count, IsWon}
use Rattle.contest_search.specs.Laws.{SetsAreFew, SpentBySetsExactly}
use Rattle.contest_search.specs.declared.found.Found.TheVariants.{Certificate, Tie, Spent, SpentSets}
use Rattle.contest_search.proofs.Contests.{winner-one, winner-below, same_tabulated}

sets-few : (n winner : ℕ) (records : List (List ℕ)) → winner < n → sets_for n records winner ≤ 2 ^ n - 3
sets-few zero winner records low = absurd (omega (arith, low))
sets-few (suc zero) zero records low = omega arith
sets-few (suc zero) (suc winner) records low = absurd (omega (arith, low))
sets-few (suc (suc n)) winner records low = few_sets (suc (suc n)) winner records low (omega arith)

pub sets_are_few : SetsAreFew
sets_are_few ballots winner won = sets-few (candidate_count ballots) winner ballots.rankings (winner-below ballots winner won)

module _ (ballots : BallotFile) (w v : ℕ) (a : IsWon ballots w) (b : IsWon ballots v) where
  bound-same : first_bound (candidate_count ballots) ballots.rankings a.order ≡ first_bound (candidate_count ballots) ballots.rankings b.order
  bound-same = ap (first_bound (candidate_count ballots) ballots.rankings) (same_tabulated ballots w v a b)

  sets-same : sets_of ballots w ≡ sets_of ballots v
  sets-same = ap (sets_of ballots) (winner-one ballots w v a b)

pub spent_by_sets_exactly : SpentBySetsExactly
spent_by_sets_exactly sets ballots (Certificate file) winner won found = (
  λ none. absurd none,
  λ (some, above).
      let same = sets-same ballots winner found.is.winner won found.is.won in omega (arith, above, found.within, same),
)
spent_by_sets_exactly sets ballots (Tie round tied votes) winner won (is, told) = (
  λ none. absurd none,
  λ (some, above).
      let same = sets-same ballots winner told.winner won told.won in
      let bound = bound-same ballots winner told.winner won told.won in
      let within = told.within (omega (arith, some, bound)) in omega (arith, above, within, same),
)
spent_by_sets_exactly sets ballots (Spent last order margin) winner won found = absurd found
spent_by_sets_exactly sets ballots (SpentSets told order margin) winner won (its, is) =
    let same = sets-same ballots winner is.winner won is.won in
    let bound = bound-same ballots winner is.winner won is.won in
    (λ _. (omega (arith, is.some, is.hardness, bound), omega (arith, is.above, same)), λ _. tt)
