-- With the maximum number of sets that a line may allow, nothing with up to twenty candidates runs out of budget.
use Rattle.std.proofs.Common.{ℕ, ◌≤◌, ◌-◌, ◌^◌, arith}
use Rattle.std.proofs.Math.Pow.{pow_mono}
use Rattle.assertion_file.specs.Content.{candidate_count as count_in}
use Rattle.adoption.specs.Adopted.{each_once}
use Rattle.cover_checker.specs.Findings.{assertions_of}
use Rattle.cover_checker.proofs.Enough.{sets-enough}
use Rattle.contest_search.specs.Budget.{sets_of}
use Rattle.contest_search.specs.Contest.{candidate_count}
use Rattle.contest_search.proofs.SetsNeeded.{sets_are_few}
use Rattle.call_laws.specs.Laws.{MostSetsSuffice, MostSetsSufficeToAdopt, MostSetsSufficeToCheck}

within : (n : ℕ) → n ≤ 20 → 2 ^ n - 3 ≤ 1048576
within n few = let less : 2 ^ n ≤ 1048576 = pow_mono few in omega (arith, less)

pub most_sets_suffice : MostSetsSuffice
most_sets_suffice ballots winner won few =
    let sets : sets_of ballots winner ≤ 2 ^ candidate_count ballots - 3 = sets_are_few ballots winner won in
    let most = within (candidate_count ballots) few in
    omega (arith, sets, most)

pub most_sets_suffice_to_check : MostSetsSufficeToCheck
most_sets_suffice_to_check file sound few =
    sets-enough (count_in file) file.winner (assertions_of file) 1048576 sound.winner (omega (arith, sound.fewest)) (within (count_in file) few)

pub most_sets_suffice_to_adopt : MostSetsSufficeToAdopt
most_sets_suffice_to_adopt ballots claims are sound few =
    let n = candidate_count ballots in
    sets-enough n claims.winner (each_once n claims.assertions) 1048576 sound.winner (omega (arith, are.fewest)) (within n few)
