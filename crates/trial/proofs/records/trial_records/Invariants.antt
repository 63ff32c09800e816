use Rattle.std.proofs.Common.{◌≡◌, ◌-◌, ◌++◌}
use Rattle.trial.specs.Records.{ballots_from, trial_records}
use Rattle.trial.proofs.records.trial_records.Given as goal

abbrev pub invariant-loop : goal.invariant-loop
invariant-loop l = l.records ++ ballots_from l.n (l.ballots - l.counter) l.draws ≡ trial_records l.number l.n l.ballots
