use Rattle.std.proofs.Common.{◌≡◌, ◌+◌, ◌-◌, ◌*◌, fold}
use Rattle.trial.specs.Records.{after, places_of, chosen, with_choice, ballot}
use Rattle.trial.proofs.records.drawn_ballot.Given as goal

abbrev pub invariant-loop : goal.invariant-loop
invariant-loop l = record {
  ranking : fold with_choice l.ranking (chosen l.n (l.places - l.counter) l.draws) ≡ ballot l.n l.fn.draws;
  state : after (2 * (l.places - l.counter)) l.draws ≡ after (1 + 2 * places_of l.n l.fn.draws) l.fn.draws;
}
