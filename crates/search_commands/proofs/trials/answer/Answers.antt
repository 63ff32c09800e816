use Rattle.std.proofs.Common.{refl}
use Rattle.search_commands.proofs.TrialCandidates.{named_are_candidates, below_named}
use Rattle.search_commands.proofs.trials.answer.Goals as goal

pub new-votes-requires-clause-candidates : goal.new-votes-requires-clause-candidates
new-votes-requires-clause-candidates g c =
    named_are_candidates c.args.task.now.candidates c.in_ok-names.names.items c.in_ok-names.ensures c.requires.candidates.0 c.requires.candidates.1

pub new-votes-requires-clause-below : goal.new-votes-requires-clause-below
new-votes-requires-clause-below g c =
    below_named c.args.task.now.candidates c.in_ok-names.names.items c.in_ok-records.records c.in_ok-records.records c.in_ok-names.ensures refl
    c.in_ok-records.ensures.below
