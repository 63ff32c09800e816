use Rattle.std.proofs.Common.{◌≡◌}
use Rattle.search_commands.specs.Trial.{trial_candidates}
use Rattle.search_commands.proofs.trial_texts.trial_candidates.Given as goal

abbrev pub invariant-loop-c : goal.invariant-loop-c
invariant-loop-c l = l.names.items ≡ trial_candidates l.c
