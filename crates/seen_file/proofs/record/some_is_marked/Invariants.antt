use Rattle.std.proofs.Common.{◌≡◌}
use Rattle.std.specs.List.{list_any}
use Rattle.ballots.specs.Grammar.{is_marked}
use Rattle.seen_file.proofs.record.some_is_marked.Given as goal

abbrev pub invariant-loop-field : goal.invariant-loop-field
invariant-loop-field l = list_any is_marked l.fn.fields ≡ list_any is_marked l.field-iterator
