use Rattle.std.proofs.Common.{length}
use Rattle.std.specs.List.{range_with_len}
use Rattle.std.proofs.lemmas.List.FromFn.{length-range_with_len}
use Rattle.race_core.specs.Race.{is_closed}
use Rattle.race_core.proofs.Counts.{all_by_count}
use Rattle.race_core.proofs.laws.closing.Goals as goal

pub returns : goal.returns
returns c r = rw (length-range_with_len 0 (length r.values)) at (all_by_count (is_closed r) (range_with_len 0 (length r.values)))
