use Rattle.std.proofs.Common.{◌+◌, ◌*◌}
use Rattle.ballot_reader.proofs.side_by_side.+behind.Given as goal

abbrev pub decreases-add_parts : goal.decreases-add_parts
decreases-add_parts g l = 4 * l.workers

abbrev pub decreases-read_both : goal.decreases-read_both
decreases-read_both g l = 4 * l.workers + 2

abbrev pub decreases-read_both-read_front : goal.decreases-read_both-read_front
decreases-read_both-read_front g l = 4 * l.workers + 1
