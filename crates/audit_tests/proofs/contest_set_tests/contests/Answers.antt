use Rattle.contest_set.proofs.ReadContests.{contests_apart}
use Rattle.audit_tests.proofs.contest_set_tests.contests.Goals as goal

pub returns-in-Ok-clause-differ : goal.returns-in-Ok-clause-differ
returns-in-Ok-clause-differ c = (contests_apart c.as_bytes.result.now c.in-Ok.list.items c.in-Ok.ensures.read).differ

pub returns-in-Ok-clause-few : goal.returns-in-Ok-clause-few
returns-in-Ok-clause-few c = (contests_apart c.as_bytes.result.now c.in-Ok.list.items c.in-Ok.ensures.read).few
