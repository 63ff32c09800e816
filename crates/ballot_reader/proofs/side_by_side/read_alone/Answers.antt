use Rattle.ballot_reader.proofs.side_by_side.read_alone.Goals as goal

pub returns-in-Ok : goal.returns-in-Ok
returns-in-Ok c = rw c.records-records.ensures at c.in-Ok.ensures.read
