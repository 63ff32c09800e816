use Rattle.std.proofs.Common.{Result, Ok, Err, OnOk}
use Rattle.input_files.proofs.votes.VotesTakerTaker.take.Goals as goal

on_ok : {T E P : Type 0} (r : Result T E) → P → OnOk r P
on_ok (Ok x) p = p
on_ok (Err e) p = tt

pub returns-clause-taken : goal.returns-clause-taken
returns-clause-taken g c = on_ok c.take.result (record { same = c.take.ensures.asked; taken = c.take.ensures.taken })
