use Rattle.std.proofs.Common.{rules, arith}
use Rattle.desk.proofs.Held.{found_at}
use Rattle.desk.proofs.memory_desk.place_of.Goals as goal

pub returns-then-eq : goal.returns-then-eq
returns-then-eq c =
    record { found = found_at c.args.name.now c.args.files.now c.loop-i.i c.index-files-i.result (omega arith) c.index-files-i.is (search rules) c.loop-i.invariant }
