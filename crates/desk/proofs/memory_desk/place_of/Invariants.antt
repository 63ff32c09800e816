-- No file so far has the name.
use Rattle.std.proofs.Common.{◌≡◌, drop}
use Rattle.desk.specs.Desk.{held_bytes}
use Rattle.desk.specs.MemoryDesk.{files_of}
use Rattle.desk.proofs.memory_desk.place_of.Given as goal

abbrev pub invariant-loop-i : goal.invariant-loop-i
invariant-loop-i l = held_bytes l.name (files_of l.files) ≡ held_bytes l.name (files_of (drop l.i l.files))
