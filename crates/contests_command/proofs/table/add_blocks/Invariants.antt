use Rattle.std.proofs.Common.{◌≡◌, ◌++◌, string_bytes}
use Rattle.contests_command.specs.Table.{blocks}
use Rattle.contests_command.proofs.Lines.{blocks_from}
use Rattle.contests_command.proofs.table.add_blocks.Given as goal

abbrev pub invariant-loop-i : goal.invariant-loop-i
invariant-loop-i l =
    string_bytes l.text ++ blocks_from l.limit l.list l.ends l.i ≡ string_bytes l.initial.text ++ blocks l.limit l.list l.ends
