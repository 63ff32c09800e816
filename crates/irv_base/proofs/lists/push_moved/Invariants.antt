use Rattle.std.proofs.Common.{◌≡◌, ◌≤◌, ◌+◌, ◌++◌, length, map, take, vec_len}
use Rattle.std.specs.Vec.{vec_capacity}
use Rattle.irv_base.proofs.lists.push_moved.Given as goal

-- those before this place are appended, and there is room for the others
abbrev pub invariant-loop-begin : goal.invariant-loop-begin
invariant-loop-begin l = record {
  moved : l.begins.items ≡ l.fn.begins.items ++ map (λ begin. l.elements + begin) (take l.begin-index l.others);
  room : vec_len l.begins + length l.others ≤ vec_capacity l.begins + l.begin-index;
}
