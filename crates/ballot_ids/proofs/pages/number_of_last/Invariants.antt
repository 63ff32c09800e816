use Rattle.std.proofs.Common.{◌≡◌, ◌+◌, drop}
use Rattle.ballot_ids.specs.Ids.{counted, number_behind}
use Rattle.ballot_ids.proofs.pages.number_of_last.Given as goal

-- what is counted, and the bytes that are left
abbrev pub invariant-loop-i : goal.invariant-loop-i
invariant-loop-i l = number_behind l.n (drop (l.first + l.i) l.id) ≡ counted l.id
