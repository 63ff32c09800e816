use Rattle.std.proofs.Common.{◌≤◌, ◌-◌, take, length}
use Rattle.ballot_reader.proofs.Names.{NamesSoFar}
use Rattle.ballot_reader.proofs.contest.names_of.Given as goal

abbrev pub invariant-loop : goal.invariant-loop
invariant-loop l = record {
  so_far : NamesSoFar (take l.n l.fn.fields) l.names (take (l.n - l.counter) l.fields);
  enough : l.n - l.counter ≤ length l.fields;
}
