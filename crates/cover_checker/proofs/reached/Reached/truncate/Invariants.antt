use Rattle.std.proofs.Common.{◌≡◌, ◌≤◌, ◌+◌, ◌-◌, max, length, take}
use Rattle.cover_checker.proofs.reached.Reached.truncate.Given as goal

abbrev pub invariant-loop : goal.invariant-loop
invariant-loop l = record {
  from : l.len ≤ l.counter;
  most : l.counter ≤ max l.end l.len;
  all : l.end ≡ length l.fn.self;
  left : l.self ≡ take (l.end + l.len - l.counter) l.fn.self;
}
