use Rattle.std.proofs.Common.{◌≡◌, [], map, replicate}
use Rattle.set_tallies.proofs.count.none.Given as goal

abbrev pub invariant-loop : goal.invariant-loop
invariant-loop l = map (λ v. v.items) l.lists.items ≡ replicate l.counter []
