use Rattle.std.proofs.Common.{◌≡◌, ◌<◌, ◌^◌, ℕ, Bool, All}
use Rattle.set_walk.specs.Dives.{dives}
use Rattle.set_walk.proofs.Diving.{lasts}
use Rattle.set_walk.proofs.walk.walk_within.Given as goal

abbrev pub invariant-loop-c : goal.invariant-loop-c
invariant-loop-c g l =
    (l.test ≡ l.fn.test)
    × All (λ set. set < 2 ^ l.n) l.seen.keys
    × ((may : ℕ → ℕ → Bool) → g.T.Goes.is_by l.fn.test may →
    lasts l.n l.winner l.sets may l.c l.seen.keys ≡ dives l.n l.winner l.sets may)
