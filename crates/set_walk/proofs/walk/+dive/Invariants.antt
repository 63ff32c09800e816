use Rattle.std.proofs.Common.{◌≡◌, ◌-◌, ◌<◌, ◌^◌, ℕ, Bool, length, All}
use Rattle.set_walk.specs.Dives.{dive}
use Rattle.set_walk.proofs.Diving.{rest}
use Rattle.set_walk.proofs.walk.+dive.Given as goal

abbrev pub decreases-dive : goal.decreases-dive
decreases-dive g l = l.n - length l.suffix.now

abbrev pub invariant-loop-c : goal.invariant-loop-c
invariant-loop-c g l =
    (l.test ≡ l.fn.test)
    × All (λ set. set < 2 ^ l.n) l.seen.keys
    × ((may : ℕ → ℕ → Bool) → g.T.Goes.is_by l.fn.test may →
    rest l.n l.sets may l.suffix l.c l.seen.keys ≡ dive l.n l.sets may (l.n - length l.suffix) l.suffix l.fn.seen.keys)
