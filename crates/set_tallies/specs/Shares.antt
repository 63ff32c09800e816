-- The shares of workers who count ballots.
use Rattle.std.specs.Prelude.{ℕ, ◌<◌, ◌≤◌, ◌*◌, List, length, slice_index_or, Result, Vec, IfOk}
use Rattle.std.specs.declared.alloc.Global.{Global}
use Rattle.std.specs.Fork.{slice_chunk}
use Rattle.irv_base.specs.declared.memory.Memory.{Memory}
use Rattle.set_tallies.specs.Sums.{IsCountOf}

-- each worker has counted the chunk of the rankings with its number, if there was memory for its table, and the chunks together are
-- all the rankings
pub record AreShares
    (n size : ℕ) (rankings : List (List ℕ))
    (shares : List (Result (Vec ℕ Global) Memory)) : Type 0 where
  pub all : length rankings ≤ length shares * size
  pub each : (i : ℕ) (d : Result (Vec ℕ Global) Memory) → i < length shares →
      IfOk (slice_index_or shares i d)
      (λ table. IsCountOf n (slice_chunk rankings size i) table.items)
