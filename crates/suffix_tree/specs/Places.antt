-- Suffixes of orders of n candidates, with room for all of them.
use Rattle.std.specs.Prelude.{◌≤◌, ℕ, List, IsTrue}
use Rattle.irv_base.specs.Suffixes.{is_suffix}
use Rattle.irv_base.specs.declared.limits.TheConstants.{ROOM}

pub record IsTail (n : ℕ) (suffix : List ℕ) : Type 0 where
  pub some : 1 ≤ n
  pub room : n ≤ ROOM
  pub proper : IsTrue (is_suffix n suffix)
