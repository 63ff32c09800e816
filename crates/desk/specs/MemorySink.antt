-- A sink in memory, as contracts see it.
use Rattle.std.specs.Prelude.{ℕ, List}

pub record SinkView : Type 0 where
  pub taken : List ℕ
  -- the maximum number of bytes that it takes
  pub room : ℕ
  -- the numbers of the writes that are to fail, and the number of writes made
  pub fails : List ℕ
  pub writes : ℕ
  pub faults : ℕ
