-- What a taker has taken over a call.
use Rattle.std.specs.Prelude.{List, ℕ, ◌++◌, ◌≡◌, Option}

-- the same is sought, and the taker has now taken these bytes after whatever it had taken before
pub record TookMore
    {T : Type 0} (sought : T → Option (List ℕ)) (has_taken : T → List ℕ → Type 0) (old new : T)
    (bytes : List ℕ) : Type 0 where
  pub same : sought new ≡ sought old
  pub taken : (before : List ℕ) → has_taken old before → has_taken new (before ++ bytes)
