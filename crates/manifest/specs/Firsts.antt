-- What a manifest keeps besides its batches: the number of the first card of each batch, and the number of all cards.
use Rattle.std.specs.Prelude.{◌≡◌, ◌+◌, ◌≤◌, ℕ, List, [], ◌∷◌, length}
use Rattle.std.specs.List.{sum}
use Rattle.irv_base.specs.Names.{Id}
use Rattle.manifest.specs.Cards.{AreBatches}

-- batch by batch, where the next card has number a
abbrev pub firsts_from : ℕ → List ℕ → List ℕ
firsts_from a [] = []
firsts_from a (n ∷ counts) = a ∷ firsts_from (a + n) counts

pub record IsManifest (ids : List Id) (counts firsts : List ℕ) (cards : ℕ) : Type 0 where
  pub batches : AreBatches ids counts
  pub first_each : firsts ≡ firsts_from 1 counts
  pub all : cards ≡ sum counts
  pub some : 1 ≤ length ids
