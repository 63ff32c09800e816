-- Entries whose sets and numbers are stored in two lists of the same length.
use Rattle.std.specs.Prelude.{ℕ, List}
use Rattle.std.specs.Simd.Lanes.{zip2}
use Rattle.set_tallies.specs.declared.entry.Entry.{Entry}

abbrev pub entry_of : ℕ → ℕ → Entry
entry_of before count = record { before = before; count = count }

abbrev pub paired : List ℕ → List ℕ → List Entry
paired sets counts = zip2 entry_of sets counts

-- the entries of a candidate
pub record Listing : Type 0 where
  pub items : List Entry
