-- The fewest NENs that complete all NEBs of a margin.
use Rattle.std.specs.Prelude.{◌≡◌, ◌++◌, ℕ, List, map, All}
use Rattle.assertions.specs.Certificate.{claim_of}
use Rattle.fewest.specs.Apart.{HasFewest}
use Rattle.nen_cut.specs.Cut.{IsStrongestNen}
use Rattle.nen_cut.specs.Floors.{assertions_in, nebs}
use Rattle.nen_cut.specs.declared.least.FewestNens.{FewestNens}

-- all true NEBs of at least the margin, and NENs each of which is the strongest for its step; together they have the fewest NENs
pub record AreFewestNens (n winner : ℕ) (records : List (List ℕ)) (least : ℕ)
    (found : FewestNens) : Type 0 where
  pub all_nebs : found.nebs.items ≡ map (claim_of records) (nebs n records least)
  pub strongest : All (IsStrongestNen n records least) found.nens.items
  pub fewest : HasFewest n winner records least
      (nebs n records least ++ assertions_in found.nens.items)
