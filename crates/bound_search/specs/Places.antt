-- The places of suffixes: the other suffixes in which they end.
use Rattle.std.specs.Prelude.{ℕ, Bool, ◌||◌, List, [], ◌∷◌, Contains}
use Rattle.irv_base.specs.Names.{is_same}
use Rattle.irv_base.specs.Orders.{EndsIn}
use Rattle.suffix_tree.specs.declared.scored.Scored.{Scored}

-- the suffix ends in one of these
abbrev pub EndsInOne : List Scored → List ℕ → Type 0
EndsInOne scored s = (o : Scored) × Contains scored o × EndsIn s o.tail.list

-- EndsIn, as a test
abbrev pub ends_in : List ℕ → List ℕ → Bool
ends_in [] t = is_same [] t
ends_in (c ∷ s) t = is_same (c ∷ s) t || ends_in s t
