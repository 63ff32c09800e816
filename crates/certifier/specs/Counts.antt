-- The counts of sets of candidates.
use Rattle.std.specs.Prelude.{◌==◌, ℕ, Option}
use Rattle.std.specs.HashMap.{get_by}
use Rattle.certifier.specs.declared.counts.Counts.{Counts}

-- what is noted for a set
abbrev pub count_of : Counts → ℕ → Option ℕ
count_of counts set = get_by (λ other. set == other) counts.by_set
