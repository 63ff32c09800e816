-- The rankings of a contest's ballots: a list of them, or ballots that are counted as they come.
use Rattle.std.specs.Prelude.{ℕ, List, Option, Some, None}
use Rattle.ballots.specs.declared.cast.Cast.{Cast}
use Rattle.ballots.specs.declared.cast.Cast.TheVariants.{Listed, Counted}

abbrev pub rankings_of : Cast → List (List ℕ)
rankings_of (Listed rankings) = rankings
rankings_of (Counted counting) = counting.rankings

-- the number of candidates for which they are counted, if they are
abbrev pub counted_of : Cast → Option ℕ
counted_of (Listed rankings) = None
counted_of (Counted counting) = Some counting.n
