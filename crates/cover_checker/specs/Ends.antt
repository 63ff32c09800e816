-- The verdict of a walk from set to set that comes to its end.
use Rattle.cover_checker.specs.declared.walk.SetWalk.{SetWalk}
use Rattle.cover_checker.specs.declared.walk.SetWalk.TheVariants.{Found, Ended}
use Rattle.cover_checker.specs.declared.cover.Verdict.{Verdict}
use Rattle.cover_checker.specs.declared.cover.Verdict.TheVariants.{Covered, Stands}

abbrev pub verdict_at : SetWalk → Verdict
verdict_at (Found order) = Stands order
verdict_at (Ended reached) = Covered
