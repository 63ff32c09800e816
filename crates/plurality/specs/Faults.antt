-- Why a contest has no plurality winner.
use Rattle.std.specs.Prelude.{◌≡◌, Result, Err}
use Rattle.plurality.specs.Plural.{Outcome, Tie}
use Rattle.plurality.specs.declared.fault.PluralFault.{PluralFault}
use Rattle.plurality.specs.declared.fault.PluralFault.TheVariants.{Tie as Tied, Memory}

-- two or more candidates share the greatest number; memory may run short at any time
abbrev pub Refuses : Result Outcome Tie → PluralFault → Type 0
Refuses outcome (Tied tied tally) = outcome ≡ Err (record { tied = tied; tally = tally })
Refuses outcome Memory = Unit {0}
