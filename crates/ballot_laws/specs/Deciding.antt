-- Records spell one file, or are refused once, and never both.
use Rattle.std.specs.Prelude.{◌≡◌, ◌⊎◌, ℕ, List, Option}
use Rattle.csv_rows.specs.Rows.{Fields}
use Rattle.irv_base.specs.Names.{Id}
use Rattle.ballots.specs.Ballots.{BallotFile}
use Rattle.ballots.specs.declared.fault.BRule.{BRule}
use Rattle.ballot_laws.specs.Breaking.{IsRefused}
use Rattle.ballot_laws.specs.Spelling.{Spells}

abbrev pub AreSpelledOrRefused : Type 0
AreSpelledOrRefused =
    (asked : Option Id) (rows : List Fields) →
    ((file : BallotFile) × Spells asked rows file)
    ⊎ ((rule : BRule) × (at : ℕ) × IsRefused asked rows rule at)

abbrev pub SpellOne : Type 0
SpellOne =
    (asked : Option Id) (rows : List Fields) (file other : BallotFile) →
    Spells asked rows file → Spells asked rows other → file ≡ other

abbrev pub AreRefusedOnce : Type 0
AreRefusedOnce =
    (asked : Option Id) (rows : List Fields) (rule other : BRule) (at place : ℕ) →
    IsRefused asked rows rule at → IsRefused asked rows other place →
    (rule ≡ other) × (at ≡ place)

abbrev pub NeverBoth : Type 0
NeverBoth =
    (asked : Option Id) (rows : List Fields) (file : BallotFile) (rule : BRule) (at : ℕ) →
    Spells asked rows file → IsRefused asked rows rule at → ⊥
