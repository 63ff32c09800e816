-- Which files a call begins, and which outcome follows from them.
use Rattle.std.specs.Prelude.{◌≡◌, ◌⊎◌, ℕ, zero, suc, List}
use Rattle.desk.specs.Count.{grown}
use Rattle.desk.specs.declared.served.Served.{Served}
use Rattle.cli_base.specs.Outcome.{Outcome, out_of_memory}
use Rattle.cli_base.specs.Script.{Readings, Asked, MayComeAfter, ComesToReadAs}

-- The desk has begun this many files. Its count stops at the last u64.
abbrev pub HasBegun : ℕ → Served → Served → Type 0
HasBegun zero before after = after.begins ≡ before.begins
HasBegun (suc files) before after = after.begins ≡ grown before.begins (suc files)

-- The first files of what is asked for are begun, this many of them, each once. All files before the last one are read.
abbrev pub AreBegun : Readings → Asked → ℕ → Type 0
AreBegun readings asked files =
    (files ≡ 0) ⊎ ((name : List ℕ) × ComesToReadAs readings asked files name)

-- What is asked for may end with this outcome once this many files are begun, or memory runs out at that point.
abbrev pub IsDueAfter : Readings → Asked → ℕ → Outcome → Type 0
IsDueAfter readings asked files due =
    MayComeAfter readings asked files due
    ⊎ ((due ≡ out_of_memory) × AreBegun readings asked files)

-- What is asked for has ended with this outcome, and the desk has begun exactly the files that this took.
pub record HasCome (readings : Readings) (before after : Served) (asked : Asked)
    (due : Outcome) : Type 0 where
  pub files : ℕ
  pub begun : HasBegun files before after
  pub is_due : IsDueAfter readings asked files due
