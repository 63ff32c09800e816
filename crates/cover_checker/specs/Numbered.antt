-- The value under a number.
use Rattle.std.specs.Prelude.{ℕ, nat_lt, if◌then◌else◌, get_or, length, unwrap_or}
use Rattle.std.specs.BTreeMap.{get}
use Rattle.std.specs.Ordering.{nat_cmp}
use Rattle.cover_checker.specs.declared.numbered.Numbered.{Numbered}

abbrev pub under : {T : Type 0} → Numbered T → ℕ → T
under numbered number =
    if nat_lt number (length numbered.near.items)
    then get_or numbered.near.items number numbered.none
    else unwrap_or (get nat_cmp numbered.far number) numbered.none
