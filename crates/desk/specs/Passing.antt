-- How often a file gave too many bytes.
use Rattle.std.specs.Prelude.{ℕ, Bool, not, ◌&&◌, nat_lt, if◌then◌else◌}
use Rattle.irv_base.specs.declared.limits.TheConstants.{MOST_FILE_BYTES}
use Rattle.desk.specs.Count.{one_more}

abbrev pub is_too_long : ℕ → Bool
is_too_long bytes = nat_lt MOST_FILE_BYTES bytes

-- one more if a file that hadn't given too many bytes before has given too many now
abbrev pub passing : ℕ → ℕ → ℕ → ℕ
passing before now count =
    if not (is_too_long before) && is_too_long now then one_more count else count

-- one more if a file gave too many bytes in all
abbrev pub too_long_after : ℕ → ℕ → ℕ
too_long_after bytes count = if is_too_long bytes then one_more count else count
