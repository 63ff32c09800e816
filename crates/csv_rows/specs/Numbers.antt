-- Numbers in a file.
use Rattle.std.specs.Prelude.{ℕ, ◌&&◌, nat_le, if◌then◌else◌, List, length, Option, Some, None}
use Rattle.std.specs.Char.{is_ascii_digit}
use Rattle.std.specs.List.{list_all}
use Rattle.std.specs.Str.Parse.{digits_value}
use Rattle.irv_base.specs.declared.limits.TheConstants.{MOST_NUMBER_DIGITS}

-- a number is 1 to MOST_NUMBER_DIGITS digits, leading zeros allowed
abbrev pub number_of : List ℕ → Option ℕ
number_of text =
    if nat_le 1 (length text) && nat_le (length text) MOST_NUMBER_DIGITS
    && list_all is_ascii_digit text
    then Some (digits_value 10 text) else None
