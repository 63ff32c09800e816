-- The values of options.
use Rattle.std.specs.Prelude.{ℕ, Bool, ◌&&◌, ◌||◌, ◌==◌, nat_le, List, length, codes}
use Rattle.std.specs.Char.{is_ascii_digit}
use Rattle.std.specs.List.{list_all}
use Rattle.std.specs.Str.{bytes_eq}
use Rattle.std.specs.Str.Parse.{digits_value}
use Rattle.irv_base.specs.Names.{is_name}
use Rattle.sampler.specs.Seeds.{is_seed}
use Rattle.irv_base.specs.declared.limits.TheConstants.{MOST_NUMBER_DIGITS}
use Rattle.command_line.specs.declared.table.ValueKind.{ValueKind}
use Rattle.command_line.specs.declared.table.ValueKind.TheVariants.{Id, Seed, Number, FreeNumber, NumberOrBest, Flag}

-- 1 to MOST_NUMBER_DIGITS digits; leading zeros are allowed
abbrev pub is_number : List ℕ → Bool
is_number text = nat_le 1 (length text) && nat_le (length text) MOST_NUMBER_DIGITS
    && list_all is_ascii_digit text

abbrev pub number : List ℕ → ℕ
number text = digits_value 10 text

abbrev pub is_number_within : ℕ → ℕ → List ℕ → Bool
is_number_within least most text =
    is_number text && nat_le least (number text) && nat_le (number text) most

abbrev pub is_best : List ℕ → Bool
is_best text = bytes_eq text (codes "best")

abbrev pub is_value : ValueKind → List ℕ → Bool
is_value Id text = is_name text
is_value Seed text = is_seed text
is_value (Number least most default) text = is_number_within least most text
is_value (FreeNumber least most) text = is_number_within least most text
is_value (NumberOrBest least most default) text = is_best text || is_number_within least most text
is_value Flag text = length text == 0
