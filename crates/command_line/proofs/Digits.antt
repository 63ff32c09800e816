-- Numbers that are written in digits.
use Rattle.std.proofs.Common.{◌≡◌, ◌&&◌, ◌<◌, ◌^◌, ℕ, List, true, Ok, Result, length, nat_le, nat_lt, arith, rules, leb-true, ltb-true}
use Rattle.std.specs.Char.{is_ascii_digit}
use Rattle.std.specs.List.{list_all}
use Rattle.std.specs.Str.Parse.{digits_value, ParsesUnsigned}
use Rattle.std.proofs.lemmas.Bool.{and_parts}
use Rattle.std.proofs.lemmas.Str.Parse.{IsNumeralModel, numerals_by_value, digits_value_short, parse_gives}
use Rattle.irv_base.specs.declared.limits.TheConstants.{MOST_NUMBER_DIGITS}
use Rattle.command_line.specs.Values.{is_number}

abbrev pub AreDigits : List ℕ → Type 0
AreDigits text = list_all is_ascii_digit text ≡ true

own : IsNumeralModel AreDigits (digits_value 10)
own = numerals_by_value _ (search rules)

-- a number that has room is read as it is written
parses : (k : ℕ) {E : Type 0} (text : List ℕ) (r : Result ℕ E) → ParsesUnsigned k 10 text r → is_number text ≡ true → digits_value 10 text < 2 ^ k →
    r ≡ Ok (digits_value 10 text)
parses k text r p h room =
    let (range, digits) = and_parts (nat_le 1 (length text) && nat_le (length text) MOST_NUMBER_DIGITS) (list_all is_ascii_digit text) h in
    parse_gives own k text r p digits
    (omega (arith, leb-true 1 (length text) (and_parts (nat_le 1 (length text)) (nat_le (length text) MOST_NUMBER_DIGITS) range).0)) room

few : (text : List ℕ) → is_number text ≡ true → digits_value 10 text < 10 ^ MOST_NUMBER_DIGITS
few text h =
    let (range, digits) = and_parts (nat_le 1 (length text) && nat_le (length text) MOST_NUMBER_DIGITS) (list_all is_ascii_digit text) h in
    digits_value_short own text MOST_NUMBER_DIGITS digits
    (leb-true (length text) MOST_NUMBER_DIGITS (and_parts (nat_le 1 (length text)) (nat_le (length text) MOST_NUMBER_DIGITS) range).1)

pub parsed : {E : Type 0} (text : List ℕ) (r : Result ℕ E) → ParsesUnsigned 64 10 text r → is_number text ≡ true → r ≡ Ok (digits_value 10 text)
parsed text r p h = parses 64 text r p h (omega (arith, few text h))

pub parsed-small : {E : Type 0} (text : List ℕ) (r : Result ℕ E) → ParsesUnsigned 32 10 text r → (is_number text && nat_lt (digits_value 10 text) (2 ^ 32))
    ≡ true → r ≡ Ok (digits_value 10 text)
parsed-small text r p h =
    let (written, room) = and_parts (is_number text) (nat_lt (digits_value 10 text) (2 ^ 32)) h in
    parses 32 text r p written (ltb-true (digits_value 10 text) (2 ^ 32) room)
