-- Numbers written in digits.
use Rattle.std.proofs.Common.{◌≡◌, ◌&&◌, ◌==◌, ◌<◌, ◌≤◌, ◌^◌, ℕ, zero, suc, List, [], ◌∷◌, Bool, true, false, Result, Ok, length, nat_le, refl, arith, rules, leb-true}
use Rattle.std.specs.Char.{is_ascii_digit}
use Rattle.std.specs.List.{list_all}
use Rattle.std.specs.Str.{IsUtf8, IsAscii}
use Rattle.std.specs.Str.Parse.{digits_value, ParsesUnsigned}
use Rattle.std.proofs.lemmas.Bool.{and_parts, and_from, eqb-true, eqb-false}
use Rattle.std.proofs.lemmas.Str.{IsUtf8-from_ascii}
use Rattle.std.proofs.lemmas.Str.Ascii.{IsAscii-nil, IsAscii-cons}
use Rattle.std.proofs.lemmas.Str.Parse.{IsNumeralModel, numerals_by_value, digits_value_short, parse_gives}
use Rattle.irv_base.specs.declared.limits.TheConstants.{MOST_NUMBER_DIGITS}

abbrev pub AreDigits : List ℕ → Type 0
AreDigits text = list_all is_ascii_digit text ≡ true

pub own : IsNumeralModel AreDigits (digits_value 10)
own = numerals_by_value _ (search rules)

small : (b : ℕ) → is_ascii_digit b ≡ true → b < 128
small b h = let most : b ≤ 57 = leb-true b 57 (and_parts (nat_le 48 b) (nat_le b 57) h).1 in omega arith

pub IsAscii-digits : (text : List ℕ) → AreDigits text → IsAscii text
IsAscii-digits [] h = IsAscii-nil
IsAscii-digits (b ∷ text) h = let parts = and_parts (is_ascii_digit b) (list_all is_ascii_digit text) h in
    IsAscii-cons b text (small b parts.0) (IsAscii-digits text parts.1)

pub IsUtf8-digits : (text : List ℕ) → AreDigits text → IsUtf8 text
IsUtf8-digits text h = IsUtf8-from_ascii text (IsAscii-digits text h)

pub few : (text : List ℕ) → AreDigits text → length text ≤ MOST_NUMBER_DIGITS → digits_value 10 text < 10 ^ MOST_NUMBER_DIGITS
few text h short = digits_value_short own text MOST_NUMBER_DIGITS h short

pub parsed : {E : Type 0} (text : List ℕ) (r : Result ℕ E) → ParsesUnsigned 64 10 text r → AreDigits text → 1 ≤ length text →
    length text ≤ MOST_NUMBER_DIGITS → r ≡ Ok (digits_value 10 text)
parsed text r p h some short = parse_gives own 64 text r p h (omega (arith, some)) (omega (arith, few text h short))

abbrev pub is_number : List ℕ → Bool
is_number text = nat_le 1 (length text) && nat_le (length text) MOST_NUMBER_DIGITS && list_all is_ascii_digit text

pub is_number-from : (text : List ℕ) → AreDigits text → 1 ≤ length text → length text ≤ MOST_NUMBER_DIGITS → is_number text ≡ true
is_number-from text h some short =
    and_from (nat_le 1 (length text) && nat_le (length text) MOST_NUMBER_DIGITS) (list_all is_ascii_digit text)
    (and_from (nat_le 1 (length text)) (nat_le (length text) MOST_NUMBER_DIGITS) (le-nat_le 1 (length text) some)
    (le-nat_le (length text) MOST_NUMBER_DIGITS short)) h
  where
    le-nat_le : (a b : ℕ) → a ≤ b → nat_le a b ≡ true
    le-nat_le a b h = grind arith

-- ---- the number of a card
-- ---- lengths

pub no_length : (n : ℕ) → (n == 0) ≡ true → n ≡ 0
no_length n h = eqb-true n 0 h

pub some_length : (n : ℕ) → (n == 0) ≡ false → 1 ≤ n
some_length zero h = absurd (eqb-false 0 0 h refl)
some_length (suc n) h = omega arith
