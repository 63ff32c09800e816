-- The leading zeros of a number.
use Rattle.std.proofs.Common.{◌≡◌, ℕ, ◌-◌, ◌^◌, false, List, [], ◌++◌, length, replicate, arith, append-nil, refl}
use Rattle.std.specs.Fmt.{char_count, format_spec, padded_integral}

pub zeros_in_front : (numeral : List ℕ) → padded_integral (format_spec 32 0 4 18 (2 ^ 64 - 1)) false [] numeral ≡ replicate (18 - length numeral) 0x30
    ++ numeral
unfolding padded_integral char_count
zeros_in_front numeral =
    let short : 18 - length numeral - 0 - 0 ≡ 18 - length numeral = omega arith in
    rw (short, append-nil numeral) refl
