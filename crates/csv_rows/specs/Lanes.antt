-- Bytes that are looked at side by side, and the marks of those that pass a test.
use Rattle.std.specs.Prelude.{ℕ, Bool, not, nat_lt, ◌≡◌, ◌≤◌, ◌||◌, ◌==◌, if◌then◌else◌, List, length, map, take}
use Rattle.std.specs.Int.{w64, trailing_zeros}
use Rattle.std.specs.List.{prefix_len}
use Rattle.std.specs.Simd.Lanes.{mask_l}
use Rattle.memchr.specs.Find.{NoneBefore, Passes, is_byte3}

-- the number of bytes that come before the first that passes a test
abbrev pub before_first : (ℕ → Bool) → List ℕ → ℕ
before_first test bytes = prefix_len (λ b. not (test b)) bytes

-- the place of the lowest bit that is set, or the number of lanes if none is
abbrev pub first_set : ℕ → ℕ → ℕ
first_set marks lanes = if marks == 0 then lanes else trailing_zeros w64 marks

-- ---- the marks by which the fields of a line are cut

-- a byte that is not above a space; the line ends and the blanks are among these
abbrev pub is_low : ℕ → Bool
is_low b = nat_lt b 0x21

-- a comma, a line end or a similar byte; all bytes that end a field are among these
abbrev pub is_stop : ℕ → Bool
is_stop b = (b == 0x2C) || is_low b

-- a bit for each of the first bytes of a text, set if the byte is a stop; the number of bytes that were looked at is unknown
pub record AreMarks (marks : ℕ) (text : List ℕ) : Type 0 where
  pub looked : ℕ
  pub few : looked ≤ 64
  pub within : looked ≤ length text
  pub same : marks ≡ mask_l (map is_stop (take looked text))

-- the first comma or line end of a text, with no blank before it
abbrev pub IsBareEnd : List ℕ → ℕ → Type 0
IsBareEnd text end =
    NoneBefore (Passes is_stop text) 0 (length text) end × Passes (is_byte3 0x2C 0x0D 0x0A) text end
