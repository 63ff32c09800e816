-- Names are ASCII, and so they are text.
use Rattle.std.proofs.Common.{◌≡◌, ℕ, ◌≤◌, ◌<◌, true, not, ◌&&◌, ◌==◌, nat_le, List, [], ◌∷◌, arith, leb-true}
use Rattle.std.specs.List.{list_all}
use Rattle.std.specs.Str.{IsUtf8, IsAscii}
use Rattle.std.proofs.lemmas.Bool.{and_parts}
use Rattle.std.proofs.lemmas.Str.{IsUtf8-from_ascii}
use Rattle.std.proofs.lemmas.Str.Ascii.{IsAscii-nil, IsAscii-cons}
use Rattle.irv_base.specs.Names.{is_name, is_name_byte, has_name_length, touches_space, space, tilde, double_quote, comma}

small : (b : ℕ) → is_name_byte b ≡ true → b < 128
small b h =
    let printable = and_parts (nat_le space b && nat_le b tilde) (not (b == double_quote))
    (and_parts (nat_le space b && nat_le b tilde && not (b == double_quote)) (not (b == comma)) h).0 in
    let most : b ≤ 126 = leb-true b 126 (and_parts (nat_le space b) (nat_le b tilde) printable.0).1 in
    omega arith

IsAscii-bytes : (bytes : List ℕ) → list_all is_name_byte bytes ≡ true → IsAscii bytes
IsAscii-bytes [] h = IsAscii-nil
IsAscii-bytes (b ∷ bytes) h =
    let parts = and_parts (is_name_byte b) (list_all is_name_byte bytes) h in
    IsAscii-cons b bytes (small b parts.0) (IsAscii-bytes bytes parts.1)

pub IsUtf8-name : (bytes : List ℕ) → is_name bytes ≡ true → IsUtf8 bytes
IsUtf8-name bytes h = IsUtf8-from_ascii bytes (IsAscii-bytes bytes
    (and_parts (has_name_length bytes && not (touches_space bytes)) (list_all is_name_byte bytes) h).1)
