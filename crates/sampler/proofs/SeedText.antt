-- Seeds are ASCII, so they are text.
use Rattle.std.proofs.Common.{◌≡◌, ℕ, ◌<◌, ◌≤◌, true, List, [], ◌∷◌, nat_le, arith, leb-true}
use Rattle.std.specs.List.{list_all}
use Rattle.std.specs.Str.{IsUtf8, IsAscii}
use Rattle.std.proofs.lemmas.Bool.{and_parts}
use Rattle.std.proofs.lemmas.Str.{IsUtf8-from_ascii}
use Rattle.std.proofs.lemmas.Str.Ascii.{IsAscii-nil, IsAscii-cons}
use Rattle.sampler.specs.Seeds.{has_seed_length, is_seed, is_seed_byte, space, tilde}

small : (b : ℕ) → is_seed_byte b ≡ true → b < 128
small b h =
    let most : b ≤ 126 = leb-true b 126 (and_parts (nat_le space b) (nat_le b tilde) h).1 in
    omega arith

IsAscii-bytes : (bytes : List ℕ) → list_all is_seed_byte bytes ≡ true → IsAscii bytes
IsAscii-bytes [] h = IsAscii-nil
IsAscii-bytes (b ∷ bytes) h =
    let parts = and_parts (is_seed_byte b) (list_all is_seed_byte bytes) h in
    IsAscii-cons b bytes (small b parts.0) (IsAscii-bytes bytes parts.1)

pub IsUtf8-seed : (bytes : List ℕ) → is_seed bytes ≡ true → IsUtf8 bytes
IsUtf8-seed bytes h = IsUtf8-from_ascii bytes (IsAscii-bytes bytes (and_parts (has_seed_length bytes) (list_all is_seed_byte bytes) h).1)
