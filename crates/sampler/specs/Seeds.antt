-- The seed of an audit.
use Rattle.std.specs.Prelude.{◌≡◌, ℕ, Bool, true, false, not, ◌&&◌, nat_le, List, length, position, Option, Some}
use Rattle.std.specs.List.{list_all}
use Rattle.sampler.specs.declared.seed.BadSeed.{BadSeed}
use Rattle.sampler.specs.declared.seed.BadSeed.TheVariants.{Length, Byte}
use Rattle.sampler.specs.declared.limits.TheConstants.{MOST_SEED_BYTES}

abbrev pub space : ℕ
space = 0x20

abbrev pub tilde : ℕ
tilde = 0x7E

-- a printable ASCII character
abbrev pub is_seed_byte : ℕ → Bool
is_seed_byte b = nat_le space b && nat_le b tilde

abbrev pub has_seed_length : List ℕ → Bool
has_seed_length bytes = nat_le 1 (length bytes) && nat_le (length bytes) MOST_SEED_BYTES

-- 1 to MOST_SEED_BYTES of these bytes
abbrev pub is_seed : List ℕ → Bool
is_seed bytes = has_seed_length bytes && list_all is_seed_byte bytes

-- ---- why a text isn't a seed

-- the index of the first byte that a seed can't have
abbrev pub first_bad_byte : List ℕ → Option ℕ
first_bad_byte bytes = position (λ b. not (is_seed_byte b)) bytes

abbrev pub Refuses : List ℕ → BadSeed → Type 0
Refuses text (Length found) = (has_seed_length text ≡ false) × (found ≡ length text)
Refuses text (Byte place) = (has_seed_length text ≡ true) × (first_bad_byte text ≡ Some place)
