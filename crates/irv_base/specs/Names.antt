-- Names, also called ids, of contests, candidates and ballots.
use Rattle.std.specs.Prelude.{ℕ, ◌-◌, Bool, true, not, ◌&&◌, ◌||◌, ◌==◌, nat_le, List, [], ◌∷◌, length, slice_index, position, Option}
use Rattle.std.specs.List.{list_all, list_any}
use Rattle.std.specs.Cmp.Lexicographic.{pointwise}
use Rattle.irv_base.specs.declared.limits.TheConstants.{MOST_NAME_BYTES}

abbrev pub space : ℕ
space = 0x20

abbrev pub double_quote : ℕ
double_quote = 0x22

abbrev pub comma : ℕ
comma = 0x2C

abbrev pub tilde : ℕ
tilde = 0x7E

-- a printable ASCII character that needs no quotes in a comma-separated file
abbrev pub is_name_byte : ℕ → Bool
is_name_byte b = nat_le space b && nat_le b tilde && not (b == double_quote) && not (b == comma)

abbrev pub has_name_length : List ℕ → Bool
has_name_length bytes = nat_le 1 (length bytes) && nat_le (length bytes) MOST_NAME_BYTES

-- begins or ends with a space
abbrev pub touches_space : List ℕ → Bool
touches_space bytes =
    (slice_index bytes 0 == space) || (slice_index bytes (length bytes - 1) == space)

-- a name has 1 to MOST_NAME_BYTES bytes that a name may have, and neither begins nor ends with a space
abbrev pub is_name : List ℕ → Bool
is_name bytes = has_name_length bytes && not (touches_space bytes) && list_all is_name_byte bytes

-- ---- lists of them

abbrev pub Id : Type 0
Id = List ℕ

abbrev pub is_same : Id → Id → Bool
is_same a b = pointwise ◌==◌ a b

abbrev pub is_among : List Id → Id → Bool
is_among ids id = list_any (λ other. is_same other id) ids

-- the candidate with that id, if these are the ids of the candidates
abbrev pub candidate_named : List Id → Id → Option ℕ
candidate_named ids id = position (λ other. is_same other id) ids

abbrev pub all_differ : List Id → Bool
all_differ [] = true
all_differ (id ∷ rest) = not (is_among rest id) && all_differ rest
