-- Ids as words of eight bytes, by which they are compared.
use Rattle.std.specs.Prelude.{ℕ, ◌-◌, List, [], ◌∷◌, ◌++◌, length, take, drop, replicate, map}
use Rattle.std.specs.Int.{w64, from_be_bytes}
use Rattle.irv_base.specs.Names.{Id}
use Rattle.irv_base.specs.declared.limits.TheConstants.{MOST_NAME_BYTES}

-- the eight bytes from a place on, most significant first
unfoldable pub word_at : List ℕ → ℕ → ℕ
word_at text at = from_be_bytes w64 (take 8 (drop at text))

-- an id padded with zeros
abbrev pub filled : Id → List ℕ
filled id = id ++ replicate (MOST_NAME_BYTES - length id) 0

-- the words of an id with at most MOST_NAME_BYTES bytes
abbrev pub words_of : Id → List ℕ
words_of id =
    map (word_at (filled id)) (0 ∷ 8 ∷ 16 ∷ 24 ∷ 32 ∷ 40 ∷ 48 ∷ 56 ∷ [])
