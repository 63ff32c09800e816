-- The card of a draw: the SHA-256 (FIPS 180-4) of the seed, a comma and the number of the draw, modulo the number of cards, plus 1.
use Rattle.std.specs.Prelude.{ℕ, ◌+◌, ◌*◌, ◌%◌, ◌^◌, List, [], ◌∷◌, ◌++◌, length, decimal}
use Rattle.sha2.specs.Sha256.{sha256}

abbrev pub comma : ℕ
comma = 0x2C

-- the bytes as one number, most significant first
abbrev pub number_of : List ℕ → ℕ
number_of [] = 0
number_of (byte ∷ rest) = byte * 256 ^ length rest + number_of rest

-- the card that a digest names, counted from 1
abbrev pub card_of : List ℕ → ℕ → ℕ
card_of digest cards = number_of digest % cards + 1

-- what is hashed for draw number k
abbrev pub draw_text : List ℕ → ℕ → List ℕ
draw_text seed k = seed ++ comma ∷ decimal k

-- the card of draw number k, counted from 1
abbrev pub drawn_card : List ℕ → ℕ → ℕ → ℕ
drawn_card seed k cards = card_of (sha256 (draw_text seed k)) cards
