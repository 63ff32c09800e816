-- There are at most as many pieces as words.
use Rattle.std.proofs.Common.{◌≡◌, ◌≤◌, ◌<◌, ◌+◌, ◌^◌, ℕ, List, [], ◌∷◌, Option, Some, None, String, length, map, refl, arith}
use Rattle.std.specs.declared.alloc.Global.{Global}
use Rattle.command_line.specs.Words.{texts}
use Rattle.command_line.specs.Pieces.{Piece, File, WordSort, Dashes, Plain, Flagged, Named, Valued, Unknown, pieces, pieces_at, pieces_from, word_sort}
use Rattle.command_line.specs.declared.table.OptionName.{OptionName}

length-files : (words : List (List ℕ)) → length (map File words) ≡ length words
length-files [] = refl
length-files (word ∷ words) = let h = length-files words in omega (arith, h)

abbrev waits : Option OptionName → ℕ
waits None = 0
waits (Some option) = 1

at_most : (options : List OptionName) (waiting : Option OptionName) (words : List (List ℕ)) →
    length (pieces_from options waiting words) ≤ length words + waits waiting
at_most options (Some option) [] = omega arith
at_most options (Some option) (word ∷ words) = let h = at_most options None words in omega (arith, h)
at_most options None [] = omega arith
at_most options None (word ∷ words) = by (word_sort options word) (λ waiting. at_most options waiting words) where
  more : Option OptionName → List Piece
  more waiting = pieces_from options waiting words

  by : (sort : WordSort) → ((waiting : Option OptionName) → length (pieces_from options waiting words) ≤ length words + waits waiting)
      → length (pieces_at sort word words (λ waiting. pieces_from options waiting words)) ≤ length (word ∷ words) + 0
  by Dashes h = omega (arith, length-files words)
  by Plain h = omega (arith, h None)
  by (Flagged option) h = omega (arith, h None)
  by (Named option) h = omega (arith, h (Some option))
  by (Valued option value) h = omega (arith, h None)
  by Unknown h = omega (arith, h None)

length-texts : (words : List (String Global)) → length (texts words) ≡ length words
length-texts [] = refl
length-texts (word ∷ words) = let h = length-texts words in omega (arith, h)

pub few : (options : List OptionName) (words : List (String Global)) → length words < 2 ^ 64 → length (pieces options (texts words)) < 2 ^ 64
few options words h = omega (arith, at_most options None (texts words), length-texts words, h)
