-- What the code's pieces and sorts of words mean.
use Rattle.command_line.specs.Pieces.{Piece, File, Given, Stray, WordSort, Dashes, Plain, Flagged, Named, Valued, Unknown}
use Rattle.command_line.specs.declared.pieces.Piece.{Piece as CodePiece}
use Rattle.command_line.specs.declared.pieces.Piece.TheVariants as piece_of
use Rattle.command_line.specs.declared.pieces.WordSort.{WordSort as CodeSort}
use Rattle.command_line.specs.declared.pieces.WordSort.TheVariants as sort_of

abbrev pub piece : CodePiece → Piece
piece (piece_of.File name) = File name.now
piece (piece_of.Given option value) = Given option value.now
piece piece_of.Stray = Stray

abbrev pub sort : CodeSort → WordSort
sort sort_of.Dashes = Dashes
sort sort_of.Plain = Plain
sort (sort_of.Flagged option) = Flagged option
sort (sort_of.Named option) = Named option
sort (sort_of.Valued option value) = Valued option value.now
sort sort_of.Unknown = Unknown
