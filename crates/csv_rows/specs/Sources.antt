-- What records are read from: the lines of a plain text, or what `csv` reads.
use Rattle.csv_rows.specs.Rows.{Reading}
use Rattle.csv_rows.specs.declared.records.Source.{Source}
use Rattle.csv_rows.specs.declared.records.Source.TheVariants.{Plain, Csv}

abbrev pub reading_of : Source → Reading
reading_of (Plain rows) = rows
reading_of (Csv rows) = rows
