-- The places of fields: in a record that `csv` read, or in a line of a plain text.
use Rattle.csv_rows.specs.Rows.{Fields}
use Rattle.csv_rows.specs.declared.fields.Place.{Place}
use Rattle.csv_rows.specs.declared.fields.Place.TheVariants.{Record, Line}

abbrev pub fields_at : Place → Fields
fields_at (Record fields) = fields
fields_at (Line fields) = fields
