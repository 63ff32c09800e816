use Rattle.std.proofs.Common.{not, Bor, List, ℕ, Bool, ◌≡◌, ◌∙◌, ◌∷◌, [], sym, ap, true, false, if◌then◌else◌}
use Rattle.std.proofs.lemmas.Bool.{not-false}
use Rattle.csv.specs.Records.{fields_of}
use Rattle.csv.specs.declared.reader.Reader.{Reader}
use Rattle.csv_rows.specs.Rows.{Fields, records_left, bytes_left}
use Rattle.csv_rows.proofs.Reading.{TakesOff, read-takes_off, read-between}
use Rattle.csv_rows.proofs.rows.Rows.read.Goals as goal

-- what is left after a read that takes a record or reaches the end
left : (a b : Reader (Bor (List ℕ))) (found : Bool) (f : Fields) → TakesOff a.state b.state (bytes_left a) (bytes_left b) found f
    → records_left false a ≡ (if found then f ∷ records_left (not found) b else [])
left a b true f t = t.records
left a b false f t = t.records

pub invariant_of-self-2 : goal.invariant_of-self-2
invariant_of-self-2 c g =
    let i = c.self.invariant c.if-self.false in
    let e = c.in-Ok.ensures in
    let found = not-false c.in-Ok.found g in
    read-between c.self.inside.reader c.read_byte_record.new.self (fields_of c.read_byte_record.new.row) i (rw found at (e.reads i.trim i.ready))
    (e.ready i.trim) e.flexible

pub returns-clause-next : goal.returns-clause-next
returns-clause-next c =
    let i = c.self.invariant c.if-self.false in
    let f = fields_of c.read_byte_record.new.row in
    let t = read-takes_off c.self.inside.reader c.read_byte_record.new.self c.in-Ok.found f i (c.in-Ok.ensures.reads i.trim i.ready) in
    sym c.self.view_is ∙ rw c.if-self.false (left c.self.inside.reader c.read_byte_record.new.self c.in-Ok.found f t)

pub returns-clause-end : goal.returns-clause-end
returns-clause-end c = λ none. ap (λ found. records_left (not found) c.read_byte_record.new.self) none
