use Rattle.std.proofs.Common.{◌≡◌, ◌∙◌, drop, Option, Some, None, sym, ap, Bor}
use Rattle.std.specs.Iterator.{YieldsFirstRef}
use Rattle.std.proofs.lemmas.List.{drop-drop}
use Rattle.csv.specs.Records.{fields_of}
use Rattle.csv_rows.specs.Fields.{trimmed_fields}
use Rattle.csv_rows.specs.Rows.{Fields}
use Rattle.irv_base.specs.Names.{Id}
use Rattle.seen_file.proofs.record.fields_behind.Goals as goal

one-less : (s : Fields) (o : Option (Bor Id)) (s' : Fields) → YieldsFirstRef (λ (fields : Fields). fields) s o s' → s' ≡ drop 1 s
one-less s None s' e = e.1 ∙ sym (ap (drop 1) e.0)
one-less s (Some x) s' e = sym (ap (drop 1) e)

pub loop-preserved : goal.loop-preserved
loop-preserved c =
    one-less c.loop.fields c.next.result c.next.new.self c.next.ensures.steps ∙ ap (drop 1) c.loop.invariant
    ∙ drop-drop 1 c.loop.counter (trimmed_fields (fields_of c.args.row.now))
