use Rattle.std.proofs.Common.{subst}
use Rattle.memchr.specs.Find.{TakesFirst, is_byte2}
use Rattle.csv_rows.proofs.Cuts.{first-next, plain-first}
use Rattle.csv_rows.proofs.lines.is_plain.Goals as goal

pub returns : goal.returns
returns c =
    let first = first-next (is_byte2 34 239) c.args.text.now c.next.result c.next.new.self
    (subst (λ all. TakesFirst all c.next.result c.next.new.self) c.memchr2_iter.ensures.value c.next.ensures.steps) in
    plain-first c.args.text.now c.next.result c.is_none.result first c.is_none.ensures
