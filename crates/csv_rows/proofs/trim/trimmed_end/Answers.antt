use Rattle.std.proofs.Common.{◌∙◌, ◌-◌, take, get_or, sym, ap, arith}
use Rattle.csv_rows.specs.Fields.{trimmed_end}
use Rattle.csv_rows.proofs.Ends.{end-blank, end-stays, take_last}
use Rattle.csv_rows.proofs.trim.trimmed_end.Goals as goal

pub loop-len-preserved : goal.loop-len-preserved
loop-len-preserved c =
    let text = c.args.text.now in
    let len = c.loop-len.len in
    let step = take_last text len c.loop-len-test.true c.loop-len.invariant.within in
    record {
      within = omega (arith, c.loop-len.invariant.within);
      same = sym (end-blank (take (len - 1) text) (get_or text (len - 1) 0) (sym c.is_blank.ensures ∙ c.if-not-is_blank.false)) ∙ ap trimmed_end (sym step)
          ∙ c.loop-len.invariant.same;
    }

pub returns-then-not-is_blank : goal.returns-then-not-is_blank
returns-then-not-is_blank c =
    let text = c.args.text.now in
    let len = c.loop-len.len in
    let step = take_last text len c.loop-len-test.true c.loop-len.invariant.within in
    step ∙ sym (end-stays (take (len - 1) text) (get_or text (len - 1) 0) (sym c.is_blank.ensures ∙ c.if-not-is_blank.true)) ∙ ap trimmed_end (sym step)
    ∙ c.loop-len.invariant.same
