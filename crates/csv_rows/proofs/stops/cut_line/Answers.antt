use Rattle.std.proofs.Common.{◌∙◌, ◌+◌, drop, sym, ap, add-one, arith}
use Rattle.csv_rows.specs.Lanes.{is_low}
use Rattle.csv_rows.proofs.Bare.{low-lines}
use Rattle.csv_rows.proofs.Cuts.{behind-cut, rest-from}
use Rattle.csv_rows.proofs.Marks.{seen-first}
use Rattle.csv_rows.proofs.stops.cut_line.Goals as goal

pub returns-then-is_line_end-clause-behind : goal.returns-then-is_line_end-clause-behind
returns-then-is_line_end-clause-behind c =
    let text = c.args.text.now in
    let end = c.marks_and_low-marks.result.1 in
    let found = seen-first is_low text 0 64 end (omega (arith, c.if-text-lt-MARK_LANES.false)) c.marks_and_low-marks.ensures.low
    (λ k lower high. absurd (omega (arith, high))) end (omega arith) c.if-low-lt-MARK_LANES.true in
    rest-from (end + 1) text ∙ ap (λ n. drop n text) (add-one end)
    ∙ sym (behind-cut text end found.0.high (low-lines text end found.0.before) (sym c.is_line_end.ensures ∙ c.if-is_line_end.true))
