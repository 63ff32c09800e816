use Rattle.std.proofs.Common.{◌+◌, ◌≤◌, length, arith}
use Rattle.memchr.specs.Find.{is_byte2}
use Rattle.csv_rows.proofs.Marks.{seen-all, seen-first}
use Rattle.csv_rows.proofs.lines.first_line_end.Goals as goal

pub returns-then-more-lt-LINE_LANES : goal.returns-then-more-lt-LINE_LANES
returns-then-more-lt-LINE_LANES c =
    let look = c.bytes_in_line-more in
    seen-first (is_byte2 13 10) c.args.text.now c.loop-from.from 64 look.result (omega (arith, c.loop-from-test.true, c.loop-from.invariant.within)) look.ensures
    c.loop-from.invariant.before (c.loop-from.from + look.result) (omega arith) c.if-more-lt-LINE_LANES.true

pub loop-from-preserved : goal.loop-from-preserved
loop-from-preserved c =
    let look = c.bytes_in_line-more in
    let room : c.loop-from.from + 64 ≤ length c.args.text.now = omega (arith, c.loop-from-test.true, c.loop-from.invariant.within) in
    record {
      within = room;
      before = seen-all (is_byte2 13 10) c.args.text.now c.loop-from.from 64 look.result room look.ensures c.loop-from.invariant.before
          (c.loop-from.from + 64) (omega arith) (λ less. omega (arith, less, c.if-more-lt-LINE_LANES.false));
    }
