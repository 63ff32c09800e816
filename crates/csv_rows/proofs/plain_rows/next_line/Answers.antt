use Rattle.std.proofs.Common.{◌∙◌, sym}
use Rattle.csv.specs.Reading.{default_config, records}
use Rattle.csv_rows.specs.Lines.{behind_line, fields_in}
use Rattle.csv_rows.proofs.Plain.{behind-less, line-blank, line-full, line-step, none-left, plain-behind, plain-line}
use Rattle.csv_rows.proofs.plain_rows.next_line.Goals as goal

pub returns-then-not-is_blank_line-clause-first : goal.returns-then-not-is_blank_line-clause-first
returns-then-not-is_blank_line-clause-first c =
    let line = c.loop-left.left.now in
    let full = sym c.is_blank_line.ensures ∙ c.if-not-is_blank_line.true in
    rw c.cut_line-marks.ensures.behind (c.loop-left.invariant.same ∙ line-step line (plain-line line c.loop-left.invariant.plain) ∙ line-full (fields_in line) (records default_config (behind_line line)) full)

pub returns-then-not-is_blank_line-clause-plain : goal.returns-then-not-is_blank_line-clause-plain
returns-then-not-is_blank_line-clause-plain c = rw c.cut_line-marks.ensures.behind (plain-behind c.loop-left.left.now c.loop-left.invariant.plain)

pub loop-left-smaller : goal.loop-left-smaller
loop-left-smaller c = rw c.cut_line-marks.ensures.behind (behind-less c.loop-left.left.now (sym c.is_empty.ensures ∙ c.loop-left-test.true))

pub loop-left-preserved : goal.loop-left-preserved
loop-left-preserved c =
    let line = c.loop-left.left.now in
    let blank = sym c.is_blank_line.ensures ∙ c.if-not-is_blank_line.false in
    record {
      plain = rw c.cut_line-marks.ensures.behind (plain-behind line c.loop-left.invariant.plain);
      same = rw c.cut_line-marks.ensures.behind (c.loop-left.invariant.same ∙ line-step line (plain-line line c.loop-left.invariant.plain) ∙ line-blank (fields_in line) (records default_config (behind_line line)) blank);
    }

pub returns-clause-end : goal.returns-clause-end
returns-clause-end c = c.loop-left.invariant.same ∙ none-left c.loop-left.left.now (sym c.is_empty.ensures ∙ c.loop-left-test.false)
