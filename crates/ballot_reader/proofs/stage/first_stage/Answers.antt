use Rattle.std.proofs.Common.{List, sym, subst}
use Rattle.std.specs.Prelude.{option_copied}
use Rattle.csv_rows.specs.Rows.{Fields}
use Rattle.ballot_reader.specs.Stages.{HasReached}
use Rattle.ballot_reader.proofs.stage.first_stage.Goals as goal

pub returns-in_ok-added-in-Ok-clause-read : goal.returns-in_ok-added-in-Ok-clause-read
returns-in_ok-added-in-Ok-clause-read c =
    let asked = option_copied c.args.asked in
    let (first, split, begun) = c.in-Ok.ensures.begun in
    subst (λ (l : List Fields). HasReached asked l c.in_ok-added-in-Ok.field-0) (sym split) (c.in_ok-added-in-Ok.ensures.reached asked first begun)

pub returns-in-Err-Refused-clause-none : goal.returns-in-Err-Refused-clause-none
returns-in-Err-Refused-clause-none c =
    let refused = rw c.in-Err-Refused.field-0-is at c.in-Err-Refused.ensures.refused in
    (record { rule = c.in-Err-Refused.field-0-0; at = c.in-Err-Refused.field-0-1 }, refused)
