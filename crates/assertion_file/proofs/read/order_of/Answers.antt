use Rattle.std.proofs.Common.{length}
use Rattle.std.proofs.lemmas.Bool.{false_from_ne_true}
use Rattle.irv_base.specs.Orders.{is_order}
use Rattle.irv_base.proofs.Suffixes.{never-refused}
use Rattle.assertion_file.proofs.read.order_of.Goals as goal

pub returns-in-Err-clause-none : goal.returns-in-Err-clause-none
returns-in-Err-clause-none c =
    let n = length c.args.names.now in
    false_from_ne_true (is_order n c.args.numbers.now) (λ order. never-refused n c.args.numbers.now c.in-Err._bad order c.in-Err.ensures.refused)
