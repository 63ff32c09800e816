use Rattle.std.proofs.Common.{length, sym}
use Rattle.std.proofs.lemmas.Bool.{false_from_ne_true}
use Rattle.irv_base.specs.Orders.{is_order}
use Rattle.irv_base.proofs.Suffixes.{never-refused}
use Rattle.claims_file.proofs.read.has_each.Goals as goal

pub returns-in-Err : goal.returns-in-Err
returns-in-Err c =
    let n = length c.args.names.now in
    sym (false_from_ne_true (is_order n c.args.numbers.now) (λ order. never-refused n c.args.numbers.now c.in-Err._bad order c.in-Err.ensures.refused))
