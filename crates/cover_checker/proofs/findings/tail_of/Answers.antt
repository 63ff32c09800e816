use Rattle.std.proofs.Common.{◌∙◌, length, ap}
use Rattle.irv_base.specs.Suffixes.{is_suffix}
use Rattle.cover_checker.proofs.Tails.{order-suffix}
use Rattle.cover_checker.proofs.findings.tail_of.Goals as goal

pub of-requires-clause-suffix : goal.of-requires-clause-suffix
of-requires-clause-suffix c =
    let order = c.args.order.now in
    ap (is_suffix c.len.result) c.candidates.ensures.same ∙ ap (λ n. is_suffix n order) c.len.ensures.same
    ∙ order-suffix (length order) order c.candidates.ensures.order
