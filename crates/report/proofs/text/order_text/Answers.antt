use Rattle.std.proofs.Common.{◌<◌, All, length, subst, sym}
use Rattle.assertion_file.proofs.Orders.{All-order}
use Rattle.report.proofs.text.order_text.Goals as goal

pub joined-requires : goal.joined-requires
joined-requires c =
    subst (λ cs. All (λ x. x < length c.args.names.now) cs) (sym c.candidates.ensures.same)
    (subst (λ n. All (λ x. x < n) c.args.o.now) (sym c.requires) (All-order (length c.args.o.now) c.args.o.now c.candidates.ensures.order))
