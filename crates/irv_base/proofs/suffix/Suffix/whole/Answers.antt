use Rattle.std.proofs.Common.{ap, sym, ◌∙◌}
use Rattle.irv_base.specs.Orders.{is_order}
use Rattle.irv_base.proofs.Suffixes.{suffix_whole}
use Rattle.irv_base.proofs.suffix.Suffix.whole.Goals as goal

pub to_order-requires-clause-whole : goal.to_order-requires-clause-whole
to_order-requires-clause-whole c =
    let long = sym c.len.ensures.same ∙ c.if-len-n.true in
    ap (λ n. is_order n c.args.self.now) long ∙ suffix_whole c.args.n c.args.self.now c.requires.below long
