use Rattle.std.proofs.Common.{sym, ◌∙◌}
use Rattle.set_flow.proofs.Turning.{turned-in, without-less}
use Rattle.set_flow.proofs.searching.turned.Goals as goal

pub returns-then-has : goal.returns-then-has
returns-then-has c =
    let t = sym c.has.ensures ∙ c.if-has.true in
    without-less c.args.set c.args.c c.without.result t c.without.ensures ∙ sym (turned-in c.args.set c.args.c t)
