use Rattle.std.proofs.Common.{sym, ◌∙◌}
use Rattle.set_search.proofs.Deciding.{same_order}
use Rattle.set_search.proofs.laws.same_by_nodes.Goals as goal

pub returns : goal.returns
returns c = λ n winner sets nodes records x y f g.
    (f.claims ∙ sym g.claims, f.margin ∙ sym g.margin, same_order x.order y.order (sym f.order ∙ g.order))
