use Rattle.assertions.proofs.Ords.{cmp-Less, cmp-Equal}
use Rattle.assertions.proofs.laws.fixed_order_is_ord.Goals as goal

pub returns : goal.returns
returns c = λ a b. (cmp-Less a b, cmp-Equal a b)
