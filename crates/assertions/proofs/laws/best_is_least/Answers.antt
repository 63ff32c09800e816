use Rattle.irv_base.proofs.Members.{member-from_contains}
use Rattle.assertions.specs.Suffixes.{alternative_orders}
use Rattle.assertions.proofs.Alternatives.{best-le}
use Rattle.assertions.proofs.laws.best_is_least.Goals as goal

pub returns : goal.returns
returns c = λ n winner hardness order h. best-le n winner hardness order (member-from_contains order (alternative_orders n winner) h)
