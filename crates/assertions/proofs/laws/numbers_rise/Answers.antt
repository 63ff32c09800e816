use Rattle.std.proofs.Common.{sym, ap, ◌∙◌}
use Rattle.std.proofs.lemmas.Cmp.{nat_cmp_total, tied_itself}
use Rattle.std.specs.Ordering.{nat_cmp}
use Rattle.assertions.specs.FixedOrder.{number_of}
use Rattle.assertions.proofs.Numbers.{numbers-rise}
use Rattle.assertions.proofs.Ords.{cmp-Equal}
use Rattle.assertions.proofs.laws.numbers_rise.Goals as goal

pub returns : goal.returns
returns c = λ a b h g. (
  numbers-rise a b h g,
  λ e. (cmp-Equal a b).0 (sym (numbers-rise a b h g) ∙ ap (nat_cmp (number_of a)) (sym e) ∙ tied_itself nat_cmp_total (number_of a)),
)
