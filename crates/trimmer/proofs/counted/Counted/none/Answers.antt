use Rattle.std.proofs.Common.{unwrap_or, ap}
use Rattle.std.specs.Map.{lookup}
use Rattle.std.specs.Ordering.{is_eq}
use Rattle.assertions.specs.FixedOrder.{fixed_order}
use Rattle.trimmer.specs.Counted.{alike}
use Rattle.trimmer.proofs.counted.Counted.none.Goals as goal

pub returns : goal.returns
returns c = record {
  times_are = λ a. ap (λ entries. unwrap_or (lookup (λ key. is_eq (fixed_order (alike a) key)) entries) 0) c.new.ensures.empty;
  index = c.in_ok-nothing.ensures;
}
