use Rattle.assertions.specs.Assertions.{assertions}
use Rattle.assertions.proofs.FixedOrders.{Before, sorted-assertions}
use Rattle.assertions.proofs.Sorted.{sorted-get}
use Rattle.assertions.proofs.laws.assertions_rise.Goals as goal

pub returns : goal.returns
returns c = λ n. sorted-get Before (assertions n) (sorted-assertions n)
