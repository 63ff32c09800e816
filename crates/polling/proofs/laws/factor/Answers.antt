use Rattle.std.proofs.Common.{arith}
use Rattle.polling.proofs.laws.factor.Goals as goal

pub returns : goal.returns
returns c = λ gamma s. record { over = omega arith; under = omega arith }
