use Rattle.shared_witness.proofs.Joined.{joining_keeps_looks, joining_keeps_closed}
use Rattle.shared_witness.proofs.laws.joining_loses_nothing.Goals as goal

pub returns : goal.returns
returns c m k v i w here there apart = (joining_keeps_looks m k v i w here there apart, λ p. joining_keeps_closed m k v i w here there apart p)
